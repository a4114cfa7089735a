use Rattle.std.proofs.Common.{◌≡◌, ◌≤◌, drop}
use Rattle.text.specs.Decimal.{number_of, number_from}
use Rattle.text.proofs.decimal.read.Given as goal

abbrev pub invariant-loop-b : goal.invariant-loop-b
invariant-loop-b l = record { small : l.value ≤ l.most; same : number_of l.most l.s ≡ number_from l.most l.value (drop l.b-index l.s) }
