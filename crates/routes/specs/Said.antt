-- What an entry says of its destination, and the entry that says it.
use Rattle.std.specs.Prelude.{ℕ, zero, suc, ◌/◌, ◌%◌, cond, [], ◌∷◌, get_or, eqb}
use Rattle.machine.specs.declared.leg.Mode.{Mode}
use Rattle.machine.specs.declared.leg.Mode.TheVariants.{Adaptive, Deterministic}
use Rattle.machine.specs.Torus.{leg}
use Rattle.numbers.specs.Refusals.{number}
use Rattle.packet.specs.New.{legs_to}
use Rattle.choice.specs.declared.outcome.Outcome.{Outcome}
use Rattle.choice.specs.Choice.{vias_of}
use Rattle.choice.specs.Answer.{Answer, Given, Refused}
use Rattle.routes.specs.declared.layout.Entry.{Entry}
use Rattle.routes.specs.Kinds.{kind_of, refused_kind}

-- The mode by the lowest bit.
unfoldable pub mode_by : ℕ → Mode
mode_by bits = cond (eqb (bits % 2) 1) Deterministic Adaptive

-- By how many vias the kind tells. 160 and 176 are 16 × the number of the refusal.
abbrev pub said_with : ℕ → ℕ → Entry → Answer
said_with zero k e = Given (leg e.dest (mode_by k) ∷ [])
said_with (suc zero) k e = Given (leg e.via (mode_by k) ∷ leg e.dest (mode_by (k / 2)) ∷ [])
said_with (suc (suc zero)) k e = Given (leg e.via (mode_by k) ∷ leg e.second (mode_by (k / 2)) ∷ leg e.dest (mode_by (k / 4)) ∷ [])
said_with (suc (suc (suc n))) k e = Refused (suc (suc (suc n)))

unfoldable pub said_by : Entry → Answer
said_by e = said_with (e.kind / 16) e.kind e

-- The entry that says it of the destination d. An absent via is 0.
unfoldable pub entry_for : ℕ → Answer → Entry
entry_for d (Given c) = record { dest = d; kind = kind_of c; via = get_or (vias_of c) 0 0; second = get_or (vias_of c) 1 0 }
entry_for d (Refused e) = record { dest = d; kind = refused_kind e; via = 0; second = 0 }

-- The code's enum, of the destination d, as an answer.
unfoldable pub heard : ℕ → Outcome → Answer
heard d (Outcome.Given r len) = Given (legs_to d r)
heard d (Outcome.Refused e) = Refused (number e)
