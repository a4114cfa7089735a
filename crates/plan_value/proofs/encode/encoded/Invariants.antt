use lib.ListN.{length, get_or}
use Rattle.plan_value.specs.Reading.{no_fault}
use Rattle.plan_value.proofs.Forms.{Encoded}
use Rattle.plan_value.proofs.encode.encoded.Given as goal

abbrev pub invariant-loop-i : goal.invariant-loop-i
invariant-loop-i l = Encoded l.size (length l.f-items) (λ k. get_or l.f-items k no_fault) l.initial.bytes l.bytes l.i
