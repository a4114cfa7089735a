use Rattle.sets.proofs.Taking.{Clearing}
use Rattle.sets.proofs.clear.clear_in.Given as goal

abbrev pub invariant-loop-w : goal.invariant-loop-w
invariant-loop-w l = Clearing l.fn.places.x l.fn.places.y l.fn.places.z l.ends l.losses l.rows l.w-index
