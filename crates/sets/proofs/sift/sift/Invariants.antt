use Rattle.sets.specs.Sift.{Sifted}
use Rattle.sets.proofs.sift.sift.Given as goal

abbrev pub invariant-loop-w : goal.invariant-loop-w
invariant-loop-w l = Sifted l.by l.bz l.ends l.losses l.w-index l.initial.kept l.kept l.found
