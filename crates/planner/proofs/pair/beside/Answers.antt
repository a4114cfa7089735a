use Prim.Native.Nat.{ℕ}
use Rattle.planner.proofs.Pairs.{beside_is}
use lib.ListN.{length-replicate}
use Rattle.planner.proofs.pair.beside.Goals as goal

pub returns : goal.returns
returns c = λ p S D g. beside_is p _ S D _ _ g _ c.box_of.ensures _ _ (length-replicate {A = ℕ} 256 65535) c.less.ensures
