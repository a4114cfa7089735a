use Prim.Native.Nat.{ℕ, ◌<◌}
use mathlib.Core.Path.{◌≡◌}
use mathlib.Core.Bool.{Bool}
use Rattle.search.proofs.NearPlaces.{Rowing}
use Rattle.search.proofs.marks.row_where.Given as goal

abbrev pub invariant-loop-c : goal.invariant-loop-c
invariant-loop-c g l = Rowing (λ f. (i : ℕ) (b : Bool) → i < l.len → goal.F-post g l.passes i b → b ≡ f i) l.row l.bit l.c
