-- Each hop of a walk is one step, and takes one of the bytes lent.
use Prim.Native.Nat.{ℕ, ◌≤◌}
use native.Mathlib.Omega.{arith}
use mathlib.Core.Path.{◌≡◌}
use mathlib.Core.Bool.{false, cond}
use mathlib.Core.List.{List, [], ◌∷◌}
use lib.ListN.{length}
use lib.Dec.{eqb}
use Rattle.theory.specs.Machine.{Machine}
use Rattle.theory.specs.Packet.{Packets, NotAllowed, may_go, arrived, halt, further, tried, step, goes, walk}
use Rattle.theory.proofs.Cases.{test}

module _ {Leg P : Type 0} (M : Machine Leg) (K : Packets Leg P) (q : P) (accepted : K.check q ≡ 0) where
  -- A walk that has not arrived takes its first byte by a step, and goes on from the packet that the step returns.
  pub walk_step :
      (d : ℕ) (ds : List ℕ) →
      arrived M K q ≡ false →
      walk M K q (d ∷ ds) ≡ cond (eqb (step M K q d).number 0) (further M K (goes M K (step M K q d).packet ds)) (halt M K q NotAllowed)
  unfolding walk goes step tried
  walk_step d ds a = rw (accepted, a) (test (may_go M K q d) (λ t. rw t) (λ t. rw t))

module _ {Leg P : Type 0} (M : Machine Leg) (K : Packets Leg P) where
  goes_most : (q : P) (ds : List ℕ) → (goes M K q ds).hops ≤ length ds
  unfolding goes
  goes_most q [] = test (arrived M K q) (λ e. rw e (omega arith)) (λ e. rw e (omega arith))
  goes_most q (d ∷ ds) =
      test (arrived M K q)
      (λ e. rw e (omega arith))
      (λ e. rw e (test (may_go M K q d) (λ t. rw t (omega (arith, goes_most (K.hop q d) ds))) (λ t. rw t (omega arith))))

  -- A walk takes no more hops than it is lent directions.
  pub walk_most : (q : P) (ds : List ℕ) → (walk M K q ds).hops ≤ length ds
  unfolding walk
  walk_most q ds = test (eqb (K.check q) 0) (λ e. rw e (goes_most q ds)) (λ e. rw e (omega arith))
