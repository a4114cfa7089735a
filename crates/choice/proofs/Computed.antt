-- The first clear choice as worked examples compute it: by `further_first` twice, so that no list of all choices is made; and a clear direct adaptive leg
-- at once.
use Prim.Native.Nat.{ℕ, zero, suc, ◌<◌}
use native.Mathlib.Omega.{arith}
use mathlib.Core.Path.{◌≡◌, refl, ap, ◌∙◌}
use mathlib.Core.Bool.{Bool, true, cond}
use mathlib.Core.List.{List, [], ◌∷◌, ◌++◌}
use mathlib.Core.Option.{Option, some}
use Rattle.theory.specs.Clear.{clear}
use Rattle.theory.specs.Choice.{best}
use Rattle.theory.specs.Plan.{planned}
use Rattle.theory.proofs.Cases.{test}
use Rattle.shape.specs.declared.shape.Shape.{Shape}
use Rattle.shape.specs.Shape.{shape_error}
use Rattle.machine.specs.declared.leg.Leg.{Leg}
use Rattle.machine.specs.declared.leg.Mode.TheVariants.{Adaptive}
use Rattle.machine.specs.Number.{node_count}
use Rattle.machine.specs.Torus.{leg, torus}
use Rattle.choice.specs.Choice.{Choice, before, over}
use Rattle.choice.specs.Further.{first_by, better, directly, alone, followed, furthered}
use Rattle.choice.specs.Search.{Lengths}
use Rattle.choice.specs.Pair.{route_by}
use Rattle.choice.proofs.AtTorus.{further_first, no_via_first}
use Rattle.choice.proofs.Shortest as Shortest

over_same : {C : Type 0} (n : ℕ) (f g : ℕ → List C) → ((v : ℕ) → v < n → f v ≡ g v) → over n f ≡ over n g
unfolding over
over_same zero f g h = refl
over_same (suc n) f g h = rw (h n (omega arith), over_same n f g (λ v lt. h v (omega arith)))

module _ (far : ℕ → ℕ → ℕ) (clear : Leg → ℕ → Bool) (n S : ℕ) where
  -- Of the first choices to each node with at most k vias, the first with one via more.
  unfoldable pub onward : (ℕ → Option Choice) → ℕ → Option Choice
  onward first D = cond (clear (leg D Adaptive) S) (some (leg D Adaptive ∷ [])) (best (before far S) (λ _. true) (alone (first D) ++ over n (λ w. followed (first w) (better clear w D))))

  -- With at most one via, and with at most two.
  unfoldable pub one_first : ℕ → Option Choice
  one_first D = onward (λ t. directly (better clear S t)) D

  unfoldable pub two_first : ℕ → Option Choice
  two_first D = onward one_first D

module _ (far : ℕ → ℕ → ℕ) (s : Shape) (F : Lengths s far) (h : shape_error s ≡ 0) (sound : ℕ → ℕ → Bool) (S : ℕ) (h_s : S < node_count s) where
  abbrev clears : Leg → ℕ → Bool
  clears = clear (torus s) sound

  onward_is :
      (k : ℕ) (first : ℕ → Option Choice) → ((t : ℕ) → t < node_count s → first_by far clears k (node_count s) S t ≡ first t) →
      (D : ℕ) → D < node_count s → first_by far clears (suc k) (node_count s) S D ≡ onward far clears (node_count s) S first D
  unfolding onward furthered
  onward_is k first e D h_d =
      test (clears (leg D Adaptive) S)
      (λ t. rw t (Shortest.direct_first far (node_count s) F.still F.triangle clears (suc k) S D h_s h_d t))
      (λ t. rw t (further_first far s F h sound S D h_s h_d k ∙ ap (best (before far S) (λ _. true))
      (rw (e D h_d) (ap (λ l. alone (first D) ++ l)
      (over_same (node_count s) (λ w. followed (first_by far clears k (node_count s) S w) (better clears w D)) (λ w. followed (first w) (better clears w D)) (λ w lt. rw (e w lt)))))))

  pub two_first_law : (D : ℕ) → D < node_count s → route_by far s sound S D ≡ two_first far clears (node_count s) S D
  unfolding route_by planned first_by one_first two_first
  two_first_law D h_d =
      onward_is 1 (one_first far clears (node_count s) S) (onward_is 0 (λ t. directly (better clears S t)) (λ t ht. no_via_first far s F h sound S t h_s ht t)) D h_d
