-- A leg is clear exactly if none of the losses lies on it.
use Prim.Native.Nat.{ℕ, ◌<◌}
use mathlib.Core.Path.{◌≡◌, sym, ◌∙◌}
use mathlib.Core.Bool.{Bool, true, false, not, true≢false}
use mathlib.Core.List.{List}
use lib.ListN.{get_or}
use borrow.Author.Tests.{not-true}
use Rattle.theory.specs.Clear.{Clear, clear}
use Rattle.theory.proofs.Cases.{test}
use Rattle.theory.proofs.Clear.{clear_iff}
use Rattle.shape.specs.declared.shape.Shape.{Shape}
use Rattle.shape.specs.Shape.{shape_error}
use Rattle.machine.specs.declared.leg.Mode.{Mode}
use Rattle.machine.specs.Number.{node_count, coords_of, Inside}
use Rattle.machine.specs.Torus.{torus_by, leg}
use Rattle.machine.proofs.Torus.{torus_by_laws}
use Rattle.legs.proofs.Clearing.{clear_legs_law}
use Rattle.losses.specs.Loss.{loss_at, loss_kind, names, some_below, sound_but, loss_meets, on_leg}
use Rattle.losses.proofs.SomeBelow.{some_true, true_some}
use Rattle.losses.proofs.Lies.{loss_lies}

module _ (ties : ℕ → Bool) (m : Mode) (s : Shape) (h : shape_error s ≡ 0) (a t : ℕ) (ha : a < node_count s) (ht : t < node_count s)
    (losses : List ℕ) (count : ℕ) (nodes : (i : ℕ) → i < count → loss_kind (get_or losses i 0) ≡ 9 → Inside s (loss_at (get_or losses i 0))) where
  abbrev met : ℕ → Bool
  met i = loss_meets ties m s (get_or losses i 0) (coords_of s a) (coords_of s t)

  no_loss : Clear (torus_by ties s) (sound_but s losses count) (leg t m) a → some_below count met ≡ true → ⊥
  unfolding sound_but
  no_loss c e =
      let k = true_some count met e in
      let w = (loss_lies ties m s h a t ha ht (get_or losses k.0 0) (nodes k.0 k.1)).met k.2 in
      let sound = (clear_legs_law s h a t ha ht ties m (sound_but s losses count)).0 c w.node w.dir w.below w.crossed in
      let lost = some_true count (λ i. names s (get_or losses i 0) w.node w.dir) k.0 k.1 w.named in
      true≢false (sym lost ∙ not-true _ sound)

  all_sound : some_below count met ≡ false → Clear (torus_by ties s) (sound_but s losses count) (leg t m) a
  unfolding sound_but
  all_sound e = (clear_legs_law s h a t ha ht ties m (sound_but s losses count)).1 (λ u d l q.
      test (some_below count (λ i. names s (get_or losses i 0) u d))
      (λ y.
      let k = true_some count (λ i. names s (get_or losses i 0) u d) y in
      let lies = (loss_lies ties m s h a t ha ht (get_or losses k.0 0) (nodes k.0 k.1)).lies u d l k.2 q in
      absurd (true≢false (sym (some_true count met k.0 k.1 lies) ∙ e)))
      (λ y. rw y))

  -- With any rule for half a ring, and any losses of which those of whole nodes are of nodes.
  pub clear_but : clear (torus_by ties s) (sound_but s losses count) (leg t m) a ≡ not (on_leg ties m s losses count (coords_of s a) (coords_of s t))
  unfolding on_leg
  clear_but =
      let c = clear_iff (torus_by ties s) (torus_by_laws ties s h) (sound_but s losses count) (leg t m) ht a ha in
      test (some_below count met)
      (λ e. rw e (test (clear (torus_by ties s) (sound_but s losses count) (leg t m) a) (λ y. absurd (no_loss (c.0 y) e)) (λ y. y)))
      (λ e. rw e (c.1 (all_sound e)))
