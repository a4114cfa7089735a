-- Of an accepted plan: a leg is clear exactly if none of the plan's losses lies on it.
use Prim.Native.Nat.{ℕ, ◌<◌}
use mathlib.Core.Path.{◌≡◌, sym, ◌∙◌}
use mathlib.Core.Bool.{not}
use mathlib.Core.List.{List}
use Rattle.theory.specs.Clear.{clear}
use Rattle.theory.proofs.Clear.{clear_same}
use Rattle.machine.specs.declared.leg.Mode.{Mode}
use Rattle.machine.specs.Number.{node_count, coords_of}
use Rattle.machine.specs.Hop.{rule}
use Rattle.machine.specs.Torus.{torus, leg}
use Rattle.machine.proofs.Laws.{useful_link}
use Rattle.machine.proofs.Torus.{torus_laws, allowed_useful}
use Rattle.plan.specs.Layout.{shape_of}
use Rattle.plan.specs.Checks.{large, torus_plans, plan_error}
use Rattle.plan.proofs.Plans.{accepted}
use Rattle.choice.specs.Pair.{sound_in}
use Rattle.losses.specs.Loss.{sound_but, on_leg}
use Rattle.losses.specs.OfPlan.{AreLosses}
use Rattle.losses.proofs.Sound.{loss_inside, sound_but_law}
use Rattle.losses.proofs.Clearing.{clear_but}

module _ (p : List ℕ) (h : plan_error large p ≡ 0) (words : List ℕ) (count : ℕ) (l : AreLosses p words count) where
  pub clear_is :
      (a t : ℕ) → a < node_count (shape_of p) → t < node_count (shape_of p) → (m : Mode) →
      clear (torus (shape_of p)) (sound_in p) (leg t m) a ≡ not (on_leg rule m (shape_of p) words count (coords_of (shape_of p) a) (coords_of (shape_of p) t))
  clear_is a t ha ht m =
      let s = shape_of p in
      let k = (accepted torus_plans large p h).shape in
      sym
      (clear_same (torus s) (torus_laws s k) (sound_but s words count) (sound_in p)
      (λ x n d at end z. sound_but_law p h words count l n d at (useful_link s n x.target d (allowed_useful s k n x.target at end x.mode d z)))
      (leg t m) a ha ht)
      ∙ clear_but rule m s k a t ha ht words count (λ i b e. loss_inside p h words count l i b)
