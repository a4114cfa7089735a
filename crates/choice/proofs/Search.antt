-- The search's steps at the machine of document 01. A direct adaptive leg that is clear is the route (`direct_first` of AtTorus); else the lowest via
-- between the ends with both legs clear and adaptive; else the lowest two such vias; else a direct deterministic leg that is clear.
use Prim.Native.Nat.{ℕ, ◌+◌, ◌<◌}
use native.Mathlib.Omega.{arith}
use mathlib.Core.Path.{◌≡◌, sym, ◌∙◌}
use mathlib.Core.Bool.{Bool, true, false, true≢false}
use mathlib.Core.List.{List, [], ◌∷◌}
use mathlib.Core.Option.{some}
use Rattle.theory.specs.Clear.{Allows, clear}
use Rattle.theory.specs.Plan.{planned}
use Rattle.theory.proofs.Clear.{clear_iff}
use Rattle.shape.specs.declared.shape.Shape.{Shape}
use Rattle.shape.specs.Shape.{shape_error}
use Rattle.machine.specs.declared.leg.Mode.TheVariants.{Adaptive, Deterministic}
use Rattle.machine.specs.Number.{node_count}
use Rattle.machine.specs.Hop.{neighbour}
use Rattle.machine.specs.Torus.{allowed_by, leg, torus_by, torus}
use Rattle.machine.proofs.Torus.{torus_by_laws, allowed_by_useful}
use Rattle.choice.specs.Choice.{Choice, most_vias}
use Rattle.choice.specs.Further.{first_by}
use Rattle.choice.specs.Search.{Forced, Lengths}
use Rattle.choice.specs.Pair.{route_by}
use Rattle.choice.proofs.AtTorus.{empty_adaptive}
use Rattle.choice.proofs.Shortest as Shortest
use Rattle.choice.proofs.Zero as Zero
use Rattle.choice.proofs.Forced as Modes

-- By any rule for half a ring: what a deterministic leg allows, an adaptive one does; so a clear adaptive leg is clear deterministically.
module _ (ties : ℕ → Bool) (s : Shape) (h : shape_error s ≡ 0) (sound : ℕ → ℕ → Bool) where
  allows_adaptive : (t p : ℕ) (ds : List ℕ) → p < node_count s → t < node_count s → Allows (torus_by ties s) (leg t Deterministic) p ds → Allows (torus_by ties s) (leg t Adaptive) p ds
  unfolding allowed_by
  allows_adaptive t p [] hp ht w = tt
  allows_adaptive t p (d ∷ ds) hp ht w =
      (allowed_by_useful s h p t hp ht ties Deterministic d w.0, allows_adaptive t (neighbour s p d) ds ((torus_by_laws ties s h).inside (leg t Deterministic) p d hp ht w.0) ht w.1)

  pub adaptive_clear : (t p : ℕ) → p < node_count s → t < node_count s → clear (torus_by ties s) sound (leg t Adaptive) p ≡ true → clear (torus_by ties s) sound (leg t Deterministic) p ≡ true
  adaptive_clear t p hp ht c =
      (clear_iff (torus_by ties s) (torus_by_laws ties s h) sound (leg t Deterministic) ht p hp).1
      (λ ds w. (clear_iff (torus_by ties s) (torus_by_laws ties s h) sound (leg t Adaptive) ht p hp).0 c ds (allows_adaptive t p ds hp ht w))

module _ (far : ℕ → ℕ → ℕ) (s : Shape) (F : Lengths s far) (h : shape_error s ≡ 0) (sound : ℕ → ℕ → Bool) (S D : ℕ) (h_s : S < node_count s) (h_d : D < node_count s) where
  -- The leg of the pair S, S is clear.
  pub blocked_apart : clear (torus s) sound (leg D Adaptive) S ≡ false → S ≡ D → ⊥
  blocked_apart blocked e = let c : clear (torus s) sound (leg D Adaptive) S ≡ true = rw (← e) (empty_adaptive s h sound S h_s) in true≢false (sym c ∙ blocked)

  -- v lies between S and D, both its legs are clear and adaptive, and this holds of no lower node.
  pub via_first :
      clear (torus s) sound (leg D Adaptive) S ≡ false →
      (v : ℕ) → v < node_count s →
      clear (torus s) sound (leg v Adaptive) S ≡ true → clear (torus s) sound (leg D Adaptive) v ≡ true → far S v + far v D ≡ far S D →
      ((u : ℕ) → u < v → clear (torus s) sound (leg u Adaptive) S ≡ true → clear (torus s) sound (leg D Adaptive) u ≡ true → far S u + far u D ≡ far S D → ⊥) →
      route_by far s sound S D ≡ some (leg v Adaptive ∷ leg D Adaptive ∷ [])
  unfolding route_by planned first_by
  via_first blocked v hv one two between lowest =
      Zero.via_first far (node_count s) F.still F.triangle (clear (torus s) sound) most_vias S D h_s h_d (blocked_apart blocked) blocked (omega arith) v hv one two between lowest

  -- There is no such node.
  module _
      (blocked : clear (torus s) sound (leg D Adaptive) S ≡ false)
      (no_via : (v : ℕ) → v < node_count s → clear (torus s) sound (leg v Adaptive) S ≡ true → clear (torus s) sound (leg D Adaptive) v ≡ true → far S v + far v D ≡ far S D → ⊥) where
    -- v lies between S and D, w between v and D, all three legs are clear and adaptive, and this holds of no lower first via, nor of v with a lower second one.
    pub two_vias_first :
        (v w : ℕ) → v < node_count s → w < node_count s →
        clear (torus s) sound (leg v Adaptive) S ≡ true → clear (torus s) sound (leg w Adaptive) v ≡ true → clear (torus s) sound (leg D Adaptive) w ≡ true →
        far S v + far v D ≡ far S D → far v w + far w D ≡ far v D →
        ((u x : ℕ) → u < v → clear (torus s) sound (leg u Adaptive) S ≡ true → clear (torus s) sound (leg x Adaptive) u ≡ true → clear (torus s) sound (leg D Adaptive) x ≡ true → x < node_count s → far S u + far u D ≡ far S D → far u x + far x D ≡ far u D → ⊥) →
        ((x : ℕ) → x < w → clear (torus s) sound (leg x Adaptive) v ≡ true → clear (torus s) sound (leg D Adaptive) x ≡ true → far v x + far x D ≡ far v D → ⊥) →
        route_by far s sound S D ≡ some (leg v Adaptive ∷ leg w Adaptive ∷ leg D Adaptive ∷ [])
    unfolding route_by planned first_by
    two_vias_first v w hv hw one two three between further lowest second =
        Zero.two_vias_first far (node_count s) F.still F.triangle (clear (torus s) sound) most_vias S D h_s h_d (blocked_apart blocked) blocked no_via (omega arith) v w hv hw one two three between further lowest second

    -- There are no such two nodes.
    pub deterministic_first :
        ((u x : ℕ) → u < node_count s → x < node_count s → clear (torus s) sound (leg u Adaptive) S ≡ true → clear (torus s) sound (leg x Adaptive) u ≡ true → clear (torus s) sound (leg D Adaptive) x ≡ true → far S u + far u D ≡ far S D → far u x + far x D ≡ far u D → ⊥) →
        clear (torus s) sound (leg D Deterministic) S ≡ true →
        route_by far s sound S D ≡ some (leg D Deterministic ∷ [])
    unfolding route_by planned first_by
    deterministic_first no-two one =
        Shortest.deterministic_first far (node_count s) F.still F.triangle (clear (torus s) sound) most_vias S D h_s h_d (blocked_apart blocked) one
        (Zero.none_by_two far (node_count s) F.still F.triangle (clear (torus s) sound) most_vias S D h_s h_d (blocked_apart blocked) blocked no_via no-two (omega arith))

  -- Each leg of the route is adaptive wherever that is clear.
  pub modes_forced : (c : Choice) → route_by far s sound S D ≡ some c → Forced (clear (torus s) sound) S c
  unfolding route_by planned first_by
  modes_forced c e = Modes.modes_forced far (clear (torus s) sound) most_vias (node_count s) S D h_d c e
