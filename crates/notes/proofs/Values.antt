-- What the value of a via says: on the shortest ways, and of how many deterministic legs. So the notes by a lowest via there.
use Prim.Native.Nat.{ℕ, ◌+◌, ◌*◌, ◌≤◌, ◌<◌}
use native.Mathlib.Omega.{arith}
use mathlib.Core.Path.{◌≡◌, refl}
use mathlib.Core.Logic.{◌⊎◌, inl, inr}
use mathlib.Core.Bool.{Bool, true, false}
use mathlib.Core.List.{List}
use Rattle.theory.specs.Clear.{clear}
use Rattle.theory.proofs.Cases.{by_le, by_order}
use Rattle.shape.specs.Shape.{shape_error}
use Rattle.machine.specs.declared.leg.Mode.{Mode}
use Rattle.machine.specs.declared.leg.Mode.TheVariants.{Adaptive, Deterministic}
use Rattle.machine.specs.Number.{node_count}
use Rattle.machine.specs.Hop.{rule, hops}
use Rattle.machine.specs.Torus.{torus}
use Rattle.plan.specs.Layout.{shape_of}
use Rattle.plan.specs.Checks.{large, plan_error}
use Rattle.choice.specs.Pair.{sound_in, far_in}
use Rattle.choice.specs.Search.{Lengths}
use Rattle.choice.proofs.AtTorus.{far_lengths}
use Rattle.choice.proofs.Search.{adaptive_clear}
use Rattle.search.specs.Number.{unclear, det_of}
use Rattle.choice_number.specs.Note.{det_by, value_by}
use Rattle.choice_number.proofs.ThirdLeg.{det_of_low, node_small}
use Rattle.notes.specs.Known.{is_clear, NoteTo, OnWay, LowestVia}
use Rattle.notes.proofs.Knowing.{shape_ok, nodes_few}

module _ (p : List ℕ) (S D : ℕ) (h : plan_error large p ≡ 0) (h_s : S < node_count (shape_of p)) (h_d : D < node_count (shape_of p)) where
  ok : shape_error (shape_of p) ≡ 0
  ok = shape_ok p h

  F : Lengths (shape_of p) (far_in p)
  F = far_lengths large p h

  abbrev pub worth : ℕ → ℕ
  worth v = value_by (far_in p) (clear (torus (shape_of p)) (sound_in p)) S v D

  abbrev pub least : ℕ
  least = 4 * far_in p S D

  abbrev pub dets : ℕ → ℕ → ℕ
  dets u v = det_by (clear (torus (shape_of p)) (sound_in p)) u v

  -- A leg that is clear in mode m is clear deterministically.
  some_clear : (u v : ℕ) (m : Mode) → u < node_count (shape_of p) → v < node_count (shape_of p) → is_clear p m u v ≡ true → is_clear p Deterministic u v ≡ true
  some_clear u v Adaptive lu lv c = adaptive_clear rule (shape_of p) ok (sound_in p) v u lu lv c
  some_clear u v Deterministic lu lv c = c

  pub out_clear : (m n : Mode) (v : ℕ) → v < node_count (shape_of p) → OnWay p m n S D v → is_clear p Deterministic S v ≡ true
  out_clear m n v l w = some_clear S v m h_s l w.out

  pub back_clear : (m n : Mode) (v : ℕ) → v < node_count (shape_of p) → OnWay p m n S D v → is_clear p Deterministic v D ≡ true
  back_clear m n v l w = some_clear v D n l h_d w.back

  -- ---- the value of a via on the shortest ways, and back
  pub way_worth : (m n : Mode) (v : ℕ) → v < node_count (shape_of p) → OnWay p m n S D v → worth v ≡ least + (dets S v + dets v D)
  unfolding value_by
  way_worth m n v l w = omega (arith, (F.shortest S v D h_s l h_d).1 w.sum)

  pub worth_least : (v : ℕ) → v < node_count (shape_of p) → least ≤ worth v
  unfolding value_by
  worth_least v l = omega (arith, F.triangle S v D h_s l h_d)

  -- Two tests of adaptive legs, by the number of legs that fail.
  at_least : (b : Bool) → det_of b ≡ 0 → b ≡ true
  at_least true e = refl
  at_least false e = absurd (omega arith)

  on_way : (v k : ℕ) → v < node_count (shape_of p) → worth v ≡ least + k → k ≤ 2 → (hops (shape_of p) S v + hops (shape_of p) v D ≡ hops (shape_of p) S D) × (dets S v + dets v D ≡ k)
  unfolding value_by
  on_way v k l e few =
      let d1 = det_of_low (is_clear p Adaptive S v) in
      let d2 = det_of_low (is_clear p Adaptive v D) in
      let up = F.triangle S v D h_s l h_d in
      ((F.shortest S v D h_s l h_d).0 (omega arith), omega arith)

  pub worth_none : (v : ℕ) → v < node_count (shape_of p) → worth v ≡ least → OnWay p Adaptive Adaptive S D v
  worth_none v l e =
      let w = on_way v 0 l (omega arith) (omega arith) in
      record { out = at_least (is_clear p Adaptive S v) (omega (arith, w.1)); back = at_least (is_clear p Adaptive v D) (omega (arith, w.1)); sum = w.0 }

  pub worth_one :
      (v : ℕ) → v < node_count (shape_of p) → is_clear p Deterministic S v ≡ true → is_clear p Deterministic v D ≡ true → worth v ≡ least + 1 → OnWay p Adaptive Deterministic S D v ⊎ OnWay p Deterministic Adaptive S D v
  worth_one v l o b e =
      let w = on_way v 1 l e (omega arith) in
      let d2 = det_of_low (is_clear p Adaptive v D) in
      by_le 1 (dets S v)
      (λ k. inr (record { out = o; back = at_least (is_clear p Adaptive v D) (omega (arith, w.1)); sum = w.0 }))
      (λ k. inl (record { out = at_least (is_clear p Adaptive S v) (omega arith); back = b; sum = w.0 }))

  pub worth_two : (v : ℕ) → v < node_count (shape_of p) → is_clear p Deterministic S v ≡ true → is_clear p Deterministic v D ≡ true → worth v ≡ least + 2 → OnWay p Deterministic Deterministic S D v
  worth_two v l o b e = let w = on_way v 2 l e (omega arith) in record { out = o; back = b; sum = w.0 }

  -- ---- notes
  -- The via v, where no via of a lower value has clear legs, and none of this value is lower.
  pub by_lowest : (m n : Mode) (v k : ℕ) → v < node_count (shape_of p) → OnWay p m n S D v → worth v ≡ least + k →
      ((u : ℕ) → u < node_count (shape_of p) → is_clear p Deterministic S u ≡ true → is_clear p Deterministic u D ≡ true → worth u < least + k → ⊥) →
      ((u : ℕ) → u < node_count (shape_of p) → is_clear p Deterministic S u ≡ true → is_clear p Deterministic u D ≡ true → worth u ≡ least + k → v ≤ u) → NoteTo p S D (4096 * k + v)
  by_lowest m n v k l w e low same = record {
    real = λ _. record { v = v; below = l; out = out_clear m n v l w; back = back_clear m n v l w; is = omega arith };
    least = λ u lu o b. inl (by_order (worth u) (least + k)
        (λ g. absurd (low u lu o b g))
        (λ q. omega (arith, same u lu o b q))
        (λ g. omega (arith, node_small (shape_of p) ok v l)));
  }

  pub few : node_count (shape_of p) ≤ 4096
  few = nodes_few (shape_of p) ok

  pub not_below : (m n : Mode) (via u : ℕ) → LowestVia p m n S D via → u < node_count (shape_of p) → OnWay p m n S D u → via ≤ u
  not_below m n via u low l w = by_le via u (λ k. k) (λ k. absurd (low.before u l k w))

  -- The lowest via with two adaptive legs.
  module _ (via : ℕ) (low : LowestVia p Adaptive Adaptive S D via) where
    pub near_note : via < 4096 → NoteTo p S D via
    near_note m =
        let f = low.found m in
        let z : 4096 * 0 + via ≡ via = omega arith in
        let o : dets S via ≡ 0 = rw f.1.out refl in
        let b : dets via D ≡ 0 = rw f.1.back refl in
        rw (← z) (by_lowest Adaptive Adaptive via 0 f.0 f.1 (omega (arith, way_worth Adaptive Adaptive via f.0 f.1))
        (λ u l o b g. omega (arith, worth_least u l))
        (λ u l o b q. not_below Adaptive Adaptive via u low l (worth_none u l (omega arith))))

    -- There is none, and the direct deterministic leg is clear: the node needs no via.
    pub straight_note : 4096 ≤ via → is_clear p Deterministic S D ≡ true → NoteTo p S D unclear
    straight_note m c = record {
      real = λ k. absurd (omega arith);
      least = λ v l o b. inr (inr (c, by_le (worth v) least (λ k. absurd (low.before v l (omega (arith, few)) (worth_none v l (omega (arith, worth_least v l))))) (λ k. k)));
    }
