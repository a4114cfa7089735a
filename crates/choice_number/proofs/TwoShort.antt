-- Two vias on the shortest ways, all legs adaptive, by the notes of the nodes there: the first by the least note, or there are none.
use Prim.Native.Nat.{ℕ, ◌+◌, ◌*◌, ◌<◌, ◌≤◌}
use native.Mathlib.Omega.{arith}
use mathlib.Core.Path.{◌≡◌, refl}
use mathlib.Core.Logic.{⊎_elim}
use mathlib.Core.Bool.{Bool, true, false}
use mathlib.Core.List.{[], ◌∷◌}
use mathlib.Core.Option.{some}
use borrow.Author.Tests.{lt-leb}
use Rattle.theory.specs.Clear.{clear}
use Rattle.theory.proofs.Cases.{by_le}
use Rattle.shape.specs.declared.shape.Shape.{Shape}
use Rattle.shape.specs.Shape.{shape_error}
use Rattle.machine.specs.declared.leg.Mode.TheVariants.{Adaptive, Deterministic}
use Rattle.machine.specs.Number.{node_count}
use Rattle.machine.specs.Hop.{rule}
use Rattle.machine.specs.Torus.{leg, torus}
use Rattle.choice.specs.Choice.{Choice}
use Rattle.choice.specs.Search.{Lengths}
use Rattle.choice.specs.Pair.{route_by}
use Rattle.choice.proofs.Search.{adaptive_clear, two_vias_first}
use Rattle.search.specs.Number.{unclear, det_of}
use Rattle.choice_number.specs.Note.{det_by, value_by, Note, bound_of, bound_by}
use Rattle.choice_number.proofs.ThirdLeg.{TwoVias, value, node_small, det_of_low}

-- A number of deterministic legs that is 0: the leg is adaptive.
adaptive_of : (b : Bool) → det_of b ≡ 0 → b ≡ true
adaptive_of true e = refl
adaptive_of false e = absurd (omega arith)

module _ (far : ℕ → ℕ → ℕ) (s : Shape) (F : Lengths s far) (h : shape_error s ≡ 0) (sound : ℕ → ℕ → Bool) (S D : ℕ) (h_s : S < node_count s) (h_d : D < node_count s)
    (blocked : clear (torus s) sound (leg D Adaptive) S ≡ false)
    (no_via : (v : ℕ) → v < node_count s → clear (torus s) sound (leg v Adaptive) S ≡ true → clear (torus s) sound (leg D Adaptive) v ≡ true → far S v + far v D ≡ far S D → ⊥) where
  abbrev pub is_adaptive : ℕ → ℕ → Type 0
  is_adaptive u t = clear (torus s) sound (leg t Adaptive) u ≡ true

  abbrev pub is_between : ℕ → Type 0
  is_between x = far S x + far x D ≡ far S D

  -- Such vias u and x.
  pub record Two (u x : ℕ) : Type 0 where
    pub below : u < node_count s
    pub behind : x < node_count s
    pub one : clear (torus s) sound (leg u Adaptive) S ≡ true
    pub two : clear (torus s) sound (leg x Adaptive) u ≡ true
    pub three : clear (torus s) sound (leg D Adaptive) x ≡ true
    pub between : far S u + far u D ≡ far S D
    pub further : far u x + far x D ≡ far u D

  -- The second one lies between S and D too, and the first one between S and it.
  second_between : (u x : ℕ) → Two u x → is_between x
  second_between u x t = omega (arith, t.between, t.further, F.triangle S u x h_s t.below t.behind, F.triangle S x D h_s t.behind h_d)

  first_between : (u x : ℕ) → Two u x → far S u + far u x ≡ far S x
  first_between u x t = omega (arith, t.between, t.further, F.triangle S u x h_s t.below t.behind, F.triangle S x D h_s t.behind h_d)

  module _ (notes : ℕ → ℕ) (noted : (w : ℕ) → w < node_count s → far S w + far w D ≡ far S D → Note far (clear (torus s) sound) (node_count s) S w (notes w)) where
    -- The note of the second via is at most the first.
    note_most : (u x : ℕ) → Two u x → notes x ≤ u
    unfolding value_by
    note_most u x t =
        let here = first_between u x t in
        let d1 : det_by (clear (torus s) sound) S u ≡ 0 = rw t.one refl in
        let d2 : det_by (clear (torus s) sound) u x ≡ 0 = rw t.two refl in
        ⊎_elim (λ le. omega (arith, here, d1, d2, le))
        (⊎_elim (λ a. absurd (no_via x t.behind a t.three (second_between u x t))) (λ a. absurd (omega (arith, here, d1, d2, a.1))))
        ((noted x t.behind (second_between u x t)).least u t.below (adaptive_clear rule s h sound u S h_s t.below t.one) (adaptive_clear rule s h sound x u t.below t.behind t.two))

    -- A note below 4096 is a via of two such legs.
    pub note_two : (w : ℕ) → w < node_count s → is_between w → is_adaptive w D → notes w < 4096 → Two (notes w) w
    unfolding value_by
    note_two w lw b a low =
        let r = (noted w lw b).real (omega arith) in
        let v = r.v in
        let up = F.triangle S v w h_s r.below lw in
        let d1 = det_of_low (clear (torus s) sound (leg v Adaptive) S) in
        let d2 = det_of_low (clear (torus s) sound (leg w Adaptive) v) in
        let t1 = F.triangle S v D h_s r.below h_d in
        let t2 = F.triangle v w D r.below lw h_d in
        let e : v ≡ notes w = omega (arith, r.is, node_small s h v r.below) in
        let z1 : det_by (clear (torus s) sound) S v ≡ 0 = omega (arith, r.is, node_small s h v r.below) in
        let z2 : det_by (clear (torus s) sound) v w ≡ 0 = omega (arith, r.is, node_small s h v r.below) in
        let len : far S v + far v w ≡ far S w = omega (arith, r.is, node_small s h v r.below) in
        let two : Two v w = record {
          below = r.below;
          behind = lw;
          one = adaptive_of (clear (torus s) sound (leg v Adaptive) S) z1;
          two = adaptive_of (clear (torus s) sound (leg w Adaptive) v) z2;
          three = a;
          between = omega arith;
          further = omega arith;
        } in
        rw (← e) two

    -- By the least note, of equals by the lowest node.
    module _ (w : ℕ) (lw : w < node_count s) (back : clear (torus s) sound (leg D Adaptive) w ≡ true) (between : far S w + far w D ≡ far S D) (low : notes w < 4096)
        (each : (x : ℕ) → x < node_count s → clear (torus s) sound (leg D Adaptive) x ≡ true → far S x + far x D ≡ far S D → notes x < 4096 → notes w ≤ notes x)
        (first : (x : ℕ) → x < node_count s → x < w → clear (torus s) sound (leg D Adaptive) x ≡ true → far S x + far x D ≡ far S D → notes w < notes x) where
      pub by_notes : route_by far s sound S D ≡ some (leg (notes w) Adaptive ∷ leg w Adaptive ∷ leg D Adaptive ∷ [])
      by_notes =
          let t = note_two w lw between back low in
          two_vias_first far s F h sound S D h_s h_d blocked no_via (notes w) w t.below lw t.one t.two back t.between t.further
          (λ u x lt one two three lx b f.
          let k : Two u x = record { below = omega (arith, t.below); behind = lx; one = one; two = two; three = three; between = b; further = f } in
          let m = note_most u x k in
          let e = each x lx three (second_between u x k) (omega arith) in
          omega arith)
          (λ x lt two three f.
          let k : Two (notes w) x = record { below = t.below; behind = omega arith; one = t.one; two = two; three = three; between = t.between; further = f } in
          let m = note_most (notes w) x k in
          let e = first x (omega arith) lt three (second_between (notes w) x k) in
          omega arith)

    -- There are none where no note is below 4096.
    pub none_two : ((x : ℕ) → x < node_count s → clear (torus s) sound (leg D Adaptive) x ≡ true → far S x + far x D ≡ far S D → 4096 ≤ notes x) → (u x : ℕ) → Two u x → ⊥
    none_two high u x t = omega (arith, node_small s h u t.below, note_most u x t, high x t.behind t.three (second_between u x t))

  -- Where there are none, no choice by two vias has a lower value than one with one deterministic leg on the shortest ways.
  module _ (straight : clear (torus s) sound (leg D Deterministic) S ≡ false) (none_two : (u x : ℕ) → Two u x → ⊥) where
    pub above_short : (own : ℕ) → own < 8192 → (u w : ℕ) (c : Choice) → TwoVias far s F h sound S D h_s h_d straight u w c → bound_by far S D own ≤ 4096 * value far S c
    unfolding bound_of value_by
    above_short own low u w c t =
        let t1 = F.triangle S u D h_s t.below h_d in
        let t2 = F.triangle u w D t.below t.behind h_d in
        let worth = t.worth in
        by_le (4 * far S D + 1) (value far S c)
        (λ le. rw (lt-leb unclear own (omega arith)) (omega arith))
        (λ less. absurd (none_two u w (record {
          below = t.below;
          behind = t.behind;
          one = adaptive_of (clear (torus s) sound (leg u Adaptive) S) (omega arith);
          two = adaptive_of (clear (torus s) sound (leg w Adaptive) u) (omega arith);
          three = adaptive_of (clear (torus s) sound (leg D Adaptive) w) (omega arith);
          between = omega arith;
          further = omega arith;
        })))
