-- The two vias on the shortest ways with adaptive legs, or that there are none.
use Prim.Native.Nat.{ℕ, ◌+◌, ◌*◌, ◌/◌, ◌%◌, ◌≤◌, ◌<◌}
use native.Mathlib.Omega.{arith}
use mathlib.Core.Path.{◌≡◌, refl, sym, ap, ◌∙◌}
use mathlib.Core.Bool.{true}
use mathlib.Core.List.{List, [], ◌∷◌}
use lib.ListN.{get_or, replicate, get_or-replicate}
use Rattle.theory.specs.Machine.{sum_by}
use Rattle.theory.proofs.Cases.{by_le}
use Rattle.shape.specs.declared.shape.Shape.{Shape}
use Rattle.shape.specs.declared.shape.Dim.TheVariants.{X}
use Rattle.shape.specs.Shape.{shape_error}
use Rattle.shape.proofs.Shapes.{sound}
use Rattle.machine.specs.declared.leg.Mode.TheVariants.{Adaptive}
use Rattle.machine.specs.Number.{node_count, coords_of}
use Rattle.machine.specs.Torus.{leg}
use Rattle.machine.proofs.Numbers.{inside}
use Rattle.plan.specs.Layout.{shape_of}
use Rattle.plan.specs.Checks.{large}
use Rattle.packet.specs.declared.route.Route.{Route}
use Rattle.choice.specs.declared.outcome.Outcome.{Outcome}
use Rattle.choice.specs.Outcome.{told, told_as}
use Rattle.choice.specs.Pair.{sound_in, far_in}
use Rattle.choice.specs.Search.{Lengths}
use Rattle.choice.proofs.AtTorus.{far_lengths}
use Rattle.rows.specs.Rows.{in_rows, in_set}
use Rattle.search.specs.Number.{unclear}
use Rattle.search.specs.FirstVia.{is_via}
use Rattle.second_via.specs.Least.{LeastAt}
use Rattle.choice_number.proofs.TwoShort as Short
use Rattle.notes.specs.Known.{is_clear, NoteTo}
use Rattle.notes.proofs.Knowing.{shape_ok, all_bits, row_small}
use Rattle.notes.proofs.OnWays.{passes_is, is_passes}
use Rattle.first_clear.specs.Known.{route_told, TwoTo, Apart, Pairing}
use Rattle.first_clear.proofs.Own.{told_by, no_via}

-- Rows of all bits have every node.
pub in_every : (s : Shape) → shape_error s ≡ 0 → (v : ℕ) → v < node_count s → in_set s (replicate 256 65535) 0 v ≡ true
unfolding in_set in_rows
in_every s h v l =
    let c = coords_of s v in
    let row : ◌≡◌ {A = ℕ} (get_or (replicate 256 65535) (0 + (c.y + 16 * c.z)) 0) 65535 = get_or-replicate 256 (0 + (c.y + 16 * c.z)) 65535 0 (omega (arith, row_small s h v l)) in
    rw row (all_bits c.x (omega (arith, (inside s h v l).x, (sound s h X).high)))

-- The places of a number of two vias.
first_place : (n x : ℕ) → n < 4096 → x < 4096 → (4096 * n + x) / 4096 % 4096 ≡ n
first_place n x h l = omega arith

second_place : (n x : ℕ) → x < 4096 → (4096 * n + x) % 4096 ≡ x
second_place n x l = omega arith

module _ (p : List ℕ) (s : Shape) (S D bx by bz : ℕ) (to : List ℕ) (at : ℕ) (notes : List ℕ) (g : Pairing p s S D bx by bz to at notes) (second : ℕ)
    (least : LeastAt (node_count s) (is_via s bx by bz (replicate 256 65535) to at) notes 4096 second) where
  ok : shape_error (shape_of p) ≡ 0
  ok = shape_ok p g.plan

  F : Lengths (shape_of p) (far_in p)
  F = far_lengths large p g.plan

  h_s : S < node_count (shape_of p)
  h_s = g.source

  h_d : D < node_count (shape_of p)
  h_d = g.target

  count_is : node_count s ≡ node_count (shape_of p)
  count_is = ap node_count g.shape

  apart : Apart p s S D (far_in p S D)
  apart = record { plan = g.plan; shape = g.shape; source = h_s; target = h_d; distance = refl; direct = g.direct }

  abbrev every : List ℕ
  every = replicate 256 65535

  abbrev note_at : ℕ → ℕ
  note_at w = get_or notes w 0

  known : (w : ℕ) → w < node_count (shape_of p) → far_in p S w + far_in p w D ≡ far_in p S D → NoteTo p S w (note_at w)
  known w l e = g.noted w l ((F.shortest S w D h_s l h_d).0 e)

  no_one : (v : ℕ) → v < node_count (shape_of p) → is_clear p Adaptive S v ≡ true → is_clear p Adaptive v D ≡ true → far_in p S v + far_in p v D ≡ far_in p S D → ⊥
  no_one = no_via p s S D (far_in p S D) apart (note_at D) (known D h_d (omega (arith, F.still D))) g.over

  -- The nodes that pass are those on the shortest ways with a clear adaptive leg to D.
  passing : (x : ℕ) → x < node_count (shape_of p) → is_clear p Adaptive x D ≡ true → far_in p S x + far_in p x D ≡ far_in p S D → is_via s bx by bz every to at x ≡ true
  passing x l back sum =
      let way = (F.shortest S x D h_s l h_d).0 sum in
      is_passes p s bx by bz every to at g.shape g.plan g.room x
      (record { box = (g.box x l).1 way; out = in_every (shape_of p) ok x l; back = g.back x l way ∙ back })

  record Passed (x : ℕ) : Type 0 where
    back : is_clear p Adaptive x D ≡ true
    sum : far_in p S x + far_in p x D ≡ far_in p S D

  passed : (x : ℕ) → x < node_count (shape_of p) → is_via s bx by bz every to at x ≡ true → Passed x
  passed x l e =
      let b = passes_is p s bx by bz every to at g.shape g.plan g.room x e in
      let way = (g.box x l).0 b.box in
      record { back = sym (g.back x l way) ∙ b.back; sum = (F.shortest S x D h_s l h_d).1 way }

  module _ (low : second < 4096) where
    here : second < node_count (shape_of p)
    here = omega (arith, (least.found low).0, count_is)

    note_low : get_or notes second 0 < 4096
    note_low = (least.found low).2

    by_notes : Outcome.Given (Route.Vias (get_or notes second 0) second Adaptive Adaptive Adaptive) (far_in p S D) ≡ route_told p S D
    unfolding told told_as sum_by
    by_notes =
        let k = passed second here (least.found low).1 in
        let t = Short.note_two (far_in p) (shape_of p) F ok (sound_in p) S D h_s h_d g.direct no_one note_at known second here k.sum k.back note_low in
        let route =
        Short.by_notes (far_in p) (shape_of p) F ok (sound_in p) S D h_s h_d g.direct no_one note_at known second here k.back k.sum note_low
        (λ x l b e n. (least.each x (omega (arith, count_is)) (passing x l b e) n).1)
        (λ x l q b e. least.first x (omega (arith, count_is)) q low (passing x l b e)) in
        told_by p S D (leg (note_at second) Adaptive ∷ leg second Adaptive ∷ leg D Adaptive ∷ []) (Outcome.Given (Route.Vias (note_at second) second Adaptive Adaptive Adaptive) (far_in p S D)) route
        (ap (Outcome.Given (Route.Vias (note_at second) second Adaptive Adaptive Adaptive)) (omega (arith, t.between, t.further)))

    pub two_found : TwoTo p S D (4096 * get_or notes second 0 + second)
    two_found = record {
      given = λ _. rw (first_place (note_at second) second note_low low, second_place (note_at second) second low) by_notes;
      none = λ le u x t. omega (arith, le, note_low, low);
    }

  module _ (none : 4096 ≤ second) where
    high : (x : ℕ) → x < node_count (shape_of p) → is_clear p Adaptive x D ≡ true → far_in p S x + far_in p x D ≡ far_in p S D → 4096 ≤ note_at x
    high x l b e = by_le 4096 (note_at x) (λ k. k) (λ k. absurd (omega (arith, (least.each x (omega (arith, count_is)) (passing x l b e) k).0)))

    pub two_none : TwoTo p S D unclear
    two_none = record {
      given = λ low. absurd (omega (arith, low));
      none = λ _ u x t. Short.none_two (far_in p) (shape_of p) F ok (sound_in p) S D h_s h_d g.direct no_one note_at known high u x
          (record { below = t.below; behind = t.behind; one = t.one; two = t.two; three = t.three; between = t.between; further = t.further });
    }
