-- The nodes that are not in a set: row by row.
use Prim.Native.Nat.{ℕ, zero, suc, ◌+◌, ◌-◌, ◌*◌, ◌/◌, ◌%◌, ◌^◌, ◌≤◌, ◌<◌}
use native.Mathlib.Omega.{arith}
use mathlib.Core.Path.{◌≡◌, refl, sym, ap, ◌∙◌}
use mathlib.Core.Bool.{Bool, true, false, cond, not}
use mathlib.Core.List.{List}
use lib.ListN.{get_or}
use lib.Dec.{eqb, ltb}
use borrow.Author.Tests.{eq-eqb, ne_eqb, ltb-true, ltb-false}
use Rattle.theory.proofs.Cases.{test, by_le}
use Rattle.shape.specs.declared.shape.Shape.{Shape}
use Rattle.shape.specs.declared.shape.Coords.{Coords}
use Rattle.shape.specs.declared.shape.Dim.TheVariants.{X, Y, Z}
use Rattle.shape.specs.Shape.{shape_error}
use Rattle.shape.proofs.Shapes.{sound, count_most}
use Rattle.machine.specs.Number.{node_count, number_of}
use Rattle.machine.proofs.Numbers.{coords_number, number_below}
use Rattle.rows.specs.Bits.{bit}
use Rattle.rows.specs.Rows.{in_rows, in_set}
use Rattle.rows.specs.NextSet.{NextSet}
use Rattle.rows.proofs.Bits.{double, bit_zero, bit_suc}
use Rattle.planner.specs.declared.outside.At.{At}
use Rattle.planner.specs.Outside.{Stands, NextOutside}
use Rattle.planner.proofs.Standing.{row_after}

-- ---- the bits that a number of k bits does not have
pub others : (k v x : ℕ) → v < 2 ^ k → x < k → bit (2 ^ k - 1 - v) x ≡ not (bit v x)
others zero v x h l = absurd (omega arith)
others (suc k) v zero h l =
    bit_zero (2 ^ suc k - 1 - v) ∙ digit ∙ ap not (sym (bit_zero v))
  where
    digit : eqb ((2 ^ suc k - 1 - v) % 2) 1 ≡ not (eqb (v % 2) 1)
    digit = test (eqb (v % 2) 1)
        (λ e. rw e (ne_eqb ((2 ^ suc k - 1 - v) % 2) 1 (λ q. omega (arith, double k, borrow.Author.Tests.eqb-true (v % 2) 1 e))))
        (λ e. rw e (eq-eqb ((2 ^ suc k - 1 - v) % 2) 1 (omega (arith, double k, borrow.Author.Tests.eqb-false (v % 2) 1 e))))
others (suc k) v (suc x) h l =
    let half : (2 ^ suc k - 1 - v) / 2 ≡ 2 ^ k - 1 - v / 2 = omega (arith, double k) in
    bit_suc (2 ^ suc k - 1 - v) x ∙ ap (λ (t : ℕ). bit t x) half ∙ others k (v / 2) x (omega (arith, double k)) (omega arith) ∙ ap not (sym (bit_suc v x))

not_false : (b : Bool) → not b ≡ false → b ≡ true
not_false true e = refl
not_false false e = sym e

not_true : (b : Bool) → not b ≡ true → b ≡ false
not_true true e = sym e
not_true false e = refl

module _ (s : Shape) (h : shape_error s ≡ 0) (rows : List ℕ) where
  -- The node that stands in row (y, z) at i.
  at_place : (i y z : ℕ) → i < s.x → y < s.y → z < s.z → in_set s rows 0 (i + s.x * (y + s.y * z)) ≡ bit (get_or rows (y + 16 * z) 0) i
  unfolding in_set in_rows number_of
  at_place i y z hx hy hz =
      let c : Coords = record { x = i; y = y; z = z } in
      let e = coords_number s h c (record { x = hx; y = hy; z = hz }) in
      let z : 0 + (y + 16 * z) ≡ y + 16 * z = omega arith in
      rw (e, z)

  row_end : (y z : ℕ) → y < s.y → z < s.z → (s.x * (y + s.y * z) + s.x ≤ node_count s) × (node_count s ≤ 4096)
  unfolding number_of node_count
  row_end y z hy hz =
      let low = (sound s h X).low in
      let b = number_below s h (record { x = s.x - 1; y = y; z = z }) (record { x = omega arith; y = hy; z = hz }) in
      (omega (arith, b), count_most s h)

  -- The loop: from the node `from` on all before x in row (y, z), whose first node is `first`, are in the set.
  pub record Looking (from x y z first : ℕ) : Type 0 where
    pub first_is : first ≡ s.x * (y + s.y * z)
    pub x_in : x ≤ s.x
    pub y_in : y < s.y
    pub z_in : z ≤ s.z
    pub at_end : z ≡ s.z → (x ≡ 0) × (y ≡ 0)
    pub onward : from ≤ first + x
    pub skipped : (v : ℕ) → from ≤ v → v < first + x → in_set s rows 0 v ≡ true

  pub begin : (at : At) → Stands s at → (at.x ≤ at.node) × Looking (at.node - at.x + at.x) at.x at.y at.z (at.node - at.x)
  unfolding number_of
  begin at g =
      let n = g.node in (
        omega arith,
        record {
          first_is = omega arith;
          x_in = g.x;
          y_in = g.y;
          z_in = g.z;
          at_end = g.end;
          onward = omega arith;
          skipped = λ v a b. absurd (omega arith);
        },
      )

  module _ (from x y z first : ℕ) (g : Looking from x y z first) (l : z < s.z) where
    pub bounds : (first + s.x ≤ 4096) × (y < 16) × (z < 16)
    bounds =
        let r = row_end y z g.y_in l in
        let f = g.first_is in
        (omega arith, omega (arith, (sound s h Y).high, g.y_in), omega (arith, (sound s h Z).high))

    pub row_in : 16 * z + y < 256
    row_in = let b = bounds in omega (arith, b.1, b.2)

  module _ (from x y z first : ℕ) (g : Looking from x y z first) (l : z < s.z) (mask found : ℕ) (others-are : (mask ≡ 65535 - get_or rows (16 * z + y) 0) × (get_or rows (16 * z + y) 0 < 65536)) (next : NextSet mask x found) where
    abbrev row : ℕ
    row = get_or rows (16 * z + y) 0

    others_bit : (i : ℕ) → i < 16 → bit mask i ≡ not (bit row i)
    others_bit i m = ap (λ (k : ℕ). bit k i) others-are.0 ∙ others 16 row i others-are.1 m

    here : row ≡ get_or rows (y + 16 * z) 0
    here = ap (λ (k : ℕ). get_or rows k 0) (omega arith)

    x_small : s.x ≤ 16
    x_small = (sound s h X).high

    -- A node of the row that was passed over.
    passed : (v : ℕ) → first + x ≤ v → v < first + found → v < first + s.x → in_set s rows 0 v ≡ true
    passed v a b c =
        let f = g.first_is in
        let i = v - first in
        let e : i + s.x * (y + s.y * z) ≡ v = omega arith in
        let set : bit row i ≡ true = not_false (bit row i) (sym (others_bit i (omega (arith, x_small))) ∙ next.skip i (omega arith) (omega arith)) in
        rw (← e) (at_place i y z (omega arith) g.y_in l ∙ rw (← here) set)

    all_passed : (k : ℕ) → k ≤ found → k ≤ s.x → (v : ℕ) → from ≤ v → v < first + k → in_set s rows 0 v ≡ true
    all_passed k a b v c d = by_le (first + x) v (λ m. passed v m (omega arith) (omega arith)) (λ m. g.skipped v c m)

    pub returned : found < s.x → NextOutside s rows (record { node = from; x = 0; y = 0; z = 0 }) (record { node = first + found; x = found; y = y; z = z })
    unfolding number_of
    returned m =
        let f = g.first_is in
        let set = next.set (omega (arith, x_small)) in
        record {
          stands = record { node = omega arith; x = omega arith; y = g.y_in; z = g.z_in; end = λ e. absurd (omega arith) };
          onward = omega (arith, g.onward, set.0);
          skipped = λ v a b. all_passed found (omega arith) (omega arith) v a b;
          found = λ _.
              let e : found + s.x * (y + s.y * z) ≡ first + found = omega arith in
              (m, rw (← e) (at_place found y z m g.y_in l ∙ rw (← here) (not_true (bit row found) (sym (others_bit found (omega (arith, x_small))) ∙ set.1))));
        }

    pub onto : s.x ≤ found → (ny nz : ℕ) → ny ≡ cond (ltb (y + 1) s.y) (y + 1) 0 → nz ≡ cond (ltb (y + 1) s.y) z (z + 1) → Looking from 0 ny nz (first + s.x)
    onto m ny nz ey ez =
        let f = g.first_is in
        let r = row_after s y z ny nz g.y_in l ey ez in
        record {
          first_is = omega (arith, r.first);
          x_in = omega arith;
          y_in = r.y_in;
          z_in = r.z_in;
          at_end = λ e. (refl, r.at_end e);
          onward = omega (arith, g.onward, g.x_in);
          skipped = λ v c d. all_passed s.x m (omega arith) v c (omega arith);
        }

  pub ended : (from x y z first : ℕ) → Looking from x y z first → s.z ≤ z → NextOutside s rows (record { node = from; x = 0; y = 0; z = 0 }) (record { node = first; x = 0; y = 0; z = z })
  unfolding number_of
  ended from x y z first g m =
      let e = g.z_in in
      let o = g.at_end (omega arith) in
      let f = g.first_is in
      let zy : s.x * (y + s.y * z) ≡ s.x * (0 + s.y * z) = ap (λ (k : ℕ). s.x * (k + s.y * z)) o.1 in
      record {
        stands = record { node = omega arith; x = omega arith; y = (sound s h Y).low; z = e; end = λ _. (refl, refl) };
        onward = omega (arith, g.onward, o.0);
        skipped = λ v a b. g.skipped v a (omega arith);
        found = λ k. absurd (omega arith);
      }

-- The next row is nearer to the end.
pub less : (s : Shape) (y z ny nz : ℕ) → y < 16 → z < s.z → ny ≡ cond (ltb (y + 1) s.y) (y + 1) 0 → nz ≡ cond (ltb (y + 1) s.y) z (z + 1) → 32 * (s.z - nz) + (s.y - ny) < 32 * (s.z - z) + (s.y - y)
less s y z ny nz hy hz ey ez =
    test (ltb (y + 1) s.y)
    (λ t. let a : ny ≡ y + 1 = ey ∙ rw t in let b : nz ≡ z = ez ∙ rw t in omega (arith, ltb-true (y + 1) s.y t))
    (λ t. let a : ny ≡ 0 = ey ∙ rw t in let b : nz ≡ z + 1 = ez ∙ rw t in omega (arith, ltb-false (y + 1) s.y t))

-- From the node alone: where it stands is not spoken of.
pub from_node : (s : Shape) (rows : List ℕ) (from : ℕ) (at r : At) → from ≡ at.node → NextOutside s rows (record { node = from; x = 0; y = 0; z = 0 }) r → NextOutside s rows at r
from_node s rows from at r e g = record { stands = g.stands; onward = omega (arith, g.onward); skipped = λ v a b. g.skipped v (omega arith) b; found = g.found }
