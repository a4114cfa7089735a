-- Where the nodes stand, in rising order.
use Prim.Native.Nat.{ℕ, suc, ◌+◌, ◌-◌, ◌*◌, ◌≤◌, ◌<◌}
use native.Mathlib.Omega.{arith}
use native.Mathlib.Nat.{mul-suc, mul-zero, mul_assoc}
use native.Mathlib.Numerals.{add-one}
use mathlib.Core.Path.{◌≡◌, refl, ◌∙◌}
use mathlib.Core.Bool.{cond}
use lib.Dec.{ltb}
use borrow.Author.Tests.{ltb-true, ltb-false}
use Rattle.theory.proofs.Cases.{test, by_le}
use Rattle.shape.specs.declared.shape.Shape.{Shape}
use Rattle.shape.specs.declared.shape.Dim.TheVariants.{X, Y, Z}
use Rattle.shape.specs.Shape.{shape_error}
use Rattle.shape.proofs.Shapes.{sound, count_most}
use Rattle.machine.specs.Number.{node_count, number_of, coords_of, Inside}
use Rattle.machine.proofs.Numbers.{coords_number, number_below}
use Rattle.planner.specs.declared.outside.At.{At}
use Rattle.planner.specs.Outside.{place_of, Stands, Following}

-- ---- the row behind row (y, z)
pub record RowAfter (s : Shape) (y z ny nz : ℕ) : Type 0 where
  pub first : s.x * (ny + s.y * nz) ≡ s.x * (y + s.y * z) + s.x
  pub y_in : ny < s.y
  pub z_in : nz ≤ s.z
  pub at_end : nz ≡ s.z → ny ≡ 0

pub row_after :
    (s : Shape) (y z ny nz : ℕ) → y < s.y → z < s.z → ny ≡ cond (ltb (y + 1) s.y) (y + 1) 0 → nz ≡ cond (ltb (y + 1) s.y) z (z + 1) →
    RowAfter s y z ny nz
row_after s y z ny nz hy hz ey ez =
    test (ltb (y + 1) s.y)
    (λ t.
    let less = ltb-true (y + 1) s.y t in
    let a : ny ≡ y + 1 = ey ∙ rw t in
    let b : nz ≡ z = ez ∙ rw t in
    record {
      first = rw (a, b) (let q : (y + 1) + s.y * z ≡ suc (y + s.y * z) = omega arith in rw q (omega (arith, mul-suc s.x (y + s.y * z))));
      y_in = omega arith;
      z_in = omega arith;
      at_end = λ e. absurd (omega arith);
    })
    (λ t.
    let more : s.y ≤ y + 1 = ltb-false (y + 1) s.y t in
    let a : ny ≡ 0 = ey ∙ rw t in
    let b : nz ≡ z + 1 = ez ∙ rw t in
    record {
      first = rw (a, b) (let q : 0 + s.y * (z + 1) ≡ suc (y + s.y * z) = rw (add-one z) (omega (arith, mul-suc s.y z)) in rw q (omega (arith, mul-suc s.x (y + s.y * z))));
      y_in = omega arith;
      z_in = omega arith;
      at_end = λ e. a;
    })

module _ (s : Shape) (ok : shape_error s ≡ 0) where
  pub starts : Stands s (record { node = 0; x = 0; y = 0; z = 0 })
  unfolding number_of
  starts = record { node = simp mul-zero refl; x = omega arith; y = (sound s ok Y).low; z = omega arith; end = λ e. (refl, refl) }

  module _ (at : At) (g : Stands s at) where
    -- Behind the last node.
    pub stands_end : s.z ≤ at.z → at.node ≡ node_count s
    unfolding number_of node_count
    stands_end m =
        let e : at.z ≡ s.z = omega (arith, g.z) in
        let o = g.end e in
        let q : at.node ≡ 0 + s.x * (0 + s.y * s.z) = g.node ∙ rw (o.0, o.1, e) in
        let r : 0 + s.x * (0 + s.y * s.z) ≡ s.x * s.y * s.z = (let w : 0 + s.y * s.z ≡ s.y * s.z = omega arith in rw w (omega (arith, mul_assoc s.x s.y s.z))) in
        omega arith

    -- The node is one of the shape, or the count.
    pub stands_below : at.node ≤ node_count s
    unfolding number_of
    stands_below =
        by_le s.z at.z
        (λ m. omega (arith, stands_end m))
        (λ m.
        let n = number_below s ok (record { x = s.x - 1; y = at.y; z = at.z }) (record { x = omega (arith, (sound s ok X).low); y = g.y; z = m }) in
        omega (arith, g.node, g.x, (sound s ok X).low, n))

    module _ (hx : at.x < s.x) (hz : at.z < s.z) where
      inside : Inside s (place_of at)
      inside = record { x = hx; y = g.y; z = hz }

      pub stands_node : at.node < node_count s
      stands_node = rw g.node (number_below s ok (place_of at) inside)

      pub node_small : at.node < 4096
      unfolding node_count
      node_small = omega (arith, stands_node, count_most s ok)

      pub stands_at : coords_of s at.node ≡ place_of at
      stands_at = rw g.node (coords_number s ok (place_of at) inside)

      pub small : (at.x < 16) × (at.y < 16) × (at.z < 16)
      small = (omega (arith, (sound s ok X).high), omega (arith, g.y, (sound s ok Y).high), omega (arith, (sound s ok Z).high))

      pub next_in_row : at.x + 1 < s.x → Following s at (record { node = at.node + 1; x = at.x + 1; y = at.y; z = at.z })
      unfolding number_of
      next_in_row l = record {
        stands = record { node = omega (arith, g.node); x = omega arith; y = g.y; z = g.z; end = λ e. absurd (omega arith) };
        node = refl;
        inside = λ _. l;
      }

      pub next_row : s.x ≤ at.x + 1 → (ny nz : ℕ) → ny ≡ cond (ltb (at.y + 1) s.y) (at.y + 1) 0 → nz ≡ cond (ltb (at.y + 1) s.y) at.z (at.z + 1) →
          Following s at (record { node = at.node + 1; x = 0; y = ny; z = nz })
      unfolding number_of
      next_row m ny nz ey ez =
          let r = row_after s at.y at.z ny nz g.y hz ey ez in
          record {
            stands = record { node = omega (arith, g.node, r.first); x = omega arith; y = r.y_in; z = r.z_in; end = λ e. (refl, r.at_end e) };
            node = refl;
            inside = λ _. (sound s ok X).low;
          }
