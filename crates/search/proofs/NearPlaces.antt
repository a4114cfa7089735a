-- The places near the shortest ways between two nodes.
use Prim.Native.Nat.{ℕ, ◌+◌, ◌*◌, ◌^◌, ◌≤◌, ◌<◌}
use native.Mathlib.Omega.{arith}
use native.Mathlib.Nat.{mul-le-mul_left}
use native.Mathlib.Numerals.{add-one}
use mathlib.Core.Path.{◌≡◌, refl, ◌∙◌}
use mathlib.Core.Bool.{Bool, true, cond}
use mathlib.Core.List.{List}
use lib.Dec.{ltb}
use lib.ListN.{get_or}
use lib.Pow.{pow_mono}
use borrow.Author.Tests.{lt-ltb}
use Rattle.theory.proofs.Cases.{test}
use Rattle.shape.specs.declared.shape.Shape.{Shape}
use Rattle.shape.specs.declared.shape.Coords.{Coords}
use Rattle.shape.specs.declared.shape.Dim.TheVariants.{X, Y, Z}
use Rattle.shape.specs.Axis.{axis_hops}
use Rattle.shape.proofs.AxisLaws.{axis_triangle}
use Rattle.machine.specs.Number.{Inside}
use Rattle.shape.specs.Shape.{wrapped_in}
use Rattle.weights.specs.declared.weights.Weights.{Weights}
use Rattle.weights.specs.Steps.{distance_at}
use Rattle.rows.specs.Bits.{bit, row_of}
use Rattle.rows.specs.Rows.{in_product}
use Rattle.rows.proofs.Bits.{double, row_below, row_bit, row_of_law}
use Rattle.search.specs.PartOf.{part_of, PartsOf}
use Rattle.search.specs.Near.{near_row, NearWays}
use Rattle.search.proofs.AllVias.{length_parts}

-- ---- a row made place by place, of each test that agrees with what was asked
module _ (Agrees : (ℕ → Bool) → Type 0) where
  pub record Rowing (row power c : ℕ) : Type 0 where
    pub below : row < power
    pub is : power ≡ 2 ^ c
    pub made : (f : ℕ → Bool) → Agrees f → row ≡ row_of f c

  pub rowing_begin : Rowing 0 1 0
  unfolding row_of
  rowing_begin = record { below = omega arith; is = refl; made = λ f a. refl }

  pub rowing_fits : (row power c more : ℕ) (b : Bool) → Rowing row power c → c < 16 → more ≡ cond b power 0 → (power ≤ 32768) × (more ≤ power) × (row + more < 65536)
  rowing_fits row power c more b w l e =
      let most : 2 ^ c ≤ 32768 = pow_mono {i = c} {j = 15} (omega arith) in
      let low : more ≤ power = test b (λ t. rw (e, t) (omega arith)) (λ t. rw (e, t) (omega arith)) in
      (omega (arith, w.is), low, omega (arith, w.is, w.below))

  pub rowing_turn : (row power c more : ℕ) (b : Bool) → Rowing row power c → c < 16 → more ≡ cond b power 0 → ((f : ℕ → Bool) → Agrees f → b ≡ f c) → Rowing (row + more) (power * 2) (c + 1)
  unfolding row_of
  rowing_turn row power c more b w l e same = record {
    below = let q = rowing_fits row power c more b w l e in omega (arith, q.1, w.below);
    is = rw (add-one c) (omega (arith, w.is, double c));
    made = λ f a. rw (add-one c) (omega (arith, value f a, w.made f a));
  }
    where
      value : (f : ℕ → Bool) → Agrees f → more ≡ cond (f c) (2 ^ c) 0
      value f a = rw (← same f a, ← w.is) e

  pub rowing_below : (row power c : ℕ) → Rowing row power c → c ≤ 16 → row < 65536
  rowing_below row power c w l = let most : 2 ^ c ≤ 65536 = pow_mono {i = c} {j = 16} l in omega (arith, w.is, w.below)

-- Rows of the same tests are the same.
pub same_row : (f g : ℕ → Bool) (n : ℕ) → ((c : ℕ) → c < n → f c ≡ g c) → row_of f n ≡ row_of g n
same_row f g n e = row_of_law g n (row_of f n) (row_below f n) (λ x l. row_bit f n x l ∙ e x l)

-- ---- in one dimension
-- The row of a dimension, by the part of each place.
pub near_row_law :
    (weight len : ℕ) (ring : Bool) (p q over : ℕ) (ways : List ℕ) (limit : ℕ) → PartsOf weight len ring p q ways → limit ≡ weight * axis_hops len ring p q + over →
    (r : ℕ) → r ≡ row_of (λ c. ltb (get_or ways c 0) limit) len → r ≡ near_row weight len ring p q over
unfolding near_row
near_row_law weight len ring p q over ways limit w e r er =
    er ∙ same_row (λ c. ltb (get_or ways c 0) limit) (λ c. ltb (weight * part_of len ring p q c) (weight * axis_hops len ring p q + over)) len (λ c l. rw (w.each c l, e))

-- No way is shorter than the least.
pub part_least : (weight len : ℕ) (ring : Bool) (p q c : ℕ) → p < len → q < len → c < len → weight * axis_hops len ring p q ≤ weight * part_of len ring p q c
part_least weight len ring p q c hp hq hc = mul-le-mul_left weight (axis_triangle (axis_hops len ring p c) len ring p c q hp hc hq refl)

pub near_has :
    (weight len : ℕ) (ring : Bool) (p q over c : ℕ) → c < len → weight * part_of len ring p q c < weight * axis_hops len ring p q + over → bit (near_row weight len ring p q over) c ≡ true
unfolding near_row
near_has weight len ring p q over c l low =
    row_bit (λ k. ltb (weight * part_of len ring p q k) (weight * axis_hops len ring p q + over)) len c l ∙ lt-ltb (weight * part_of len ring p q c) (weight * axis_hops len ring p q + over) low

-- ---- in all three
pub near_places :
    (k : Weights) (s : Shape) (A T : Coords) (over : ℕ) → Inside s A → Inside s T →
    NearWays k s A T over (near_row k.x s.x (wrapped_in s X) A.x T.x over) (near_row k.y s.y (wrapped_in s Y) A.y T.y over) (near_row k.z s.z (wrapped_in s Z) A.z T.z over)
unfolding in_product distance_at
near_places k s A T over hA hT = record {
  each = λ c i low.
      let sum = length_parts k s A T c in
      let lx = part_least k.x s.x (wrapped_in s X) A.x T.x c.x hA.x hT.x i.x in
      let ly = part_least k.y s.y (wrapped_in s Y) A.y T.y c.y hA.y hT.y i.y in
      let lz = part_least k.z s.z (wrapped_in s Z) A.z T.z c.z hA.z hT.z i.z in
      rw (
        near_has k.x s.x (wrapped_in s X) A.x T.x over c.x i.x (omega arith),
        near_has k.y s.y (wrapped_in s Y) A.y T.y over c.y i.y (omega arith),
        near_has k.z s.z (wrapped_in s Z) A.z T.z over c.z i.z (omega arith),
      ) refl;
}
