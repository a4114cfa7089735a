-- The rows of all planes are the vias of the shape.
use Prim.Native.Nat.{ℕ, ◌+◌, ◌*◌, ◌^◌, ◌≤◌, ◌<◌}
use native.Mathlib.Omega.{arith}
use native.Mathlib.Nat.{mul-add}
use mathlib.Core.Path.{◌≡◌, refl, sym, ◌∙◌}
use mathlib.Core.Logic.{inl, inr, ⊎_elim}
use mathlib.Core.Bool.{Bool, true, false, ◌&&◌}
use mathlib.Core.List.{List}
use lib.Dec.{ltb, eqb}
use lib.ListN.{length, get_or}
use lib.Pow.{pow_mono}
use borrow.Author.Tests.{eqb-true, ltb-true}
use Rattle.theory.proofs.Bools.{and_true}
use Rattle.shape.specs.declared.shape.Shape.{Shape}
use Rattle.shape.specs.declared.shape.Coords.{Coords}
use Rattle.shape.specs.declared.shape.Dim.TheVariants.{X, Y, Z}
use Rattle.shape.specs.declared.shape.Dim.{Dim}
use Rattle.shape.specs.declared.axis.Axis.{Axis}
use Rattle.shape.specs.Shape.{shape_error, extent_of, wrapped_in, axis_of}
use Rattle.shape.proofs.Shapes.{sound}
use Rattle.machine.specs.Number.{node_count, number_of, coords_of, Inside}
use Rattle.machine.specs.ByCoords.{hops_along}
use Rattle.weights.specs.declared.weights.Weights.{Weights}
use Rattle.weights.specs.Weights.{weight_error}
use Rattle.weights.specs.Steps.{distance_at}
use Rattle.machine.proofs.Numbers.{number_below, coords_number, number_coords, inside}
use Rattle.rows.specs.Bits.{bit}
use Rattle.rows.specs.Rows.{in_set}
use Rattle.rows.proofs.Bits.{row_below}
use Rattle.search.specs.Number.{unclear, via_number}
use Rattle.search.specs.BestVia.{within, askable, number_in, NumberOf, LeastOf}
use Rattle.search.specs.PartOf.{part_of, part_row, PartsOf, LevelsOf}
use Rattle.search.specs.RowNumber.{Lowers, SpaceHas}
use Rattle.search.proofs.Clip.{rows_fit}
use Rattle.search.proofs.Scatter.{part_most, level_has, level_is}
use Rattle.search.proofs.Seeking.{in_set_law, in_run}

pub within_inside : (s : Shape) (c : Coords) → within s c ≡ true → Inside s c
unfolding within
within_inside s c e =
    let a = and_true (ltb c.x s.x) _ e in
    let b = and_true (ltb c.y s.y) _ a.1 in
    record { x = ltb-true c.x s.x a.0; y = ltb-true c.y s.y b.0; z = ltb-true c.z s.z b.1 }

pub levels_small : (len : ℕ) (ring : Bool) (p q : ℕ) (xs : List ℕ) → len ≤ 16 → LevelsOf len ring p q xs → (k : ℕ) → k < 32 → get_or xs k 0 < 65536
unfolding part_row
levels_small len ring p q xs h w k l =
    let most : 2 ^ len ≤ 65536 = pow_mono {i = len} {j = 16} h in
    rw (w.each k l) (omega (arith, row_below (λ c. eqb (part_of len ring p q c) k) len))

-- The parts of a dimension as the code has them, where the question can be asked.
pub parts_asked :
    (weight : ℕ) (s : Shape) (d : Dim) (a : Axis) (p q : ℕ) (ys : List ℕ) → a ≡ axis_of s d →
    (weight ≤ 8 → a.len ≤ 16 → p < a.len → q < a.len → PartsOf weight a.len a.ring p q ys) →
    weight ≤ 8 → extent_of s d ≤ 16 → p < extent_of s d → q < extent_of s d → PartsOf weight (extent_of s d) (wrapped_in s d) p q ys
parts_asked weight s d a p q ys e made = rw e at made

-- The length by way of a node, dimension by dimension.
pub length_parts :
    (w : Weights) (s : Shape) (S D c : Coords) →
    distance_at w s S c + distance_at w s c D
    ≡ w.z * part_of s.z (wrapped_in s Z) S.z D.z c.z + w.y * part_of s.y (wrapped_in s Y) S.y D.y c.y + w.x * part_of s.x (wrapped_in s X) S.x D.x c.x
unfolding distance_at
length_parts w s S D c =
    omega (arith, mul-add w.x (hops_along s S c X) (hops_along s c D X), mul-add w.y (hops_along s S c Y) (hops_along s c D Y), mul-add w.z (hops_along s S c Z) (hops_along s c D Z))

-- ---- what is not asked
pub record Asks (w : Weights) (s : Shape) (S D : Coords) (len at : ℕ) : Type 0 where
  pub weights : weight_error w ≡ 0
  pub sound : shape_error s ≡ 0
  pub source : Inside s S
  pub target : Inside s D
  pub run : at + 512 ≤ len

pub asks : (w : Weights) (s : Shape) (S D : Coords) (len at : ℕ) → askable w s S D len at ≡ true → Asks w s S D len at
unfolding askable
asks w s S D len at e =
    let a = and_true (eqb (weight_error w) 0 && eqb (shape_error s) 0) _ e in
    let k = and_true (eqb (weight_error w) 0) _ a.0 in
    let b = and_true (within s S && within s D) _ a.1 in
    let c = and_true (within s S) _ b.0 in
    record { weights = eqb-true (weight_error w) 0 k.0; sound = eqb-true (shape_error s) 0 k.1; source = within_inside s S c.0; target = within_inside s D c.1; run = rows_fit len at 512 b.1 }

module _ (w : Weights) (s : Shape) (S D : Coords) (fa fd to : List ℕ) (at : ℕ) where
  pub unasked : askable w s S D (length to) at ≡ false → LeastOf (node_count s) (number_in w s S D fa fd to at) unclear
  unfolding number_in
  unasked e = record { most = omega arith; each = λ v l. rw e (omega arith); one = inl refl }

  -- ---- what is
  module _
      (ask : askable w s S D (length to) at ≡ true) (xs ys zs : List ℕ)
      (wx : LevelsOf s.x (wrapped_in s X) S.x D.x xs) (wy : PartsOf w.y s.y (wrapped_in s Y) S.y D.y ys) (wz : PartsOf w.z s.z (wrapped_in s Z) S.z D.z zs) where
    h : shape_error s ≡ 0
    h = (asks w s S D (length to) at ask).sound

    abbrev part_x : ℕ → ℕ
    part_x x = part_of s.x (wrapped_in s X) S.x D.x x

    -- The number of the node at c, as its row has it.
    abbrev row_number : Coords → ℕ
    row_number c =
        via_number (get_or zs c.z 0 + get_or ys c.y 0 + w.x * part_x c.x) (c.x + s.x * (c.y + s.y * c.z)) (bit (get_or fa (16 * c.z + c.y) 0) c.x) (bit (get_or fd (16 * c.z + c.y) 0) c.x)
        (bit (get_or to (at + (16 * c.z + c.y)) 0) c.x) (bit (get_or to (at + (16 * c.z + c.y) + 256) 0) c.x)

    length_is_law : (c : Coords) → Inside s c → distance_at w s S c + distance_at w s c D ≡ get_or zs c.z 0 + get_or ys c.y 0 + w.x * part_x c.x
    length_is_law c i = length_parts w s S D c ∙ rw (wy.each c.y i.y, wz.each c.z i.z)

    number_is : (c : Coords) → Inside s c → number_in w s S D fa fd to at (number_of s c) ≡ row_number c
    unfolding number_in in_set number_of
    number_is c i =
        let e : coords_of s (c.x + s.x * (c.y + s.y * c.z)) ≡ c = coords_number s h c i in
        rw (ask, e, length_is_law c i, in_set_law fa c, in_set_law fd c, in_run to at (at + (16 * c.z + c.y)) c refl, in_run to (at + 256) (at + (16 * c.z + c.y) + 256) c (omega arith))

    part_small : (c : Coords) → Inside s c → part_x c.x < 32
    part_small c i = omega (arith, part_most s.x (wrapped_in s X) S.x D.x c.x (sound s h X).high (asks w s S D (length to) at ask).source.x (asks w s S D (length to) at ask).target.x i.x)

    here : (c : Coords) → Inside s c → SpaceHas s w.x xs ys zs fa fd to at s.z (number_in w s S D fa fd to at (number_of s c))
    here c i = record {
      z = c.z;
      below = i.z;
      plane = record {
        y = c.y;
        below = i.y;
        row = record {
          x = c.x;
          k = part_x c.x;
          small = part_small c i;
          at = level_has s.x (wrapped_in s X) S.x D.x xs wx c.x i.x (part_small c i);
          is = number_is c i;
        };
      };
    }

    there : (n : ℕ) → SpaceHas s w.x xs ys zs fa fd to at s.z n → NumberOf (node_count s) (number_in w s S D fa fd to at) n
    there n k =
        let row = k.plane.row in
        let l = level_is s.x (wrapped_in s X) S.x D.x xs wx row.x row.k row.small row.at in
        let c : Coords = record { x = row.x; y = k.plane.y; z = k.z } in
        let i : Inside s (record { x = row.x; y = k.plane.y; z = k.z }) = record { x = l.0; y = k.plane.below; z = k.below } in
        record {
          v = number_of s c;
          below = number_below s h c i;
          is = row.is ∙ rw (← l.1) (sym (number_is c i));
        }

    pub all_vias : (r : ℕ) → Lowers unclear r (SpaceHas s w.x xs ys zs fa fd to at s.z) → LeastOf (node_count s) (number_in w s S D fa fd to at) r
    all_vias r found = record {
      most = found.low;
      each = λ v l. rw (number_coords s h v) at (found.each _ (here (coords_of s v) (inside s h v l)));
      one = ⊎_elim inl (λ p. inr (there r p)) found.one;
    }
