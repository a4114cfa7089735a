-- A set of clear legs: its bits are those of the nodes whose leg to the end, or from it, meets none of the losses.
use Prim.Native.Nat.{ℕ, zero, suc, ◌+◌, ◌*◌, ◌/◌, ◌%◌, ◌≤◌, ◌<◌, min}
use mathlib.Core.Bool.{Bool, true, false, cond, not, ◌&&◌}
use mathlib.Core.Path.{◌≡◌, refl, ap, ◌∙◌}
use mathlib.Core.List.{List}
use native.Mathlib.Omega.{arith}
use lib.Dec.{ltb, eqb}
use lib.ListN.{get_or}
use borrow.Author.Tests.{eq-eqb, lt-ltb}
use Rattle.shape.specs.declared.shape.Shape.{Shape}
use Rattle.shape.specs.declared.shape.Coords.{Coords}
use Rattle.shape.specs.declared.shape.Dim.TheVariants.{X, Y, Z}
use Rattle.shape.specs.Shape.{shape_error, extent_of, coord_of, wrapped_in}
use Rattle.shape.proofs.Shapes.{sound}
use Rattle.machine.specs.declared.leg.Mode.{Mode}
use Rattle.machine.specs.Number.{node_count, coords_of, Inside}
use Rattle.machine.specs.Hop.{rule}
use Rattle.machine.proofs.Numbers.{inside}
use Rattle.machine.proofs.ByCoords.{inside_at}
use Rattle.rows.specs.Bits.{bit}
use Rattle.rows.specs.Rows.{in_rows, in_set, in_product}
use Rattle.rows.specs.Product.{Are, product}
use Rattle.rows.proofs.Bits.{row_bit}
use Rattle.losses.specs.Loss.{loss_at, loss_kind, loss_meets, some_below, on_leg}
use Rattle.masks.specs.Masks.{end_cell, mask_of, dim_at, end_at, ends_at, Ended}
use Rattle.sets.specs.Part.{kind_dim, kind_own, column, mask_in, part_in, dead_in, loss_in, cell_in, cells_in, dead_cells, loss_cells}
use Rattle.sets.specs.Clear.{some_in, clear_in}
use Rattle.sets.proofs.Columns.{loss_met}

pub some_same : (n : ℕ) (f g : ℕ → Bool) → ((i : ℕ) → f i ≡ g i) → some_below n f ≡ some_below n g
unfolding some_below
some_same zero f g e = refl
some_same (suc n) f g e = rw (e n, some_same n f g e)

pub column_below : (kind d : ℕ) → column kind d < 6
unfolding column kind_own
column_below kind d = go (eqb (kind_dim kind) d) (ltb d (kind_dim kind)) (ltb kind 6) (ltb kind 9)
  where
    go : (a b c e : Bool) → cond a (cond c (1 + kind % 2) (cond e 4 5)) (cond b 0 3) < 6
    go true b true e = omega arith
    go true b false true = omega arith
    go true b false false = omega arith
    go false true c e = omega arith
    go false false c e = omega arith

module _ (mode : Mode) (from : Bool) (s : Shape) (h : shape_error s ≡ 0) (e : Coords) (ie : Inside s e) (ends : List ℕ) (full : Ended mode from s e ends) where
  mask_is : (kind d c : ℕ) → d < 3 → c < 16 → mask_in ends kind d c ≡ mask_of mode from (extent_of s (dim_at d)) (wrapped_in s (dim_at d)) (column kind d) c (coord_of e (dim_at d))
  unfolding mask_in ends_at end_at
  mask_is kind d c hd hc =
      let k = column_below kind d in
      let i = 96 * d + 16 * column kind d + c in
      let i1 : i / 96 ≡ d = omega arith in
      let i2 : i % 96 / 16 ≡ column kind d = omega arith in
      let i4 : i % 16 ≡ c = omega arith in
      full i (omega arith) ∙ rw (eq-eqb (shape_error s) 0 h, i1, i2, i4)

  mask_bit : (kind d c x : ℕ) → d < 3 → c < 16 → x < extent_of s (dim_at d) → bit (mask_in ends kind d c) x ≡ end_cell mode from (extent_of s (dim_at d)) (wrapped_in s (dim_at d)) (column kind d) c (coord_of e (dim_at d)) x
  unfolding mask_of
  mask_bit kind d c x hd hc hx =
      ap (λ (v : ℕ). bit v x) (mask_is kind d c hd hc ∙ rw (lt-ltb (coord_of e (dim_at d)) (extent_of s (dim_at d)) (inside_at s e ie (dim_at d))))
      ∙ row_bit (end_cell mode from (extent_of s (dim_at d)) (wrapped_in s (dim_at d)) (column kind d) c (coord_of e (dim_at d))) (extent_of s (dim_at d)) x hx

  abbrev from_to : Coords → Coords → Coords
  from_to a t = record { x = cond from a.x t.x; y = cond from a.y t.y; z = cond from a.z t.z }

  -- The bit of c in one product, as seen from e.
  part_bit : (c : Coords) → Inside s c → (kind w : ℕ) → part_in ends kind w c ≡ cells_in mode s kind (loss_at w) (from_to e c) (from_to c e)
  unfolding part_in in_product cells_in cell_in end_cell
  part_bit c ic kind w = rw (
    mask_bit kind 0 (w % 16) c.x (omega arith) (omega arith) ic.x,
    mask_bit kind 1 (w / 16 % 16) c.y (omega arith) (omega arith) ic.y,
    mask_bit kind 2 (w / 256 % 16) c.z (omega arith) (omega arith) ic.z,
  )

  pub loss_bit : (c : Coords) → Inside s c → (w : ℕ) → loss_in ends w c ≡ loss_meets rule mode s w (from_to e c) (from_to c e)
  unfolding loss_in dead_in loss_cells dead_cells
  loss_bit c ic w = rw (part_bit c ic (loss_kind w) w, part_bit c ic 9 w, part_bit c ic 10 w, part_bit c ic 11 w) (loss_met mode s w (from_to e c) (from_to c e))

  pub some_bit : (c : Coords) → Inside s c → (losses : List ℕ) (n : ℕ) → some_below n (λ i. loss_in ends (get_or losses i 0) c) ≡ on_leg rule mode s losses n (from_to e c) (from_to c e)
  unfolding on_leg
  some_bit c ic losses n = some_same n (λ i. loss_in ends (get_or losses i 0) c) (λ i. loss_meets rule mode s (get_or losses i 0) (from_to e c) (from_to c e)) (λ i. loss_bit c ic (get_or losses i 0))

pub from_to_law : (from : Bool) (a t : Coords) → ◌≡◌ {A = Coords} (record { x = cond from a.x t.x; y = cond from a.y t.y; z = cond from a.z t.z }) (cond from a t)
from_to_law true a t = refl
from_to_law false a t = refl

-- The rows, at coordinates inside the shape: in the product, and no loss lies on the leg between e and them.
pub clear_at :
    (mode : Mode) (from : Bool) (s : Shape) (h : shape_error s ≡ 0) (e : Coords) (ie : Inside s e) (bx by bz : ℕ) (ends losses rows : List ℕ) (count : ℕ) → count ≤ 256 →
    Ended mode from s e ends → Are (clear_in bx by bz ends losses count) rows → (c : Coords) → Inside s c →
    in_rows rows 0 c ≡ (in_product bx by bz c && not (on_leg rule mode s losses count (cond from e c) (cond from c e)))
unfolding in_rows clear_in product some_in
clear_at mode from s h e ie bx by bz ends losses rows count few full are c ic =
    let cx = ic.x in
    let cy = ic.y in
    let cz = ic.z in
    let hx = (sound s h X).high in
    let hy = (sound s h Y).high in
    let hz = (sound s h Z).high in
    let r = 0 + (c.y + 16 * c.z) in
    let ry : r % 16 ≡ c.y = omega arith in
    let rz : r / 16 ≡ c.z = omega arith in
    let n : min count 256 ≡ count = omega arith in
    let met : some_below count (λ i. loss_in ends (get_or losses i 0) c) ≡ on_leg rule mode s losses count (cond from e c) (cond from c e) = some_bit mode from s h e ie ends full c ic losses count ∙ rw (from_to_law from e c, from_to_law from c e) in
    are.bits r c.x (omega arith) (omega arith) ∙ rw (ry, rz, n) (ap (λ (b : Bool). in_product bx by bz c && not b) met)

-- The same of a node.
pub clear_set :
    (mode : Mode) (from : Bool) (s : Shape) (h : shape_error s ≡ 0) (e : Coords) (ie : Inside s e) (bx by bz : ℕ) (ends losses rows : List ℕ) (count : ℕ) → count ≤ 256 →
    Ended mode from s e ends → Are (clear_in bx by bz ends losses count) rows → (m : ℕ) → m < node_count s →
    in_set s rows 0 m ≡ (in_product bx by bz (coords_of s m) && not (on_leg rule mode s losses count (cond from e (coords_of s m)) (cond from (coords_of s m) e)))
unfolding in_set
clear_set mode from s h e ie bx by bz ends losses rows count few full are m hm =
    clear_at mode from s h e ie bx by bz ends losses rows count few full are (coords_of s m) (inside s h m hm)

-- The same of a node in the product.
pub clear_in_law :
    (mode : Mode) (from : Bool) (s : Shape) (h : shape_error s ≡ 0) (e : Coords) (ie : Inside s e) (bx by bz : ℕ) (ends losses rows : List ℕ) (count : ℕ) → count ≤ 256 →
    Ended mode from s e ends → Are (clear_in bx by bz ends losses count) rows → (m : ℕ) → m < node_count s → in_product bx by bz (coords_of s m) ≡ true →
    in_set s rows 0 m ≡ not (on_leg rule mode s losses count (cond from e (coords_of s m)) (cond from (coords_of s m) e))
clear_in_law mode from s h e ie bx by bz ends losses rows count few full are m hm i = clear_set mode from s h e ie bx by bz ends losses rows count few full are m hm ∙ rw i
