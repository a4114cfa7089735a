-- The masks of one end, and of every end: each element, and those of one end from the table of all.
use Prim.Native.Nat.{ℕ, ◌+◌, ◌-◌, ◌*◌, ◌/◌, ◌%◌, ◌≤◌, ◌<◌}
use native.Mathlib.Omega.{arith}
use native.Mathlib.Nat.{mod-eq_of_lt}
use mathlib.Core.Path.{◌≡◌, refl, sym, ap, ◌∙◌}
use mathlib.Core.Bool.{Bool, true, false}
use mathlib.Core.List.{List}
use lib.ListN.{length, get_or, replicate, set, length-set}
use lib.Seq.{get_or-set_same, get_or-set_other}
use lib.Dec.{eqb}
use borrow.Author.Tests.{lt-ltb, le-ltb, eq-eqb, ne_eqb}
use Rattle.theory.proofs.Cases.{by_le}
use Rattle.std.specs.Prelude.{Result, Ok, Err, is_err}
use Rattle.std.proofs.lemmas.List.{get_or-replicate}
use Rattle.numbers.specs.declared.Refusal.{Refusal}
use Rattle.numbers.specs.Refusals.{answer_number}
use Rattle.numbers.proofs.Refusals.{number-range}
use Rattle.shape.specs.declared.axis.Axis.{Axis}
use Rattle.shape.specs.declared.shape.Shape.{Shape}
use Rattle.shape.specs.declared.shape.Coords.{Coords}
use Rattle.shape.specs.declared.shape.Dim.{Dim}
use Rattle.shape.specs.declared.shape.Dim.TheVariants.{X, Y, Z}
use Rattle.shape.specs.Shape.{shape_error, axis_of, coord_of}
use Rattle.shape.proofs.Shapes.{sound}
use Rattle.machine.specs.declared.leg.Mode.{Mode}
use Rattle.machine.specs.Hop.{pick_dim}
use Rattle.rows.specs.Bits.{row_of}
use Rattle.masks.specs.Masks.{end_cell, mask_of, dim_at, mask_at, table_at, end_at, ends_at, gather_at, Ended, Masked}

-- ---- the block of a place of a dimension
module _ (mode : Mode) (from : Bool) (len : ℕ) (ring : Bool) (at : ℕ) where
  pub block_none : len ≤ at → (j : ℕ) → j < 96 → get_or (replicate 96 0) j 0 ≡ mask_of mode from len ring (j / 16) (j % 16) at
  unfolding mask_of
  block_none h j l = get_or-replicate 96 j 0 0 l ∙ rw (le-ltb at len h)

  pub block_some : (j r : ℕ) → at < len → r ≡ row_of (end_cell mode from len ring (j / 16) (j % 16) at) len → r ≡ mask_of mode from len ring (j / 16) (j % 16) at
  unfolding mask_of
  block_some j r h q = q ∙ rw (lt-ltb at len h)

-- ---- a block laid up to its place j
pub record Laid (k : ℕ) (block old new : List ℕ) (j : ℕ) : Type 0 where
  pub long : length new ≡ length old
  pub here : (i : ℕ) → i < j → get_or new (96 * k + i) 0 ≡ get_or block i 0
  pub before : (i : ℕ) → i < 96 * k → get_or new i 0 ≡ get_or old i 0

module _ (k : ℕ) (block old : List ℕ) where
  pub lay_begin : Laid k block old old 0
  lay_begin = record { long = refl; here = λ i l. absurd (omega arith); before = λ i l. refl }

  pub lay_turn : (new : List ℕ) (j r : ℕ) → Laid k block old new j → 96 * k + j < length old → r ≡ get_or block j 0 → Laid k block old (set new (96 * k + j) r) (j + 1)
  lay_turn new j r p l e = record {
    long = length-set new (96 * k + j) r ∙ p.long;
    here = λ i h. by_le j i
        (λ a. let q : i ≡ j = omega arith in rw q (get_or-set_same new (96 * k + j) r 0 (omega (arith, p.long)) ∙ e))
        (λ a. get_or-set_other new (96 * k + j) (96 * k + i) r 0 (λ q. omega arith) ∙ p.here i a);
    before = λ i h. get_or-set_other new (96 * k + j) i r 0 (λ q. omega arith) ∙ p.before i h;
  }

-- ---- the masks up to block k of n
pub record Blocks (f : ℕ → ℕ) (n : ℕ) (masks : List ℕ) (k : ℕ) : Type 0 where
  pub long : length masks ≡ 96 * n
  pub so_far : (i : ℕ) → i < 96 * k → get_or masks i 0 ≡ f i

module _ (f : ℕ → ℕ) (n : ℕ) (masks : List ℕ) where
  pub blocks_turn :
      (next block : List ℕ) (k : ℕ) → Blocks f n masks k → length next ≡ length masks → ((j : ℕ) → j < 96 → get_or next (96 * k + j) 0 ≡ get_or block j 0) →
      ((i : ℕ) → i < 96 * k → get_or next i 0 ≡ get_or masks i 0) → ((j : ℕ) → j < 96 → get_or block j 0 ≡ f (96 * k + j)) → Blocks f n next (k + 1)
  blocks_turn next block k b e here before is = record { long = e ∙ b.long; so_far = λ i l. by_le (96 * k) i (at i l) (λ h. before i h ∙ b.so_far i h) }
    where
      at : (i : ℕ) → i < 96 * (k + 1) → 96 * k ≤ i → get_or next i 0 ≡ f i
      at i l h =
          let e : 96 * k + (i - 96 * k) ≡ i = omega arith in
          let m : i - 96 * k < 96 = omega arith in
          sym (ap (λ (t : ℕ). get_or next t 0) e) ∙ here (i - 96 * k) m ∙ is (i - 96 * k) m ∙ ap f e

-- ---- a block as part of the masks
module _ (mode : Mode) (from : Bool) (s : Shape) (dim : Dim) (axis : Axis) (b : ℕ) where
  pub of_end : (at : Coords) (k p j : ℕ) → j < 96 → dim ≡ dim_at k → axis ≡ axis_of s dim → p ≡ coord_of at dim → b ≡ mask_of mode from axis.len axis.ring (j / 16) (j % 16) p → b ≡ end_at mode from s at (96 * k + j)
  unfolding end_at
  of_end at k p j l ed ea ep q =
      let one : (96 * k + j) / 96 ≡ k = omega arith in
      let two : (96 * k + j) % 96 ≡ j = omega arith in
      let three : (96 * k + j) % 16 ≡ j % 16 = omega arith in
      q ∙ rw (one, two, three, ea, ep, ed)

  pub of_any : (k j : ℕ) → j < 96 → dim ≡ dim_at (k / 16) → axis ≡ axis_of s dim → b ≡ mask_of mode from axis.len axis.ring (j / 16) (j % 16) (k % 16) → b ≡ mask_at mode from s (96 * k + j)
  unfolding mask_at
  of_any k j l ed ea q =
      let zero : (96 * k + j) / 1536 ≡ k / 16 = omega arith in
      let one : (96 * k + j) / 96 ≡ k = omega arith in
      let two : (96 * k + j) % 96 ≡ j = omega arith in
      let three : (96 * k + j) % 16 ≡ j % 16 = omega arith in
      q ∙ rw (zero, one, two, three, ea, ed)

-- ---- all of them
declines : {A : Type 0} (r : Result A Refusal) → is_err r ≡ true → answer_number r ≡ 0 → ⊥
declines (Ok a) e z = cc
declines (Err d) e z = absurd (omega (arith, number-range d))

passes : {A : Type 0} (r : Result A Refusal) → is_err r ≡ false → answer_number r ≡ 0
passes (Ok a) e = refl
passes (Err d) e = cc

pub extent_most : {A : Type 0} (s : Shape) (r : Result A Refusal) → answer_number r ≡ shape_error s → is_err r ≡ false → (d : Dim) (a : Axis) → a ≡ axis_of s d → a.len ≤ 16
extent_most s r q e d a ea = rw ea (sound s (sym q ∙ passes r e) d).high

module _ {A : Type 0} (mode : Mode) (from : Bool) (s : Shape) (r : Result A Refusal) (q : answer_number r ≡ shape_error s) where
  pub table_is : is_err r ≡ false → (masks : List ℕ) (k : ℕ) → 48 ≤ k → Blocks (mask_at mode from s) 48 masks k → Masked mode from s masks
  unfolding table_at
  table_is e masks k h b i l = b.so_far i (omega arith) ∙ rw (eq-eqb (shape_error s) 0 (sym q ∙ passes r e))

  pub table_none : is_err r ≡ true → Masked mode from s (replicate 4608 0)
  unfolding table_at
  table_none e i l = get_or-replicate 4608 i 0 0 l ∙ rw (ne_eqb (shape_error s) 0 (λ w. declines r e (q ∙ w)))

  module _ (at : Coords) where
    pub ends_is : is_err r ≡ false → (masks : List ℕ) (k : ℕ) → 3 ≤ k → Blocks (end_at mode from s at) 3 masks k → Ended mode from s at masks
    unfolding ends_at
    ends_is e masks k h b i l = b.so_far i (omega arith) ∙ rw (eq-eqb (shape_error s) 0 (sym q ∙ passes r e))

    pub ends_none : is_err r ≡ true → Ended mode from s at (replicate 288 0)
    unfolding ends_at
    ends_none e i l = get_or-replicate 288 i 0 0 l ∙ rw (ne_eqb (shape_error s) 0 (λ w. declines r e (q ∙ w)))

-- ---- those of one end from the table of all
pub of_table : (table : List ℕ) (at : Coords) (dim : Dim) (k p j : ℕ) → j < 96 → dim ≡ dim_at k → p ≡ coord_of at dim → get_or table (96 * (16 * k + p % 16) + j) 0 ≡ gather_at table at (96 * k + j)
unfolding gather_at
of_table table at dim k p j l ed ep =
    let one : (96 * k + j) / 96 ≡ k = omega arith in
    let two : (96 * k + j) % 96 ≡ j = omega arith in
    let e : 96 * (16 * k + p % 16) + j ≡ 1536 * k + 96 * (p % 16) + j = omega arith in
    rw (one, two, e, ep, ed)

-- Gathered from the table of all they are the same.
pub gathered : (mode : Mode) (from : Bool) (s : Shape) (table ends : List ℕ) (at : Coords) → Masked mode from s table → at.x < 16 → at.y < 16 → at.z < 16 → ((i : ℕ) → i < 288 → get_or ends i 0 ≡ gather_at table at i) → Ended mode from s at ends
unfolding gather_at table_at mask_at ends_at end_at
gathered mode from s table ends at full x y z g i l =
    let d = i / 96 in
    let e = coord_of at (dim_at d) in
    let he : e < 16 = small (eqb d 0) (eqb d 1) in
    let m : e % 16 ≡ e = mod-eq_of_lt he in
    let hd : i / 96 < 3 = omega arith in
    let j = 1536 * d + 96 * e + i % 96 in
    let j1 : j / 1536 ≡ d = omega arith in
    let j2 : j / 96 % 16 ≡ e = omega arith in
    let j3 : j % 96 ≡ i % 96 = omega arith in
    let j4 : j % 16 ≡ i % 16 = omega arith in
    g i l ∙ rw m (full j (omega arith) ∙ rw (j1, j2, j3, j4))
  where
    small : (a b : Bool) → coord_of at (pick_dim a X (pick_dim b Y Z)) < 16
    small true b = x
    small false true = y
    small false false = z
