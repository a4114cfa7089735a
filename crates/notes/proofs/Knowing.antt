-- The sets that losses give are those of the clear legs.
use Prim.Native.Nat.{ℕ, ◌+◌, ◌*◌, ◌≤◌, ◌<◌}
use native.Mathlib.Omega.{arith}
use mathlib.Core.Path.{◌≡◌, refl, sym, ap, ◌∙◌}
use mathlib.Core.Logic.{◌⊎◌, inl, inr, ⊎_elim}
use mathlib.Core.Bool.{Bool, true, false, not, true≢false}
use mathlib.Core.List.{List}
use lib.ListN.{length, get_or, set, length-set}
use lib.Seq.{get_or-set_same, get_or-set_other}
use borrow.Author.Tests.{le-leb}
use Rattle.theory.proofs.Cases.{by_le}
use Rattle.shape.specs.declared.shape.Shape.{Shape}
use Rattle.shape.specs.declared.shape.Coords.{Coords}
use Rattle.shape.specs.declared.shape.Dim.TheVariants.{X, Y, Z}
use Rattle.shape.specs.Shape.{shape_error}
use Rattle.shape.proofs.Shapes.{sound, count_most}
use Rattle.machine.specs.declared.leg.Mode.{Mode}
use Rattle.machine.specs.declared.leg.Mode.TheVariants.{Adaptive, Deterministic}
use Rattle.machine.specs.Number.{node_count, coords_of, Inside}
use Rattle.machine.specs.Hop.{rule}
use Rattle.machine.proofs.Numbers.{inside}
use Rattle.weights.specs.Weights.{weight_error}
use Rattle.plan.specs.Layout.{shape_of, weights_of}
use Rattle.plan.specs.Checks.{large, torus_plans, plan_error}
use Rattle.plan.proofs.Plans.{accepted}
use Rattle.rows.specs.Bits.{bit, row_of}
use Rattle.rows.specs.Rows.{in_rows, in_set, in_product}
use Rattle.rows.specs.Product.{Are}
use Rattle.rows.proofs.Bits.{row_bit}
use Rattle.losses.specs.Loss.{on_leg}
use Rattle.losses.proofs.AtPlan.{clear_is}
use Rattle.masks.specs.Masks.{Ended}
use Rattle.sets.specs.Clear.{clear_in}
use Rattle.sets.proofs.Sets.{clear_in_law}
use Rattle.search.specs.FirstVia.{has_rows}
use Rattle.notes.specs.Known.{is_clear, OfPlan, IsAt, FromSet, ToPart, ToBetween, BothTo, PartTo, BothBetween}
use Rattle.notes.specs.Rows.{Elsewhere, Put}

pub weights_ok : (p : List ℕ) → plan_error large p ≡ 0 → weight_error (weights_of p) ≡ 0
weights_ok p h = (accepted torus_plans large p h).weights

pub shape_ok : (p : List ℕ) → plan_error large p ≡ 0 → shape_error (shape_of p) ≡ 0
shape_ok p h = (accepted torus_plans large p h).shape

pub nodes_few : (s : Shape) → shape_error s ≡ 0 → node_count s ≤ 4096
unfolding node_count
nodes_few s h = count_most s h

-- The largest number of 16 bits has every bit.
pub all_bits : (x : ℕ) → x < 16 → bit 65535 x ≡ true
unfolding row_of
all_bits x l = let e : 65535 ≡ row_of (λ _. true) 16 = refl in rw e (row_bit (λ _. true) 16 x l)

pub in_all_law : (s : Shape) → shape_error s ≡ 0 → (c : Coords) → Inside s c → in_product 65535 65535 65535 c ≡ true
unfolding in_product
in_all_law s h c i =
    rw (all_bits c.x (omega (arith, i.x, (sound s h X).high)), all_bits c.y (omega (arith, i.y, (sound s h Y).high)), all_bits c.z (omega (arith, i.z, (sound s h Z).high)))

module _ (p : List ℕ) (s : Shape) (words : List ℕ) (count : ℕ) (k : OfPlan p s words count) (n : ℕ) (c : Coords) (a : IsAt p n c) (m : Mode) (ends rows : List ℕ) where
  ok : shape_error (shape_of p) ≡ 0
  ok = shape_ok p k.plan

  here : Inside (shape_of p) c
  here = rw a.at (inside (shape_of p) ok n a.node)

  few : count ≤ 256
  few = k.losses.few

  pub from_known : Ended m true s c ends → Are (clear_in 65535 65535 65535 ends words count) rows → FromSet p m n rows
  from_known e r v l =
      clear_in_law m true (shape_of p) ok c here 65535 65535 65535 ends words rows count few (rw k.shape at e) r v l (in_all_law (shape_of p) ok (coords_of (shape_of p) v) (inside (shape_of p) ok v l))
      ∙ ap (λ (t : Coords). not (on_leg rule m (shape_of p) words count t (coords_of (shape_of p) v))) a.at
      ∙ sym (clear_is p k.plan words count k.losses n v a.node l m)

  -- Within a product, by losses that stand for all there.
  pub to_within :
      (bx by bz : ℕ) (near : List ℕ) (some : ℕ) → some ≤ 256 → Ended m false s c ends → Are (clear_in bx by bz ends near some) rows → (v : ℕ) → v < node_count (shape_of p) →
      in_product bx by bz (coords_of (shape_of p) v) ≡ true →
      on_leg rule m (shape_of p) near some (coords_of (shape_of p) v) (coords_of (shape_of p) n) ≡ on_leg rule m (shape_of p) words count (coords_of (shape_of p) v) (coords_of (shape_of p) n) →
      in_set (shape_of p) rows 0 v ≡ is_clear p m v n
  to_within bx by bz near some most e r v l i same =
      clear_in_law m false (shape_of p) ok c here bx by bz ends near rows some most (rw k.shape at e) r v l i
      ∙ ap (λ (t : Coords). not (on_leg rule m (shape_of p) near some (coords_of (shape_of p) v) t)) a.at
      ∙ ap not same
      ∙ sym (clear_is p k.plan words count k.losses v n l a.node m)

  pub to_part : (bx by bz : ℕ) → Ended m false s c ends → Are (clear_in bx by bz ends words count) rows → ToPart p m n bx by bz rows 0
  to_part bx by bz e r v l i = to_within bx by bz words count few e r v l i refl

-- ---- rows put into a run
pub put_none : (at : ℕ) (rows old : List ℕ) → Put at rows 0 old old
put_none at rows old = record { rest = record { long = refl; other = λ i h. refl }; put = λ i h. absurd (omega arith) }

pub put_next : (at : ℕ) (rows old new : List ℕ) (n r : ℕ) → Put at rows n old new → at + n < length old → r ≡ get_or rows n 0 → Put at rows (n + 1) old (set new (at + n) r)
put_next at rows old new n r g l e = record {
  rest = record {
    long = length-set new (at + n) r ∙ g.rest.long;
    other = λ i h. get_or-set_other new (at + n) i r 0 (λ q. ⊎_elim (λ a. omega arith) (λ a. omega arith) h) ∙ g.rest.other i (⊎_elim (λ a. inl a) (λ a. inr (omega arith)) h);
  };
  put = λ i h. by_le n i
      (λ a. let q : i ≡ n = omega arith in rw q (get_or-set_same new (at + n) r 0 (omega (arith, g.rest.long)) ∙ e))
      (λ a. get_or-set_other new (at + n) (at + i) r 0 (λ q. omega arith) ∙ g.put i a);
}

-- A set that was put at a place of a run.
module _ (s : Shape) (h : shape_error s ≡ 0) where
  pub row_small : (v : ℕ) → v < node_count s → (coords_of s v).y + 16 * (coords_of s v).z < 256
  row_small v l = let i = inside s h v l in omega (arith, i.y, i.z, (sound s h Y).high, (sound s h Z).high)

  pub put_set : (at : ℕ) (rows old new : List ℕ) → Put at rows 256 old new → (v : ℕ) → v < node_count s → in_set s new at v ≡ in_set s rows 0 v
  unfolding in_set in_rows
  put_set at rows old new g v l =
      let c = coords_of s v in
      let z : 0 + (c.y + 16 * c.z) ≡ c.y + 16 * c.z = omega arith in
      ap (λ (k : ℕ). bit k c.x) (g.put (c.y + 16 * c.z) (row_small v l)) ∙ rw z

  -- What stands elsewhere in the run stays.
  pub other_set : (at n there : ℕ) (old new : List ℕ) → Elsewhere at n old new → (there + 256 ≤ at) ⊎ (at + n ≤ there) → (v : ℕ) → v < node_count s → in_set s new there v ≡ in_set s old there v
  unfolding in_set in_rows
  other_set at n there old new g apart v l =
      let c = coords_of s v in
      let r = row_small v l in
      ap (λ (k : ℕ). bit k c.x) (g.other (there + (c.y + 16 * c.z)) (⊎_elim (λ a. inl (omega arith)) (λ a. inr (omega arith)) apart))

pub put_twice : (at : ℕ) (first second old mid new : List ℕ) → Put at first 256 old mid → Put (at + 256) second 256 mid new → Elsewhere at 512 old new
put_twice at first second old mid new f g = record {
  long = g.rest.long ∙ f.rest.long;
  other = λ i h. g.rest.other i (⊎_elim (λ a. inl (omega arith)) (λ a. inr (omega arith)) h) ∙ f.rest.other i (⊎_elim (λ a. inl a) (λ a. inr (omega arith)) h);
}

pub part_to :
    (p : List ℕ) → plan_error large p ≡ 0 → (D bx by bz at : ℕ) (first second old mid new : List ℕ) → at + 512 ≤ length old → Put at first 256 old mid → Put (at + 256) second 256 mid new →
    ToPart p Adaptive D bx by bz first 0 → ToPart p Deterministic D bx by bz second 0 → PartTo p D bx by bz new at
part_to p h D bx by bz at first second old mid new room f g a d = record {
  room = omega (arith, f.rest.long, g.rest.long);
  adaptive = λ v l i. other_set (shape_of p) (shape_ok p h) (at + 256) 256 at mid new g.rest (inl (omega arith)) v l ∙ put_set (shape_of p) (shape_ok p h) at first old mid f v l ∙ a v l i;
  deterministic = λ v l i. put_set (shape_of p) (shape_ok p h) (at + 256) second mid new g v l ∙ d v l i;
}

-- The product of all places has every node.
pub whole_part : (p : List ℕ) → plan_error large p ≡ 0 → (D : ℕ) (rows : List ℕ) (at : ℕ) → PartTo p D 65535 65535 65535 rows at → BothTo p D rows at
whole_part p h D rows at g =
    let here : (v : ℕ) → v < node_count (shape_of p) → in_product 65535 65535 65535 (coords_of (shape_of p) v) ≡ true =
    λ v l. in_all_law (shape_of p) (shape_ok p h) (coords_of (shape_of p) v) (inside (shape_of p) (shape_ok p h) v l) in
    record { room = g.room; adaptive = λ v l. g.adaptive v l (here v l); deterministic = λ v l. g.deterministic v l (here v l) }

-- Both sets of all nodes hold those of any product.
pub part_of : (p : List ℕ) (D bx by bz : ℕ) (rows : List ℕ) (at : ℕ) → BothTo p D rows at → PartTo p D bx by bz rows at
part_of p D bx by bz rows at g = record { room = g.room; adaptive = λ v l i. g.adaptive v l; deterministic = λ v l i. g.deterministic v l }

-- The adaptive set stands at the front of the run; the deterministic one is put behind it.
pub both_between :
    (p : List ℕ) → plan_error large p ≡ 0 → (S D : ℕ) (second old new : List ℕ) → 512 ≤ length old → Put 256 second 256 old new →
    ToBetween p Adaptive S D old 0 → ToBetween p Deterministic S D second 0 → BothBetween p S D new 0
both_between p h S D second old new room g a d = record {
  room = omega (arith, g.rest.long);
  adaptive = λ v l w. other_set (shape_of p) (shape_ok p h) 256 256 0 old new g.rest (inl (omega arith)) v l ∙ a v l w;
  deterministic = λ v l w. put_set (shape_of p) (shape_ok p h) 256 second old new g v l ∙ d v l w;
}

-- ---- rows that a run has
pub rows_missing : (len at n : ℕ) (b : Bool) → b ≡ has_rows len at n → b ≡ false → at + n ≤ len → ⊥
unfolding has_rows
rows_missing len at n b e f l = true≢false (sym (le-leb (at + n) len l) ∙ sym e ∙ f)
