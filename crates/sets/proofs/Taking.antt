-- Losses taken away one after the other.
use Prim.Native.Nat.{ℕ, zero, suc, ◌+◌, ◌*◌, ◌/◌, ◌%◌, ◌^◌, ◌≤◌, ◌<◌, min}
use native.Mathlib.Omega.{arith}
use native.Mathlib.Numerals.{add-one}
use mathlib.Core.Path.{◌≡◌, refl, ◌∙◌}
use mathlib.Core.Bool.{Bool, true, false, not, ◌&&◌, ◌||◌}
use mathlib.Core.List.{List}
use lib.ListN.{get_or}
use lib.Bits.{bit_and}
use lib.Dec.{ltb, eqb}
use borrow.Author.Tests.{lt-ltb, le-ltb, eq-eqb, ne_eqb, eqb-true, ltb-true}
use Rattle.theory.proofs.Bools.{and_true}
use Rattle.theory.proofs.Cases.{by_le}
use Rattle.shape.specs.declared.shape.Coords.{Coords}
use Rattle.shape.specs.declared.shape.Dim.{Dim}
use Rattle.shape.specs.declared.shape.Dim.TheVariants.{X, Y, Z}
use Rattle.rows.specs.Bits.{bit}
use Rattle.rows.specs.Rows.{in_product}
use Rattle.rows.proofs.Bits.{bit_and_law}
use Rattle.rows.specs.Product.{node_at, Less, Are, product}
use Rattle.rows.proofs.Taking.{less_none, less_same}
use Rattle.losses.specs.Loss.{some_below}
use Rattle.sets.specs.Part.{kind_dim, kind_own, columns, column, dim_number, mask_in, part_in, dead_in, loss_in}
use Rattle.sets.specs.Clear.{some_in, clear_in}

-- ---- the column of a dimension
-- A test of each number below n.
unfoldable all_to : (ℕ → Bool) → ℕ → Bool
all_to f zero = true
all_to f (suc n) = f n && all_to f n

all_below : (f : ℕ → Bool) (n : ℕ) → all_to f n ≡ true → (k : ℕ) → k < n → f k ≡ true
unfolding all_to
all_below f zero e k l = absurd (omega arith)
all_below f (suc n) e k l = by_le n k
    (λ h. let q : k ≡ n = omega arith in rw q (and_true (f n) _ e).0)
    (λ h. all_below f n (and_true (f n) _ e).1 k h)

abbrev is_column : ℕ → ℕ → Bool
is_column d kind = eqb (columns d / 2 ^ (4 * kind) % 16) (column kind d) && ltb (column kind d) 6

columns_are : (d : ℕ) → d < 3 → all_to (is_column d) 12 ≡ true
unfolding all_to column kind_dim kind_own columns
columns_are zero h = refl
columns_are (suc zero) h = refl
columns_are (suc (suc zero)) h = refl
columns_are (suc (suc (suc n))) h = absurd (omega arith)

pub column_is : (kind d c : ℕ) → kind < 12 → d < 3 → c ≡ columns d → (c / 2 ^ (4 * kind) % 16 ≡ column kind d) × (c / 2 ^ (4 * kind) % 16 < 6)
column_is kind d c k l e =
    let both = and_true (eqb (columns d / 2 ^ (4 * kind) % 16) (column kind d)) _ (all_below (is_column d) 12 (columns_are d l) kind k) in
    let is : c / 2 ^ (4 * kind) % 16 ≡ column kind d = rw e (eqb-true (columns d / 2 ^ (4 * kind) % 16) (column kind d) both.0) in
    (is, omega (arith, is, ltb-true (column kind d) 6 both.1))

pub dim_low : (d : Dim) → dim_number d < 3
dim_low X = omega arith
dim_low Y = omega arith
dim_low Z = omega arith

-- ---- one loss, within a product
module _ (ends : List ℕ) (w bx by bz : ℕ) where
  abbrev pub LessIn : (Coords → Bool) → List ℕ → List ℕ → Type 0
  LessIn f old new = Less (λ r x. f (node_at r x) && product bx by bz r x) old new

  pub part_is :
      (kind a b c x y z : ℕ) (old new : List ℕ) → a ≡ mask_in ends kind 0 (w % 16) → b ≡ mask_in ends kind 1 (w / 16 % 16) → c ≡ mask_in ends kind 2 (w / 256 % 16) →
      x ≡ bit_and a bx → y ≡ bit_and b by → z ≡ bit_and c bz → Less (product x y z) old new → LessIn (part_in ends kind w) old new
  unfolding part_in product in_product
  part_is kind a b c x y z old new ea eb ec ex ey ez p = less_same _ _ old new p (λ r i l m.
      rw (ex, ey, ez, ea, eb, ec, bit_and_law (mask_in ends kind 0 (w % 16)) bx i, bit_and_law (mask_in ends kind 1 (w / 16 % 16)) by (r % 16), bit_and_law (mask_in ends kind 2 (w / 256 % 16)) bz (r / 16))
      (go (bit (mask_in ends kind 0 (w % 16)) i) (bit bx i) (bit (mask_in ends kind 1 (w / 16 % 16)) (r % 16)) (bit by (r % 16)) (bit (mask_in ends kind 2 (w / 256 % 16)) (r / 16)) (bit bz (r / 16))))
    where
      go : (a p b q c r : Bool) → ((a && p) && ((b && q) && (c && r))) ≡ ((a && (b && c)) && (p && (q && r)))
      go true true true true c r = refl
      go true true true false true r = refl
      go true true true false false r = refl
      go true true false q c r = refl
      go true false true q true r = refl
      go true false true q false r = refl
      go true false false q c r = refl
      go false p b q c r = refl

  -- What is taken away one after the other is taken away together.
  less_then : (f g : Coords → Bool) (old mid new : List ℕ) → LessIn f old mid → LessIn g mid new → LessIn (λ c. f c || g c) old new
  less_then f g old mid new p q = record {
    long = q.long ∙ p.long;
    bits = λ h r x l m. q.bits (p.long ∙ h) r x l m ∙ rw (p.bits h r x l m) (go (bit (get_or old r 0) x) (f (node_at r x)) (g (node_at r x)) (product bx by bz r x));
  }
    where
      go : (v a b p : Bool) → ((v && not (a && p)) && not (b && p)) ≡ (v && not ((a || b) && p))
      go true true true true = refl
      go true true true false = refl
      go true true false true = refl
      go true true false false = refl
      go true false b p = refl
      go false a b p = refl

  pub dead_is : (one two three four : List ℕ) → LessIn (part_in ends 9 w) one two → LessIn (part_in ends 10 w) two three → LessIn (part_in ends 11 w) three four → LessIn (dead_in ends w) one four
  unfolding dead_in
  dead_is one two three four p q t = less_then (part_in ends 9 w) (λ c. part_in ends 10 w c || part_in ends 11 w c) one two four p (less_then (part_in ends 10 w) (part_in ends 11 w) two three four q t)

  pub loss_part : (old new : List ℕ) → w / 4096 < 9 → LessIn (part_in ends (w / 4096) w) old new → LessIn (loss_in ends w) old new
  unfolding loss_in
  loss_part old new h p = less_same _ _ old new p (λ r x l m. rw (lt-ltb (w / 4096) 9 h))

  pub loss_dead : (old new : List ℕ) → 9 ≤ w / 4096 → w / 4096 ≡ 9 → LessIn (dead_in ends w) old new → LessIn (loss_in ends w) old new
  unfolding loss_in
  loss_dead old new h e p = less_same _ _ old new p (λ r x l m. rw (le-ltb (w / 4096) 9 h, eq-eqb (w / 4096) 9 e))

  pub loss_none : (old : List ℕ) → 9 ≤ w / 4096 → (w / 4096 ≡ 9 → ⊥) → LessIn (loss_in ends w) old old
  unfolding loss_in
  loss_none old h ne = less_none _ old (λ r x l m. rw (le-ltb (w / 4096) 9 h, ne_eqb (w / 4096) 9 ne))

-- ---- one loss after the other, up to the one with number i
abbrev pub Clearing : (bx by bz : ℕ) (ends losses rows : List ℕ) (i : ℕ) → Type 0
Clearing bx by bz ends losses rows i = Are (λ r x. product bx by bz r x && not (some_in ends losses i r x)) rows

pub clear_begin : (bx by bz : ℕ) (ends losses rows : List ℕ) → Are (product bx by bz) rows → Clearing bx by bz ends losses rows 0
unfolding some_in some_below
clear_begin bx by bz ends losses rows p = record { long = p.long; bits = λ r x l m. p.bits r x l m ∙ go (product bx by bz r x) }
  where
    go : (b : Bool) → b ≡ (b && not false)
    go true = refl
    go false = refl

pub clear_turn :
    (bx by bz : ℕ) (ends losses rows next : List ℕ) (i w : ℕ) → Clearing bx by bz ends losses rows i → w ≡ get_or losses i 0 →
    Less (λ r x. loss_in ends w (node_at r x) && product bx by bz r x) rows next → Clearing bx by bz ends losses next (i + 1)
unfolding some_in some_below
clear_turn bx by bz ends losses rows next i w p e q = record {
  long = q.long ∙ p.long;
  bits = λ r x l m. q.bits p.long r x l m ∙ rw (p.bits r x l m, e, add-one i) (go (product bx by bz r x) (loss_in ends (get_or losses i 0) (node_at r x)) (some_below i (λ j. loss_in ends (get_or losses j 0) (node_at r x))));
}
  where
    go : (v a b : Bool) → ((v && not b) && not (a && v)) ≡ (v && not (a || b))
    go true true true = refl
    go true true false = refl
    go true false true = refl
    go true false false = refl
    go false a b = refl

pub clear_end : (bx by bz : ℕ) (ends losses rows : List ℕ) (count i : ℕ) → i ≡ min count 256 → Clearing bx by bz ends losses rows i → Are (clear_in bx by bz ends losses count) rows
unfolding clear_in
clear_end bx by bz ends losses rows count i e p = record { long = p.long; bits = λ r x l k. p.bits r x l k ∙ rw e }
