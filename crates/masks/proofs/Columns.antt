-- The columns of masks.
use Prim.Native.Nat.{ℕ, ◌+◌, ◌-◌, ◌^◌, ◌≤◌, ◌<◌}
use native.Mathlib.Omega.{arith}
use mathlib.Core.Path.{◌≡◌, refl, sym, ◌∙◌}
use mathlib.Core.Bool.{Bool, true, false, cond, ◌&&◌}
use lib.Bits.{bit_or}
use lib.Dec.{eqb}
use borrow.Author.Tests.{lt-ltb, le-ltb, le-leb, lt-leb, eq-eqb, ne_eqb}
use Rattle.theory.proofs.Cases.{by_order}
use Rattle.shape.specs.Axis.{place}
use Rattle.machine.specs.declared.leg.Mode.{Mode}
use Rattle.machine.specs.declared.leg.Mode.TheVariants.{Adaptive, Deterministic}
use Rattle.legs.specs.Between.{between, crosses, runs}
use Rattle.rows.specs.Bits.{row_of}
use Rattle.rows.proofs.Combined.{row_same, or_rows, no_row, full_row, pick_row}
use Rattle.masks.specs.Cell.{takes, takes_link, takes_links, passes_before, passes_behind, cell}
use Rattle.masks.specs.Masks.{end_cell}
use Rattle.masks.specs.Ranges.{in_range, between_row, takes_row, link_row, links_row, before_row, behind_row}
use Rattle.masks.proofs.Ranges.{between_symmetric}

row_none : (f : ℕ → Bool) (n : ℕ) → ((x : ℕ) → f x ≡ false) → 0 ≡ row_of f n
row_none f n e = sym (row_same f (λ x. false) n (λ x l. e x) ∙ no_row n)

-- ---- nothing lies at a place that does not exist
between_none : (len : ℕ) (ring : Bool) (c p q : ℕ) → len ≤ c → between len ring c p q ≡ false
unfolding between
between_none len ring c p q h = rw (le-ltb c len h)

takes_none : (m : Mode) (len : ℕ) (ring plus : Bool) (c p q : ℕ) → len ≤ c → takes m len ring plus c p q ≡ false
unfolding takes runs crosses
takes_none Adaptive len ring plus c p q h = rw (between_none len ring c p q h)
takes_none Deterministic len ring plus c p q h = rw (between_none len ring c p q h)

pub no_way : (m : Mode) (from : Bool) (len : ℕ) (ring plus : Bool) (c at : ℕ) → len ≤ c → 0 ≡ takes_row m from len ring plus c at
unfolding takes_row
no_way m from len ring plus c at h = row_none _ len (λ x. takes_none m len ring plus c (cond from at x) (cond from x at) h)

pub no_link : (m : Mode) (from : Bool) (len : ℕ) (ring : Bool) (c at : ℕ) → len ≤ c → 0 ≡ link_row m from len ring c at
unfolding link_row takes_link
no_link m from len ring c at h = row_none _ len (λ x. rw (takes_none m len ring true c (cond from at x) (cond from x at) h, le-ltb c len h))

pub no_between : (len : ℕ) (ring : Bool) (c at : ℕ) → len ≤ c → 0 ≡ between_row len ring c at
unfolding between_row
no_between len ring c at h = row_none _ len (λ x. between_none len ring c at x h)

-- ---- links
pub link_is :
    (m : Mode) (from : Bool) (len : ℕ) (ring : Bool) (c at next a b : ℕ) → c < len → next ≡ place len c true → a ≡ takes_row m from len ring true c at → b ≡ takes_row m from len ring false next at →
    bit_or a b ≡ link_row m from len ring c at
unfolding takes_row link_row takes_link
link_is m from len ring c at next a b h en ea eb =
    rw (ea, eb, en, lt-ltb c len h)
    (or_rows (λ x. takes m len ring true c (cond from at x) (cond from x at)) (λ x. takes m len ring false (place len c true) (cond from at x) (cond from x at)) len)

pub links_is :
    (m : Mode) (from : Bool) (len : ℕ) (ring : Bool) (c at last a b : ℕ) → last ≡ place len c false → a ≡ link_row m from len ring c at → b ≡ link_row m from len ring last at →
    bit_or a b ≡ links_row m from len ring c at
unfolding link_row links_row takes_links
links_is m from len ring c at last a b el ea eb =
    rw (ea, eb, el)
    (or_rows (λ x. takes_link m len ring c (cond from at x) (cond from x at)) (λ x. takes_link m len ring (place len c false) (cond from at x) (cond from x at)) len)

-- ---- the other dimensions
pub no_other : (len c : ℕ) → len ≤ c → 0 ≡ row_of (λ x. eqb c x) len
no_other len c h = sym (row_same (λ x. eqb c x) (λ x. false) len (λ x l. ne_eqb c x (λ e. omega arith)) ∙ no_row len)

pub other_is : (len c r : ℕ) → len ≤ 16 → c < len → ((n : ℕ) → c + 1 ≤ n → n ≤ 16 → r ≡ row_of (in_range c (c + 1)) n) → r ≡ row_of (λ x. eqb c x) len
unfolding in_range
other_is len c r h hc e =
    e len (omega arith) h
    ∙ row_same _ _ len (λ x l. by_order c x
    (λ a. rw (le-leb c x (omega arith), le-ltb x (c + 1) (omega arith), ne_eqb c x (λ k. omega arith)))
    (λ a. rw (le-leb c x (omega arith), lt-ltb x (c + 1) (omega arith), eq-eqb c x a))
    (λ a. rw (lt-leb c x a, ne_eqb c x (λ k. omega arith))))

pub own_is : (len c at a r : ℕ) → a ≡ 2 ^ len - 1 → r ≡ cond (eqb c at) a 0 → r ≡ row_of (λ x. eqb c at) len
own_is len c at a r ea e =
    e ∙ rw (ea, full_row len) (pick_row (eqb c at) (λ x. true) len ∙ row_same _ _ len (λ x l. and_true (eqb c at)))
  where
    and_true : (b : Bool) → (b && true) ≡ b
    and_true true = refl
    and_true false = refl

module _ (m : Mode) (from : Bool) (len : ℕ) (ring : Bool) (c at : ℕ) where
  either_end : (from : Bool) (x : ℕ) → between len ring c at x ≡ between len ring c (cond from at x) (cond from x at)
  either_end true x = refl
  either_end false x = between_symmetric len ring c at x

  pub before_adaptive : (r : ℕ) → m ≡ Adaptive → r ≡ between_row len ring c at → r ≡ before_row m from len ring c at
  unfolding between_row before_row passes_before
  before_adaptive r e q = q ∙ rw e (row_same _ _ len (λ x l. either_end from x))

  pub behind_adaptive : (r : ℕ) → m ≡ Adaptive → r ≡ between_row len ring c at → r ≡ behind_row m from len ring c at
  unfolding between_row behind_row passes_behind
  behind_adaptive r e q = q ∙ rw e (row_same _ _ len (λ x l. either_end from x))

  pub before_start : (r : ℕ) → m ≡ Deterministic → from ≡ true → r ≡ row_of (λ x. eqb c x) len → r ≡ before_row m from len ring c at
  unfolding before_row passes_before
  before_start r e f q = q ∙ rw (e, f)

  pub before_target : (r : ℕ) → m ≡ Deterministic → from ≡ false → r ≡ row_of (λ x. eqb c at) len → r ≡ before_row m from len ring c at
  unfolding before_row passes_before
  before_target r e f q = q ∙ rw (e, f)

  pub behind_start : (r : ℕ) → m ≡ Deterministic → from ≡ true → r ≡ row_of (λ x. eqb c at) len → r ≡ behind_row m from len ring c at
  unfolding behind_row passes_behind
  behind_start r e f q = q ∙ rw (e, f)

  pub behind_target : (r : ℕ) → m ≡ Deterministic → from ≡ false → r ≡ row_of (λ x. eqb c x) len → r ≡ behind_row m from len ring c at
  unfolding behind_row passes_behind
  behind_target r e f q = q ∙ rw (e, f)

-- ---- by the number of a column
module _ (m : Mode) (from : Bool) (len : ℕ) (ring : Bool) (column c at r : ℕ) where
  pub column_0 : column ≡ 0 → r ≡ before_row m from len ring c at → r ≡ row_of (end_cell m from len ring column c at) len
  unfolding end_cell cell before_row
  column_0 e q = q ∙ rw e

  pub column_1 : column ≡ 1 → r ≡ takes_row m from len ring true c at → r ≡ row_of (end_cell m from len ring column c at) len
  unfolding end_cell cell takes_row
  column_1 e q = q ∙ rw e

  pub column_2 : column ≡ 2 → r ≡ takes_row m from len ring false c at → r ≡ row_of (end_cell m from len ring column c at) len
  unfolding end_cell cell takes_row
  column_2 e q = q ∙ rw e

  pub column_3 : column ≡ 3 → r ≡ behind_row m from len ring c at → r ≡ row_of (end_cell m from len ring column c at) len
  unfolding end_cell cell behind_row
  column_3 e q = q ∙ rw e

  pub column_4 : column ≡ 4 → r ≡ link_row m from len ring c at → r ≡ row_of (end_cell m from len ring column c at) len
  unfolding end_cell cell link_row
  column_4 e q = q ∙ rw e

  pub column_5 : (column ≡ 0 → ⊥) → (column ≡ 1 → ⊥) → (column ≡ 2 → ⊥) → (column ≡ 3 → ⊥) → (column ≡ 4 → ⊥) → r ≡ links_row m from len ring c at → r ≡ row_of (end_cell m from len ring column c at) len
  unfolding end_cell cell links_row
  column_5 a b d e f q = q ∙ row_same _ _ len (λ x l. rw (ne_eqb column 0 a, ne_eqb column 1 b, ne_eqb column 2 d, ne_eqb column 3 e, ne_eqb column 4 f))
