-- The masks that others are made of.
use Prim.Native.Nat.{ℕ, ◌+◌, ◌-◌, ◌/◌, ◌^◌, ◌≤◌, ◌<◌}
use native.Mathlib.Omega.{arith}
use mathlib.Core.Path.{◌≡◌, refl, sym, ap, ◌∙◌}
use mathlib.Core.Bool.{Bool, true, false, cond, not, ◌&&◌, ◌||◌}
use lib.Bits.{bit_and, bit_or, and_le_l}
use lib.Dec.{leb, eqb}
use lib.Pow.{pow_mono}
use Rattle.shape.specs.Axis.{axis_useful}
use Rattle.shape.specs.Steps.{ahead, goes}
use Rattle.machine.specs.declared.leg.Mode.{Mode}
use Rattle.machine.specs.declared.leg.Mode.TheVariants.{Adaptive, Deterministic}
use Rattle.machine.specs.Hop.{rule}
use Rattle.legs.specs.Between.{between, crosses, agree, runs}
use Rattle.rows.specs.Bits.{row_of}
use Rattle.rows.proofs.Bits.{bit_and_law, bit_not, row_below, row_bit, row_of_law}
use Rattle.rows.proofs.Combined.{row_same, and_rows, pick_row}
use Rattle.masks.specs.Cell.{takes}
use Rattle.masks.specs.Ranges.{in_range, between_row, useful_row, ways_row, crosses_row, takes_row}
use Rattle.masks.proofs.Ranges.{ring_between, ring_range, open_between, open_range, between_symmetric}
use Rattle.masks.proofs.Arcs.{two_ranges}

pub pick_most : (b : Bool) (x y n r : ℕ) → r ≡ cond b x y → x ≤ n → y ≤ n → r ≤ n
pick_most true x y n r e h k = omega arith
pick_most false x y n r e h k = omega arith

pub ring_row :
    (len c at w top r : ℕ) → c < len → at < len → w ≡ ahead len at c → top ≡ cond (eqb w 0) len (w + 1) →
    r ≡ row_of (λ x. in_range w (len / 2 + 1) (ahead len at x) || in_range (len - len / 2) top (ahead len at x)) len → r ≡ between_row len true c at
unfolding between_row
ring_row len c at w top r hc ha ew et e = e ∙ row_same _ _ len (λ x l. rw (et, ew) (sym (ring_between len c at x hc ha l)))

pub open_row :
    (len c at hi high a b : ℕ) → len ≤ 16 → c < len → at < len → hi ≡ cond (leb at c) len 0 → high ≡ cond (leb c at) (c + 1) 0 →
    ((n : ℕ) → hi ≤ n → n ≤ 16 → a ≡ row_of (in_range c hi) n) → ((n : ℕ) → high ≤ n → n ≤ 16 → b ≡ row_of (in_range 0 high) n) → bit_or a b ≡ between_row len false c at
unfolding between_row
open_row len c at hi high a b h hc ha eh eg f g =
    two_ranges c hi 0 high len a b h (pick_most (leb at c) len 0 len hi eh (omega arith) (omega arith)) (pick_most (leb c at) (c + 1) 0 len high eg (omega arith) (omega arith)) f g
    ∙ row_same _ _ len (λ x l. rw (eh, eg) (sym (open_between len c at x hc ha l)))

pub ring_useful_row :
    (len c : ℕ) (plus : Bool) (lo hi r : ℕ) → c < len → lo ≡ cond plus 1 (len - len / 2) → hi ≡ cond plus (len / 2 + 1) len →
    r ≡ row_of (λ x. in_range lo hi (ahead len c x)) len → r ≡ useful_row len true c plus
unfolding useful_row
ring_useful_row len c plus lo hi r hc el eh e = e ∙ row_same _ _ len (λ x l. rw (el, eh) (sym (ring_range len c x plus hc l)))

pub open_useful_row :
    (len c : ℕ) (plus : Bool) (lo hi r : ℕ) → len ≤ 16 → c < len → lo ≡ cond plus (c + 1) 0 → hi ≡ cond plus len c →
    ((n : ℕ) → hi ≤ n → n ≤ 16 → r ≡ row_of (in_range lo hi) n) → r ≡ useful_row len false c plus
unfolding useful_row
open_useful_row len c plus lo hi r h hc el eh e =
    e len (pick_most plus len c len hi eh (omega arith) (omega arith)) h ∙ row_same _ _ len (λ x l. rw (el, eh) (sym (open_range len c x plus hc l)))

-- ---- crossing a link
pub crosses_from : (from : Bool) (len : ℕ) (ring plus : Bool) (c at a b : ℕ) → from ≡ true → a ≡ between_row len ring c at → b ≡ useful_row len ring c plus → bit_and a b ≡ crosses_row from len ring plus c at
unfolding between_row useful_row crosses_row crosses
crosses_from from len ring plus c at a b e ea eb = rw (ea, eb, e) (and_rows (λ x. between len ring c at x) (λ x. axis_useful len ring c x plus) len)

pub crosses_to : (from : Bool) (len : ℕ) (ring plus : Bool) (c at a : ℕ) (u : Bool) (r : ℕ) → from ≡ false → a ≡ between_row len ring c at → u ≡ axis_useful len ring c at plus → r ≡ cond u a 0 → r ≡ crosses_row from len ring plus c at
unfolding between_row crosses_row crosses
crosses_to from len ring plus c at a u r e ea eu er =
    er
    ∙ rw (ea, eu, e)
    (pick_row (axis_useful len ring c at plus) (λ x. between len ring c at x) len
    ∙ row_same _ _ len (λ x l. rw (between_symmetric len ring c at x) (swap (axis_useful len ring c at plus) (between len ring c x at))))
  where
    swap : (a b : Bool) → (a && b) ≡ (b && a)
    swap true true = refl
    swap true false = refl
    swap false true = refl
    swap false false = refl

pub takes_adaptive : (mode : Mode) (from : Bool) (len : ℕ) (ring plus : Bool) (c at r : ℕ) → mode ≡ Adaptive → r ≡ crosses_row from len ring plus c at → r ≡ takes_row mode from len ring plus c at
unfolding takes_row crosses_row takes
takes_adaptive mode from len ring plus c at r m e = e ∙ rw m

and_not : (f g : ℕ → Bool) (n : ℕ) → n ≤ 16 → bit_and (row_of f n) (65535 - row_of g n) ≡ row_of (λ x. f x && not (g x)) n
and_not f g n h =
    let most : 2 ^ n ≤ 65536 = pow_mono {i = n} {j = 16} h in
    row_of_law (λ x. f x && not (g x)) n (bit_and (row_of f n) (65535 - row_of g n)) (omega (arith, and_le_l (row_of f n) (65535 - row_of g n), row_below f n))
    (λ x l. bit_and_law (row_of f n) (65535 - row_of g n) x ∙ rw (row_bit f n x l, bit_not 16 (row_of g n) x (omega (arith, row_below g n)) (omega arith), row_bit g n x l))

agree_plus : (g : Bool) → g ≡ agree g true
agree_plus true = refl
agree_plus false = refl

agree_minus : (g : Bool) → not g ≡ agree g false
agree_minus true = refl
agree_minus false = refl

pub takes_deterministic :
    (mode : Mode) (from : Bool) (len : ℕ) (ring plus : Bool) (c at ways a b : ℕ) → len ≤ 16 → mode ≡ Deterministic → ways ≡ ways_row from len ring at → a ≡ crosses_row from len ring plus c at → b ≡ cond plus ways (65535 - ways) →
    bit_and a b ≡ takes_row mode from len ring plus c at
unfolding takes_row crosses_row ways_row takes runs
takes_deterministic mode from len ring true c at ways a b h m ew ea eb =
    rw (eb, ea, ew, m)
    (and_rows (λ x. crosses len ring true c (cond from at x) (cond from x at)) (λ x. goes rule len ring (cond from at x) (cond from x at)) len
    ∙ row_same _ _ len (λ x l. ap (λ (t : Bool). crosses len ring true c (cond from at x) (cond from x at) && t) (agree_plus (goes rule len ring (cond from at x) (cond from x at)))))
takes_deterministic mode from len ring false c at ways a b h m ew ea eb =
    rw (eb, ea, ew, m)
    (and_not (λ x. crosses len ring false c (cond from at x) (cond from x at)) (λ x. goes rule len ring (cond from at x) (cond from x at)) len h
    ∙ row_same _ _ len (λ x l. ap (λ (t : Bool). crosses len ring false c (cond from at x) (cond from x at) && t) (agree_minus (goes rule len ring (cond from at x) (cond from x at)))))
