-- A product taken away from a set of nodes, plane by plane and row by row.
use Prim.Native.Nat.{ℕ, ◌+◌, ◌-◌, ◌*◌, ◌/◌, ◌%◌, ◌^◌, ◌≤◌, ◌<◌}
use native.Mathlib.Omega.{arith}
use native.Mathlib.Decide.{ℕ_discrete}
use mathlib.Core.Path.{◌≡◌, refl, sym, ap, ◌∙◌}
use mathlib.Core.Bool.{Bool, true, false, cond, not, ◌&&◌}
use mathlib.Core.List.{List}
use lib.Bits.{bit_and}
use lib.ListN.{length, get_or, set, length-set, replicate}
use lib.Seq.{get_or-set_same, get_or-set_other}
use lib.Dec.{ltb, eqb}
use borrow.Author.Tests.{lt-ltb, le-ltb, eq-eqb, ne_eqb, eqb-true}
use Rattle.std.proofs.lemmas.List.{get_or-replicate}
use Rattle.theory.proofs.Cases.{test, by_le}
use Rattle.rows.specs.Bits.{bit}
use Rattle.rows.specs.Rows.{in_product}
use Rattle.rows.specs.Product.{Less, Are, product}
use Rattle.rows.specs.Planes.{kept_row, plane_to, plane_if, product_to, Producing}
use Rattle.rows.proofs.Bits.{bit_and_law, bit_low, bit_past, bit_not}
use Rattle.rows.proofs.LowestBit.{bit_down}

-- ---- a list filled from the front
pub record Filled (f : ℕ → ℕ) (n : ℕ) (l : List ℕ) (i : ℕ) : Type 0 where
  pub most : i ≤ n
  pub long : length l ≡ n
  pub so_far : (k : ℕ) → k < i → get_or l k 0 ≡ f k

pub filled_begin : (f : ℕ → ℕ) (n : ℕ) (l : List ℕ) → length l ≡ n → Filled f n l 0
filled_begin f n l e = record { most = omega arith; long = e; so_far = λ k h. absurd (omega arith) }

pub filled_turn : (f : ℕ → ℕ) (n : ℕ) (l : List ℕ) (i v : ℕ) → Filled f n l i → i < n → v ≡ f i → Filled f n (set l i v) (i + 1)
filled_turn f n l i v p h e = record {
  most = omega arith;
  long = length-set l i v ∙ p.long;
  so_far = λ k j. here k j (ℕ_discrete k i);
}
  where
    here : (k : ℕ) → k < i + 1 → Dec (k ≡ i) → get_or (set l i v) k 0 ≡ f k
    here k j (yes q) = rw q (get_or-set_same l i v 0 (rw p.long h) ∙ e)
    here k j (no q) = get_or-set_other l i k v 0 (λ w. q w) ∙ p.so_far k (by_le i k (λ w. absurd (q (omega arith))) (λ w. w))

pub filled_end : (f : ℕ → ℕ) (n : ℕ) (l : List ℕ) (i : ℕ) → Filled f n l i → n ≤ i → (k : ℕ) → k < n → get_or l k 0 ≡ f k
filled_end f n l i p h k m = p.so_far k (omega arith)

-- ---- what is taken away
nothing : (b : Bool) → b ≡ (b && not false)
nothing true = refl
nothing false = refl

and_false : (b : Bool) → (b && false) ≡ false
and_false true = refl
and_false false = refl

-- Nothing is.
pub less_none : (f : ℕ → ℕ → Bool) (old : List ℕ) → ((r x : ℕ) → r < 256 → x < 16 → f r x ≡ false) → Less f old old
less_none f old no_one = record { long = refl; bits = λ w r x l m. nothing (bit (get_or old r 0) x) ∙ rw (no_one r x l m) }

-- The same is.
pub less_same : (f g : ℕ → ℕ → Bool) (old new : List ℕ) → Less f old new → ((r x : ℕ) → r < 256 → x < 16 → f r x ≡ g r x) → Less g old new
less_same f g old new p e = record { long = p.long; bits = λ w r x l m. p.bits w r x l m ∙ rw (e r x l m) }

-- ---- a plane, up to its row j
pub record Keeping (plane : List ℕ) (k : ℕ) (old new : List ℕ) (j : ℕ) : Type 0 where
  pub low : k < 16
  pub most : j ≤ 16
  pub less : Less (plane_to plane k j) old new

pub keep_begin : (plane : List ℕ) (k : ℕ) (old : List ℕ) → k < 16 → Keeping plane k old old 0
unfolding plane_to
keep_begin plane k old h = record {
  low = h;
  most = omega arith;
  less = less_none _ old (λ r x l m. rw (le-ltb (r % 16) 0 (omega arith), and_false (eqb (r / 16) k)));
}

pub keep_turn : (plane : List ℕ) (k : ℕ) (old new : List ℕ) (j v : ℕ) → Keeping plane k old new j → j < 16 → v ≡ bit_and (get_or new (16 * k + j) 0) (get_or plane j 0) → Keeping plane k old (set new (16 * k + j) v) (j + 1)
unfolding plane_to
keep_turn plane k old new j v p h e = record {
  low = p.low;
  most = omega arith;
  less = record {
    long = length-set new (16 * k + j) v ∙ p.less.long;
    bits = λ w r x l m. at w r x l m (ℕ_discrete r (16 * k + j));
  };
}
  where
    low : k < 16
    low = p.low

    fits : length old ≡ 256 → 16 * k + j < length new
    fits w = rw (p.less.long, w) (omega arith)

    not_yet : length old ≡ 256 → (x : ℕ) → x < 16 → bit (get_or new (16 * k + j) 0) x ≡ bit (get_or old (16 * k + j) 0) x
    not_yet w x m =
        p.less.bits w (16 * k + j) x (omega arith) m
        ∙ rw (eq-eqb ((16 * k + j) / 16) k (omega arith), le-ltb ((16 * k + j) % 16) j (omega arith)) (sym (nothing (bit (get_or old (16 * k + j) 0) x)))

    same_row : (r : ℕ) → (r ≡ 16 * k + j → ⊥) → (eqb (r / 16) k && ltb (r % 16) j) ≡ (eqb (r / 16) k && ltb (r % 16) (j + 1))
    same_row r ne =
        test (eqb (r / 16) k)
        (λ q. rw q (by_le (r % 16) j
        (λ a. by_le j (r % 16) (λ b. absurd (ne (omega (arith, eqb-true (r / 16) k q)))) (λ b. lt-ltb (r % 16) j b ∙ sym (lt-ltb (r % 16) (j + 1) (omega arith))))
        (λ a. le-ltb (r % 16) j (omega arith) ∙ sym (le-ltb (r % 16) (j + 1) (omega arith)))))
        (λ q. rw q)

    twice : (b : Bool) → b ≡ not (not b)
    twice true = refl
    twice false = refl

    at : length old ≡ 256 → (r x : ℕ) → r < 256 → x < 16 → Dec (r ≡ 16 * k + j) → bit (get_or (set new (16 * k + j) v) r 0) x ≡ (bit (get_or old r 0) x && not ((eqb (r / 16) k && ltb (r % 16) (j + 1)) && not (bit (get_or plane (r % 16) 0) x)))
    at w r x l m (yes q) =
        let n : r % 16 ≡ j = omega arith in
        rw (eq-eqb (r / 16) k (omega arith), lt-ltb (r % 16) (j + 1) (omega arith), n, q)
        (ap (λ (t : ℕ). bit t x) (get_or-set_same new (16 * k + j) v 0 (fits w) ∙ e) ∙ bit_and_law (get_or new (16 * k + j) 0) (get_or plane j 0) x ∙ rw (not_yet w x m, ← twice (bit (get_or plane j 0) x)))
    at w r x l m (no q) = ap (λ (t : ℕ). bit t x) (get_or-set_other new (16 * k + j) r v 0 q) ∙ p.less.bits w r x l m ∙ rw (same_row r q)

pub is_kept : (b : Bool) (plane : List ℕ) (k : ℕ) (old new : List ℕ) → b ≡ true → Less (plane_to plane k 16) old new → Less (plane_if b plane k) old new
unfolding plane_if
is_kept b plane k old new e p = less_same _ _ old new p (λ r x l m. rw e)

pub not_kept_law : (b : Bool) (plane : List ℕ) (k : ℕ) (old : List ℕ) → b ≡ false → Less (plane_if b plane k) old old
unfolding plane_if
not_kept_law b plane k old e = less_none _ old (λ r x l m. rw e)

-- ---- a product, up to its plane k
pub product_begin : (bx by bz : ℕ) (kept old : List ℕ) → bx < 65536 → ((j : ℕ) → j < 16 → get_or kept j 0 ≡ kept_row bx by j) → Producing bx by bz kept old old 0
unfolding product_to
product_begin bx by bz kept old h f = record {
  small = h;
  most = omega arith;
  plane = f;
  less = less_none _ old (λ r x l m. rw (le-ltb (r / 16) 0 (omega arith)));
}

-- What a plane's row does not keep is x where y has the row's bit.
kept_bit : (bx by j x : ℕ) → bx < 65536 → x < 16 → not (bit (kept_row bx by j) x) ≡ (bit bx x && bit by j)
unfolding kept_row
kept_bit bx by j x h m = go (bit by j)
  where
    go : (b : Bool) → not (bit (cond b (65535 - bx) 65535) x) ≡ (bit bx x && b)
    go true = rw (bit_not 16 bx x h m) (two (bit bx x))
      where
        two : (b : Bool) → not (not b) ≡ (b && true)
        two true = refl
        two false = refl
    go false = rw (bit_not 16 0 x (omega arith) m, bit_past 0 0 x (omega arith) (omega arith)) (sym (and_false (bit bx x)))

pub product_turn : (bx by bz : ℕ) (kept old new next : List ℕ) (k : ℕ) (b : Bool) → b ≡ bit bz k → Producing bx by bz kept old new k → k < 16 → Less (plane_if b kept k) new next → Producing bx by bz kept old next (k + 1)
unfolding product_to product in_product plane_if plane_to
product_turn bx by bz kept old new next k b e p h q = record {
  small = p.small;
  most = omega arith;
  plane = p.plane;
  less = record { long = q.long ∙ p.less.long; bits = λ w r x l m. q.bits (p.less.long ∙ w) r x l m ∙ rw (e, p.less.bits w r x l m) (at r x l m) };
}
  where
    here : (v a b c : Bool) → ((v && not false) && not (c && (a && b))) ≡ (v && not (a && (b && c)))
    here true true true true = refl
    here true true true false = refl
    here true true false true = refl
    here true true false false = refl
    here true false b true = refl
    here true false b false = refl
    here false a b c = refl

    there : (v : Bool) (w : Bool) (b : Bool) → ((v && not w) && not (b && false)) ≡ (v && not w)
    there true true b = refl
    there true false true = refl
    there true false false = refl
    there false w b = refl

    at : (r x : ℕ) → r < 256 → x < 16 →
        ((bit (get_or old r 0) x && not (ltb (r / 16) k && (bit bx x && (bit by (r % 16) && bit bz (r / 16))))) && not (bit bz k && ((eqb (r / 16) k && ltb (r % 16) 16) && not (bit (get_or kept (r % 16) 0) x))))
        ≡ (bit (get_or old r 0) x && not (ltb (r / 16) (k + 1) && (bit bx x && (bit by (r % 16) && bit bz (r / 16)))))
    at r x l m =
        by_le (r / 16) k
        (λ a. by_le k (r / 16)
        (λ b.
        let e : r / 16 ≡ k = omega arith in
        rw (le-ltb (r / 16) k b, eq-eqb (r / 16) k e, lt-ltb (r % 16) 16 (omega arith), lt-ltb (r / 16) (k + 1) (omega arith), p.plane (r % 16) (omega arith), kept_bit bx by (r % 16) x p.small m, e)
        (here (bit (get_or old r 0) x) (bit bx x) (bit by (r % 16)) (bit bz k)))
        (λ b. rw (ne_eqb (r / 16) k (λ e. omega arith), lt-ltb (r / 16) k b, lt-ltb (r / 16) (k + 1) (omega arith)) (there (bit (get_or old r 0) x) (bit bx x && (bit by (r % 16) && bit bz (r / 16))) (bit bz k))))
        (λ a. rw (ne_eqb (r / 16) k (λ e. omega arith), le-ltb (r / 16) k (omega arith), le-ltb (r / 16) (k + 1) (omega arith)) (there (bit (get_or old r 0) x) false (bit bz k)))

-- Planes that the product does not have.
pub product_skip : (bx by bz : ℕ) (kept old new : List ℕ) (k n : ℕ) → k + n ≤ 16 → ((i : ℕ) → i < n → bit bz (k + i) ≡ false) → Producing bx by bz kept old new k → Producing bx by bz kept old new (k + n)
unfolding product_to product in_product
product_skip bx by bz kept old new k n h none p = record {
  small = p.small;
  most = h;
  plane = p.plane;
  less = less_same _ _ old new p.less (λ r x l m. by_le k (r / 16)
      (λ a. by_le (k + n) (r / 16)
      (λ b. rw (le-ltb (r / 16) k a, le-ltb (r / 16) (k + n) b))
      (λ b. let e : k + (r / 16 - k) ≡ r / 16 = omega arith in let z : bit bz (r / 16) ≡ false = sym (ap (bit bz) e) ∙ none (r / 16 - k) (omega arith) in
      rw (le-ltb (r / 16) k a, lt-ltb (r / 16) (k + n) b, z) (sym (no_third (bit bx x) (bit by (r % 16))))))
      (λ a. rw (lt-ltb (r / 16) k a, lt-ltb (r / 16) (k + n) (omega arith))));
}
  where
    no_third : (a b : Bool) → (a && (b && false)) ≡ false
    no_third true true = refl
    no_third true false = refl
    no_third false b = refl

-- Eight bits that are none.
pub no_eight : (bz k : ℕ) → bz / 2 ^ k % 256 ≡ 0 → (i : ℕ) → i < 8 → bit bz (k + i) ≡ false
no_eight bz k e i l =
    sym (bit_down k bz i) ∙ ap (λ v. bit v i) (low (bz / 2 ^ k) e) ∙ bit_low (bz / 2 ^ k / 256) 8 0 i l ∙ bit_past 0 0 i (omega arith) (omega arith)
  where
    low : (v : ℕ) → v % 256 ≡ 0 → v ≡ v / 256 * 2 ^ 8 + 0
    low v q = omega arith

-- ---- eight planes, up to the one with number `first` + k
pub record Halving (bz first : ℕ) (kept rows new : List ℕ) (k : ℕ) : Type 0 where
  pub low : first ≤ 8
  pub most : k ≤ 8
  pub step : (bx by : ℕ) (old : List ℕ) → Producing bx by bz kept old rows first → Producing bx by bz kept old new (first + k)

pub half_begin : (bz first : ℕ) (kept rows : List ℕ) → first ≤ 8 → Halving bz first kept rows rows 0
half_begin bz first kept rows l = record { low = l; most = omega arith; step = λ bx by old p. let e : first + 0 ≡ first = omega arith in rw e p }

pub half_turn : (bz first : ℕ) (kept rows new next : List ℕ) (k : ℕ) (b : Bool) → b ≡ bit bz (first + k) → Halving bz first kept rows new k → k < 8 → Less (plane_if b kept (first + k)) new next → Halving bz first kept rows next (k + 1)
half_turn bz first kept rows new next k b e h l q = record {
  low = h.low;
  most = omega arith;
  step = λ bx by old p. let s : first + (k + 1) ≡ first + k + 1 = omega arith in rw s (product_turn bx by bz kept old new next (first + k) b e (h.step bx by old p) (omega (arith, h.low)) q);
}

pub half_end : (bz first : ℕ) (kept rows new : List ℕ) (k : ℕ) → Halving bz first kept rows new k → 8 ≤ k → (bx by : ℕ) (old : List ℕ) → Producing bx by bz kept old rows first → Producing bx by bz kept old new (first + 8)
half_end bz first kept rows new k h l bx by old p = let m = h.most in let e : k ≡ 8 = omega arith in rw e at (h.step bx by old p)

pub product_end : (bx by bz : ℕ) (kept old new : List ℕ) (k : ℕ) → Producing bx by bz kept old new k → 16 ≤ k → Less (product bx by bz) old new
unfolding product_to
product_end bx by bz kept old new k p h = let m = p.most in less_same _ _ old new p.less (λ r x l n. rw (lt-ltb (r / 16) k (omega arith)))

-- ---- an empty product
bit_none : (v x : ℕ) → v ≡ 0 → bit v x ≡ false
bit_none v x e = rw e (bit_past 0 0 x (omega arith) (omega arith))

pub no_x : (bx by bz : ℕ) (old : List ℕ) → bx ≡ 0 → Less (product bx by bz) old old
unfolding product in_product
no_x bx by bz old e = less_none _ old (λ r x l m. rw (bit_none bx x e))

pub no_y : (bx by bz : ℕ) (old : List ℕ) → by ≡ 0 → Less (product bx by bz) old old
unfolding product in_product
no_y bx by bz old e = less_none _ old (λ r x l m. rw (bit_none by (r % 16) e) (and_false (bit bx x)))

pub no_z : (bx by bz : ℕ) (old : List ℕ) → bz ≡ 0 → Less (product bx by bz) old old
unfolding product in_product
no_z bx by bz old e = less_none _ old (λ r x l m. rw (bit_none bz (r / 16) e, and_false (bit by (r % 16))) (and_false (bit bx x)))

-- ---- a product from all rows alike
pub product_is : (bx by bz : ℕ) (two three : List ℕ) → by < 65536 → bz < 65536 →
    Less (product 65535 (65535 - by) 65535) (replicate 256 bx) two → Less (product 65535 65535 (65535 - bz)) two three → Are (product bx by bz) three
unfolding product in_product
product_is bx by bz two three hy hz p q = record { long = q.long ∙ p.long; bits = at }
  where
    ones : (x : ℕ) → x < 16 → bit 65535 x ≡ true
    ones x m = bit_not 16 0 x (omega arith) m ∙ rw (bit_none 0 x refl)

    all : (a b c : Bool) → ((a && not (true && (not b && true))) && not (true && (true && not c))) ≡ (a && (b && c))
    all true true true = refl
    all true true false = refl
    all true false c = refl
    all false b c = refl

    at : (r x : ℕ) → r < 256 → x < 16 → bit (get_or three r 0) x ≡ (bit bx x && (bit by (r % 16) && bit bz (r / 16)))
    at r x l m =
        q.bits p.long r x l m
        ∙ rw (p.bits refl r x l m, get_or-replicate 256 r bx 0 l, ones x m, ones (r % 16) (omega arith), ones (r / 16) (omega arith), bit_not 16 by (r % 16) hy (omega arith), bit_not 16 bz (r / 16) hz (omega arith))
        (all (bit bx x) (bit by (r % 16)) (bit bz (r / 16)))
