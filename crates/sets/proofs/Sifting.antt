-- Losses sifted one after the other, and what the others meet: nothing.
use Prim.Native.Nat.{ℕ, zero, suc, ◌+◌, ◌*◌, ◌/◌, ◌%◌, ◌≤◌, ◌<◌}
use native.Mathlib.Omega.{arith}
use native.Mathlib.Numerals.{add-one}
use mathlib.Core.Path.{◌≡◌, refl, sym, ap, ◌∙◌}
use mathlib.Core.Bool.{Bool, true, false, ◌&&◌, ◌||◌, true≢false}
use mathlib.Core.List.{List}
use lib.Bits.{bit_and}
use lib.ListN.{length, get_or, set, length-set}
use lib.Seq.{get_or-set_same, get_or-set_other}
use lib.Dec.{ltb, eqb}
use borrow.Author.Tests.{lt-ltb, le-ltb, eq-eqb, ne_eqb, eqb-true}
use Rattle.theory.proofs.Cases.{test}
use Rattle.shape.specs.declared.shape.Coords.{Coords}
use Rattle.rows.specs.Bits.{bit}
use Rattle.rows.specs.Rows.{in_product}
use Rattle.rows.proofs.Bits.{bit_and_law, bit_past}
use Rattle.losses.specs.Loss.{loss_kind, some_below}
use Rattle.sets.specs.Part.{column, mask_in, part_in, dead_in, loss_in}
use Rattle.sets.specs.Sift.{part_reaches, dead_reaches, reaches, Sifted}
use Rattle.sets.proofs.Sets.{column_below}

-- ---- what a kind reaches
pub reaches_part : (by bz : ℕ) (ends : List ℕ) (w : ℕ) (r : Bool) → w / 4096 < 9 → r ≡ part_reaches by bz ends (w / 4096) w → r ≡ reaches by bz ends w
unfolding reaches
reaches_part by bz ends w r h e = rw (lt-ltb (w / 4096) 9 h) e

pub reaches_dead : (by bz : ℕ) (ends : List ℕ) (w : ℕ) (r : Bool) → 9 ≤ w / 4096 → w / 4096 ≡ 9 → r ≡ dead_reaches by bz ends w → r ≡ reaches by bz ends w
unfolding reaches
reaches_dead by bz ends w r h k e = rw (le-ltb (w / 4096) 9 h, eq-eqb (w / 4096) 9 k) e

pub reaches_none : (by bz : ℕ) (ends : List ℕ) (w : ℕ) → 9 ≤ w / 4096 → (w / 4096 ≡ 9 → ⊥) → false ≡ reaches by bz ends w
unfolding reaches
reaches_none by bz ends w h ne = rw (le-ltb (w / 4096) 9 h, ne_eqb (w / 4096) 9 ne)

-- ---- one after the other
pub sift_begin : (by bz : ℕ) (ends losses kept : List ℕ) → Sifted by bz ends losses 0 kept kept 0
unfolding some_below
sift_begin by bz ends losses kept = record { few = omega arith; long = refl; same = λ l f no. refl }

-- What stands behind the first m is not looked at.
front_same : (f : ℕ → Bool) (kept : List ℕ) (m w k : ℕ) → k ≤ m → some_below k (λ i. f (get_or (set kept m w) i 0)) ≡ some_below k (λ i. f (get_or kept i 0))
unfolding some_below
front_same f kept m w zero h = refl
front_same f kept m w (suc k) h = rw (get_or-set_other kept m k w 0 (λ q. omega arith), front_same f kept m w k (omega arith))

pub sift_turn :
    (by bz : ℕ) (ends losses first kept : List ℕ) (found i w step : ℕ) (b : Bool) → Sifted by bz ends losses i first kept found → i < 256 → w ≡ get_or losses i 0 →
    b ≡ reaches by bz ends w → (b ≡ true → step ≡ 1) → (b ≡ false → step ≡ 0) → Sifted by bz ends losses (i + 1) first (set kept found w) (found + step)
unfolding some_below
sift_turn by bz ends losses first kept found i w step b g h e eb one none =
    let few = g.few in
    let old : (f : ℕ → Bool) → some_below found (λ j. f (get_or (set kept found w) j 0)) ≡ some_below found (λ j. f (get_or kept j 0)) = λ f. front_same f kept found w found (omega arith) in
    test b
    (λ t.
    record {
      few = omega (arith, one t);
      long = length-set kept found w ∙ g.long;
      same = λ l f no. rw (one t, add-one found, add-one i, get_or-set_same kept found w 0 (omega (arith, l, g.long)), old f, g.same l f no, e);
    })
    (λ t.
    let same : found + step ≡ found = omega (arith, none t) in
    record {
      few = omega arith;
      long = length-set kept found w ∙ g.long;
      same = λ l f no. rw (same, add-one i, old f, g.same l f no, sym e, no w (sym eb ∙ t));
    })

-- ---- a loss that does not reach is not met, by any end whose masks are the same in Y and Z
no_bit : (v b x : ℕ) → bit_and v b ≡ 0 → bit b x ≡ true → bit v x ≡ false
no_bit v b x z t = go (bit v x) (ap (λ (k : Bool). bit v x && k) (sym t) ∙ sym (bit_and_law v b x) ∙ ap (λ (k : ℕ). bit k x) z ∙ bit_past 0 0 x (omega arith) (omega arith))
  where
    go : (q : Bool) → (q && true) ≡ false → q ≡ false
    go true h = h
    go false h = refl

module _ (by bz : ℕ) (ends : List ℕ) (others : List ℕ) (same : (i : ℕ) → 96 ≤ i → i < 288 → get_or others i 0 ≡ get_or ends i 0) (c : Coords) (iy : bit by c.y ≡ true) (iz : bit bz c.z ≡ true) where
  mask_same : (kind d k : ℕ) → 1 ≤ d → d < 3 → k < 16 → mask_in others kind d k ≡ mask_in ends kind d k
  unfolding mask_in
  mask_same kind d k l h m = let b = column_below kind d in same (96 * d + 16 * column kind d + k) (omega arith) (omega arith)

  part_missed : (kind w : ℕ) → part_reaches by bz ends kind w ≡ false → part_in others kind w c ≡ false
  unfolding part_reaches part_in in_product
  part_missed kind w h =
      let y = mask_in ends kind 1 (w / 16 % 16) in
      let z = mask_in ends kind 2 (w / 256 % 16) in
      rw (mask_same kind 1 (w / 16 % 16) (omega arith) (omega arith) (omega arith), mask_same kind 2 (w / 256 % 16) (omega arith) (omega arith) (omega arith))
      (test (eqb (bit_and y by) 0)
      (λ e. rw (no_bit y by c.y (eqb-true (bit_and y by) 0 e) iy) (none (bit (mask_in others kind 0 (w % 16)) c.x) (bit z c.z)))
      (λ e. test (eqb (bit_and z bz) 0)
      (λ q. rw (no_bit z bz c.z (eqb-true (bit_and z bz) 0 q) iz) (none_z (bit (mask_in others kind 0 (w % 16)) c.x) (bit y c.y)))
      (λ q. absurd (true≢false (rw (e, q) at h)))))
    where
      none : (a b : Bool) → (a && (false && b)) ≡ false
      none true b = refl
      none false b = refl

      none_z : (a b : Bool) → (a && (b && false)) ≡ false
      none_z true true = refl
      none_z true false = refl
      none_z false b = refl

  dead_missed : (w : ℕ) → dead_reaches by bz ends w ≡ false → dead_in others w c ≡ false
  unfolding dead_reaches dead_in
  dead_missed w h =
      let k = go (part_reaches by bz ends 9 w) (part_reaches by bz ends 10 w) (part_reaches by bz ends 11 w) h in
      rw (part_missed 9 w k.0, part_missed 10 w k.1, part_missed 11 w k.2)
    where
      go : (a b d : Bool) → (a || (b || d)) ≡ false → (a ≡ false) × (b ≡ false) × (d ≡ false)
      go true b d e = absurd (true≢false e)
      go false true d e = absurd (true≢false e)
      go false false true e = absurd (true≢false e)
      go false false false e = (refl, refl, refl)

  pub missed : (w : ℕ) → reaches by bz ends w ≡ false → loss_in others w c ≡ false
  unfolding reaches loss_in
  missed w h =
      test (ltb (loss_kind w) 9)
      (λ e. rw e (part_missed (loss_kind w) w (rw e at h)))
      (λ e. test (eqb (loss_kind w) 9)
      (λ q. rw (e, q) (dead_missed w (rw (e, q) at h)))
      (λ q. rw (e, q)))

  -- So the sifted losses stand for all.
  pub sifted_some : (losses old kept : List ℕ) (n m : ℕ) → Sifted by bz ends losses n old kept m → length old ≡ 256 → some_below m (λ i. loss_in others (get_or kept i 0) c) ≡ some_below n (λ i. loss_in others (get_or losses i 0) c)
  sifted_some losses old kept n m g l = g.same l (λ w. loss_in others w c) missed
