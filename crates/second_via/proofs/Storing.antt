-- Arrays stored place by place.
use Prim.Native.Nat.{ℕ, ◌+◌, ◌≤◌, ◌<◌}
use native.Mathlib.Omega.{arith}
use native.Mathlib.Decide.{ℕ_discrete}
use mathlib.Core.Path.{◌≡◌, refl, ◌∙◌}
use mathlib.Core.Logic.{◌⊎◌, inl, inr, ⊎_elim}
use mathlib.Core.Bool.{Bool}
use mathlib.Core.List.{List}
use lib.ListN.{length, get_or, set, length-set}
use lib.Seq.{get_or-set_same, get_or-set_other}
use Rattle.rows.specs.Bits.{bit}
use Rattle.rows.specs.NextSet.{NextSet}
use Rattle.second_via.specs.Nodes.{Some, All, sum_of, Cell, Stored, SumAt}
use Rattle.second_via.proofs.Going.{Joins, some_all, all_some, Going, going, none_yet, next_on}

module _ {P : Cell → Type 0} where
  pub stored_none : (old : List ℕ) → ((c : Cell) → P c → ⊥) → Stored old old P
  stored_none old h = record { long = refl; each = λ v n l p. absurd (h _ p); other = λ v l. inl refl }

module _ {P R : Cell → Type 0} where
  stored_same : (old new : List ℕ) → Stored old new P → ((c : Cell) → P c → R c) → ((c : Cell) → R c → P c) → Stored old new R
  stored_same old new a there back = record {
    long = a.long;
    each = λ v n l p. there _ (a.each v n l (back _ p));
    other = λ v l. ⊎_elim inl (λ p. inr (there _ p)) (a.other v l);
  }

module _ {P Q R : Cell → Type 0} where
  stored_both : (old mid new : List ℕ) → Stored old mid P → Stored mid new Q → Joins P Q R → Stored old new R
  stored_both old mid new a b j = record {
    long = b.long ∙ a.long;
    each = λ v n l r. ⊎_elim (λ p. kept_or v l (a.each v n l p)) (λ q. j.right _ (b.each v n (at_mid v l) q)) (j.split _ r);
    other = λ v l. ⊎_elim
        (λ e. ⊎_elim (λ f. inl (e ∙ f)) (λ p. inr (kept_or v l p)) (a.other v l))
        (λ q. inr (j.right _ q))
        (b.other v (at_mid v l));
  }
    where
      at_mid : (v : ℕ) → v < length old → v < length mid
      at_mid v l = omega (arith, a.long)

      kept_or : (v : ℕ) → v < length old → P (record { node = v; value = get_or mid v 0 }) → R (record { node = v; value = get_or new v 0 })
      kept_or v l p = ⊎_elim (λ e. j.left _ (rw e p)) (λ q. j.right _ q) (b.other v (at_mid v l))

-- One sum.
pub stored_one : (old notes : List ℕ) (len node value : ℕ) (adaptive : Bool) → value ≡ sum_of (get_or notes node 0) len adaptive → Stored old (set old node value) (SumAt notes len node adaptive)
stored_one old notes len node value adaptive e = record {
  long = length-set old node value;
  each = λ v n l p. here v l p.at;
  other = λ v l. go v l (ℕ_discrete v node);
}
  where
    here : (v : ℕ) → v < length old → v ≡ node → SumAt notes len node adaptive (record { node = v; value = get_or (set old node value) v 0 })
    here v l q = record { at = q; sum = rw q (get_or-set_same old node value 0 (omega arith) ∙ e) }

    go : (v : ℕ) → v < length old → Dec (v ≡ node) → (get_or (set old node value) v 0 ≡ get_or old v 0) ⊎ SumAt notes len node adaptive (record { node = v; value = get_or (set old node value) v 0 })
    go v l (yes q) = inr (here v l q)
    go v l (no q) = inl (get_or-set_other old node v value 0 q)

-- ---- the places of a mask
module _ (len mask : ℕ) (at : ℕ → Cell → Type 0) (old : List ℕ) where
  pub record Storing (i : ℕ) (new : List ℕ) : Type 0 where
    pub going : Going mask i
    pub stored : Stored old new (Some len (bit mask) at i)

  pub store_begin : (i : ℕ) → NextSet mask 0 i → Storing i old
  store_begin i n = record { going = going mask 0 i n; stored = stored_none old (none_yet len mask at i n) }

  pub store_on : (i w : ℕ) (new more : List ℕ) → len ≤ 16 → i < len → Storing i new → Stored new more (at i) → NextSet mask (i + 1) w → Storing w more
  store_on i w new more h l p q n = record { going = going mask (i + 1) w n; stored = stored_both old new more p.stored q (next_on len mask at i w h l p.going n) }

  -- A turn of a loop over them.
  pub store_turn : (now x next : ℕ) (new more : List ℕ) → len ≤ 16 → Storing now new → (x ≡ now) × (x < len) × NextSet mask (x + 1) next → Stored new more (at x) → Storing next more
  store_turn now x next new more h p t q = store_on x next new more h t.1 (rw (← t.0) at p) q t.2

  pub store_end : (i : ℕ) (new : List ℕ) → len ≤ i → Storing i new → Stored old new (All len (bit mask) at)
  store_end i new l p = stored_same old new p.stored (some_all len mask at i) (all_some len mask at i l)
