-- The choices listed are those that are admitted.
use Prim.Native.Nat.{ℕ, zero, suc, ◌<◌, ◌≤◌}
use native.Mathlib.Omega.{arith}
use mathlib.Core.Path.{◌≡◌, refl, sym, ◌∙◌}
use mathlib.Core.Logic.{◌⊎◌, ⊎_elim}
use mathlib.Core.Bool.{true, not, true≢false}
use mathlib.Core.List.Memᴰ
use mathlib.Core.List.{List, [], ◌∷◌, Memᴰ}
use lib.ListN.{length}
use lib.Dec.{eqb}
use borrow.Author.Tests.{eqb-true, eqb-false, eq-eqb, ne_eqb}
use Rattle.theory.specs.Machine.{end_by}
use Rattle.theory.proofs.Bools.{and_true}
use Rattle.theory.proofs.Cases.{test, by_order}
use Rattle.machine.specs.declared.leg.Leg.{Leg}
use Rattle.machine.specs.declared.leg.Mode.{Mode}
use Rattle.machine.specs.declared.leg.Mode.TheVariants.{Adaptive, Deterministic}
use Rattle.machine.specs.Torus.{leg}
use Rattle.choice.specs.Choice.{Choice, targets_of, vias_of, end_from, Below, Misses, Different, Admits, over, after, direct, legs_by, misses, different, kept, choices_by}

-- What is listed over the numbers below n.
pub over_has : {C : Type 0} (n : ℕ) (f : ℕ → List C) (v : ℕ) (c : C) → v < n → Memᴰ c (f v) → Memᴰ c (over n f)
unfolding over
over_has zero f v c lt m = absurd (omega arith)
over_has (suc n) f v c lt m =
    by_order v n
    (λ g. Memᴰ.append_right (f n) (over_has n f v c g m))
    (λ e. Memᴰ.append_left {s = f n} (over n f) (rw (← e) m))
    (λ g. absurd (omega arith))

pub has_over : {C : Type 0} (n : ℕ) (f : ℕ → List C) (c : C) → Memᴰ c (over n f) → (v : ℕ) × (v < n) × Memᴰ c (f v)
unfolding over
has_over zero f c m = absurd (Memᴰ.not-nil m)
has_over (suc n) f c m =
    ⊎_elim
    (λ m. (n, omega arith, m))
    (λ m. let h = has_over n f c m in (h.0, omega (arith, h.1), h.2))
    (Memᴰ.append_cases (f n) m)

-- A leg to v before each of the lists.
after_has : (v : ℕ) (m : Mode) (c : Choice) (cs : List Choice) → Memᴰ c cs → Memᴰ (leg v m ∷ c) (after v cs)
unfolding after
after_has v m c [] h = absurd (Memᴰ.not-nil h)
after_has v m c (d ∷ cs) h =
    ⊎_elim (λ e. rw e (here m)) (λ h. Memᴰ.tail (Memᴰ.tail (after_has v m c cs h))) (Memᴰ.cases_cons h)
  where
    here : (m : Mode) → Memᴰ (leg v m ∷ d) ((leg v Adaptive ∷ d) ∷ (leg v Deterministic ∷ d) ∷ after v cs)
    here Adaptive = Memᴰ.head refl
    here Deterministic = Memᴰ.tail (Memᴰ.head refl)

record After (v : ℕ) (cs : List Choice) (c : Choice) : Type 0 where
  mode : Mode
  rest : Choice
  same : c ≡ leg v mode ∷ rest
  listed : Memᴰ rest cs

has_after : (v : ℕ) (c : Choice) (cs : List Choice) → Memᴰ c (after v cs) → After v cs c
unfolding after
has_after v c [] h = absurd (Memᴰ.not-nil h)
has_after v c (d ∷ cs) h =
    ⊎_elim
    (λ e. record { mode = Adaptive; rest = d; same = e; listed = Memᴰ.head refl })
    (λ h. ⊎_elim
    (λ e. record { mode = Deterministic; rest = d; same = e; listed = Memᴰ.head refl })
    (λ h. let a = has_after v c cs h in record { mode = a.mode; rest = a.rest; same = a.same; listed = Memᴰ.tail a.listed })
    (Memᴰ.cases_cons h))
    (Memᴰ.cases_cons h)

direct_has : (t : ℕ) (m : Mode) → Memᴰ (leg t m ∷ []) (direct t)
unfolding direct
direct_has t Adaptive = Memᴰ.head refl
direct_has t Deterministic = Memᴰ.tail (Memᴰ.head refl)

-- Lists of legs to D by at most k nodes.
record Led (k n D : ℕ) (c : Choice) : Type 0 where
  ends : (p : ℕ) → end_from p c ≡ D
  few : length (vias_of c) ≤ k
  inside : Below n (vias_of c)

led_direct : (k n D : ℕ) (c : Choice) → Memᴰ c (direct D) → Led k n D c
unfolding direct end_by vias_of
led_direct k n D c h =
    ⊎_elim
    (λ e. rw e (record { ends = λ p. refl; few = omega arith; inside = tt }))
    (λ h. ⊎_elim
    (λ e. rw e (record { ends = λ p. refl; few = omega arith; inside = tt }))
    (λ h. absurd (Memᴰ.not-nil h))
    (Memᴰ.cases_cons h))
    (Memᴰ.cases_cons h)

led_on : (k n D v : ℕ) (m : Mode) (c : Choice) → v < n → Led k n D c → Led (suc k) n D (leg v m ∷ c)
unfolding end_by vias_of
led_on k n D v m [] lt h = let z : ◌≡◌ {A = ℕ} 0 1 = h.ends 0 ∙ sym (h.ends 1) in absurd (omega arith)
led_on k n D v m (l ∷ ls) lt h = record { ends = λ p. h.ends v; few = let f = h.few in omega arith; inside = (lt, h.inside) }

has_legs : (k n D : ℕ) (c : Choice) → Memᴰ c (legs_by k n D) → Led k n D c
unfolding legs_by
has_legs zero n D c h = led_direct zero n D c h
has_legs (suc k) n D c h =
    ⊎_elim
    (led_direct (suc k) n D c)
    (λ h.
    let o = has_over n (λ v. after v (legs_by k n D)) c h in
    let a = has_after o.0 c (legs_by k n D) o.2 in
    rw a.same (led_on k n D o.0 a.mode a.rest o.1 (has_legs k n D a.rest a.listed)))
    (Memᴰ.append_cases (direct D) h)

legs_have : (k n D p : ℕ) (l : Leg) (ls : Choice) → end_from p (l ∷ ls) ≡ D → length (vias_of (l ∷ ls)) ≤ k → Below n (vias_of (l ∷ ls)) → Memᴰ (l ∷ ls) (legs_by k n D)
unfolding legs_by end_by vias_of
legs_have zero n D p l [] e few inside = rw (← e) (direct_has l.target l.mode)
legs_have (suc k) n D p l [] e few inside = rw (← e) (Memᴰ.append_left (over n (λ v. after v (legs_by k n l.target))) (direct_has l.target l.mode))
legs_have zero n D p l (x ∷ xs) e few inside = absurd (omega arith)
legs_have (suc k) n D p l (x ∷ xs) e few inside =
    Memᴰ.append_right (direct D)
    (over_has n (λ v. after v (legs_by k n D)) l.target (l ∷ x ∷ xs) inside.0
    (after_has l.target l.mode (x ∷ xs) (legs_by k n D) (legs_have k n D l.target x xs e (omega arith) inside.1)))

-- The test of being different.
misses_is : (v : ℕ) (xs : List ℕ) → misses v xs ≡ true → Misses v xs
unfolding misses
misses_is v [] h = tt
misses_is v (x ∷ xs) h = let b = and_true (not (eqb v x)) (misses v xs) h in ((λ e. true≢false (sym b.0 ∙ rw (eq-eqb v x e))), misses_is v xs b.1)

is_misses : (v : ℕ) (xs : List ℕ) → Misses v xs → misses v xs ≡ true
unfolding misses
is_misses v [] h = refl
is_misses v (x ∷ xs) h = rw (ne_eqb v x h.0, is_misses v xs h.1)

different_is : (xs : List ℕ) → different xs ≡ true → Different xs
unfolding different
different_is [] h = tt
different_is (x ∷ xs) h = let b = and_true (misses x xs) (different xs) h in (misses_is x xs b.0, different_is xs b.1)

is_different : (xs : List ℕ) → Different xs → different xs ≡ true
unfolding different
is_different [] h = refl
is_different (x ∷ xs) h = rw (is_misses x xs h.0, is_different xs h.1)

kept_has : (S : ℕ) (c : Choice) (cs : List Choice) → Memᴰ c cs → different (S ∷ targets_of c) ≡ true → Memᴰ c (kept S cs)
unfolding kept
kept_has S c [] h d = absurd (Memᴰ.not-nil h)
kept_has S c (x ∷ cs) h d =
    ⊎_elim
    (λ e. rw (← e, d) (Memᴰ.head refl))
    (λ h. test (different (S ∷ targets_of x)) (λ t. rw t (Memᴰ.tail (kept_has S c cs h d))) (λ t. rw t (kept_has S c cs h d)))
    (Memᴰ.cases_cons h)

has_kept : (S : ℕ) (c : Choice) (cs : List Choice) → Memᴰ c (kept S cs) → Memᴰ c cs × (different (S ∷ targets_of c) ≡ true)
unfolding kept
has_kept S c [] h = absurd (Memᴰ.not-nil h)
has_kept S c (x ∷ cs) h =
    test (different (S ∷ targets_of x))
    (λ t. ⊎_elim
    (λ e. rw e (Memᴰ.head refl, t))
    (λ h. let r = has_kept S c cs h in (Memᴰ.tail r.0, r.1))
    (Memᴰ.cases_cons (rw t at h)))
    (λ t. let r = has_kept S c cs (rw t at h) in (Memᴰ.tail r.0, r.1))

module _ (k n S D : ℕ) where
  pub admits_lists : (c : Choice) → Admits k n S D c → Memᴰ c (choices_by k n S D)
  unfolding choices_by end_by
  admits_lists c a = test (eqb S D)
      (λ t. rw (t, a.self (eqb-true S D t)) (Memᴰ.head refl))
      (λ t. rw t (kept_has S c (legs_by k n D) (some c (eqb-false S D t) a.ends a.few a.inside) (is_different (S ∷ targets_of c) (a.apart (eqb-false S D t)))))
    where
      some : (c : Choice) → (S ≡ D → ⊥) → end_from S c ≡ D → length (vias_of c) ≤ k → Below n (vias_of c) → Memᴰ c (legs_by k n D)
      some [] ne e few inside = absurd (ne e)
      some (l ∷ ls) ne e few inside = legs_have k n D S l ls e few inside

  pub direct_admits : Admits k n S D (leg D Adaptive ∷ [])
  unfolding end_by vias_of targets_of
  direct_admits = record { ends = refl; few = omega arith; inside = tt; apart = λ ne. ((ne, tt), (tt, tt)); self = λ _. refl }

  pub lists_admits : (c : Choice) → Memᴰ c (choices_by k n S D) → Admits k n S D c
  unfolding choices_by
  lists_admits c h = test (eqb S D)
      (λ t. ⊎_elim (λ e. rw e direct_admits) (λ h. absurd (Memᴰ.not-nil h)) (Memᴰ.cases_cons (rw t at h)))
      (λ t.
      let r = has_kept S c (legs_by k n D) (rw t at h) in
      let l = has_legs k n D c r.0 in
      record { ends = l.ends S; few = l.few; inside = l.inside; apart = λ ne. different_is (S ∷ targets_of c) r.1; self = λ e. absurd (eqb-false S D t e) })
