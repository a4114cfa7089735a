-- `best` finds the first of the candidates that pass, and what becomes of it when fewer pass.
use Prim.Native.Nat.{ℕ, ◌<◌, ◌≤◌}
use native.Mathlib.Omega.{arith}
use mathlib.Core.Path.{◌≡◌, refl, sym, ◌∙◌}
use mathlib.Core.Logic.{◌⊎◌, inl, inr, ⊎_elim}
use mathlib.Core.Bool.{Bool, true, false, false≢true, true≢false}
use mathlib.Core.List.Memᴰ
use mathlib.Core.List.{List, [], ◌∷◌, Memᴰ}
use mathlib.Core.Option.{Option, none, some}
use borrow.Author.Tests.{lt-ltb, le-ltb}
use Rattle.theory.specs.Choice.{Order, lex, earlier, best, First, Best, Fewer}
use Rattle.theory.proofs.Cases.{test, by_order}

module _ {C : Type 0} (before : C → C → Bool) (O : Order before) (ok : C → Bool) where
  -- c passes, is listed, and nothing that passes comes before it.
  record Least (cs : List C) (c : C) : Type 0 where
    listed : Memᴰ c cs
    passes : ok c ≡ true
    least : (e : C) → Memᴰ e cs → ok e ≡ true → before e c ≡ false

  abbrev Found : List C → Option C → Type 0
  Found cs none = (e : C) → Memᴰ e cs → ok e ≡ false
  Found cs (some c) = Least cs c

  both : {X : Type 0} (c : C) → ok c ≡ true → ok c ≡ false → X
  both c t f = absurd (true≢false (sym t ∙ f))

  irrefl : (c : C) → before c c ≡ false
  irrefl c = test (before c c) (O.asym c c) (λ f. f)

  found_skip : (c : C) (cs : List C) (o : Option C) → ok c ≡ false → Found cs o → Found (c ∷ cs) o
  found_skip c cs none h f = λ e m. ⊎_elim (λ q. rw q h) (f e) (Memᴰ.cases_cons m)
  found_skip c cs (some b) h f = record {
    listed = Memᴰ.tail f.listed;
    passes = f.passes;
    least = λ e m k. ⊎_elim (λ q. both e k (rw q h)) (λ m. f.least e m k) (Memᴰ.cases_cons m);
  }

  found_take : (c : C) (cs : List C) (o : Option C) → ok c ≡ true → Found cs o → Found (c ∷ cs) (earlier before ok c o)
  unfolding earlier
  found_take c cs none h f = record {
    listed = Memᴰ.head refl;
    passes = h;
    least = λ e m k. ⊎_elim (λ q. rw q (irrefl c)) (λ m. both e k (f e m)) (Memᴰ.cases_cons m);
  }
  found_take c cs (some b) h f =
      test (before b c)
      (λ t. rw t (record {
        listed = Memᴰ.tail f.listed;
        passes = f.passes;
        least = λ e m k. ⊎_elim (λ q. rw q (O.asym b c t)) (λ m. f.least e m k) (Memᴰ.cases_cons m);
      }))
      (λ t. rw t (record {
        listed = Memᴰ.head refl;
        passes = h;
        least = λ e m k. ⊎_elim (λ q. rw q (irrefl c)) (λ m. O.trans c b e t (f.least e m k)) (Memᴰ.cases_cons m);
      }))

  found : (cs : List C) → Found cs (best before ok cs)
  unfolding best
  found [] = λ e m. absurd (Memᴰ.not-nil m)
  found (c ∷ cs) =
      test (ok c)
      (λ h. rw h (found_take c cs (best before ok cs) h (found cs)))
      (λ h. rw h (found_skip c cs (best before ok cs) h (found cs)))

  least_first : (cs : List C) (c : C) → Least cs c → First before ok cs c
  least_first cs c f = record {
    listed = f.listed;
    passes = f.passes;
    least = λ e m k ne. test (before c e) (λ t. t) (λ t. absurd (ne (O.apart e c (f.least e m k) t)));
  }

  none_some : {X : Type 0} (c : C) → none ≡ some c → X
  none_some c e = let z : ◌≡◌ {A = ℕ} 0 1 = cc in absurd (omega arith)

  found_best : (cs : List C) (o : Option C) → Found cs o → Best before ok cs o
  found_best cs none f = record { refused = (λ _. f, λ _. refl); chosen = λ c e. none_some c e }
  found_best cs (some b) f = record {
    refused = (λ e. none_some b (sym e), λ h. both b f.passes (h b f.listed));
    chosen = λ c e. let q : b ≡ c = cc in rw q at (least_first cs b f);
  }

  -- None exactly if no candidate passes; else the first of those that do.
  pub best_is : (cs : List C) → Best before ok cs (best before ok cs)
  best_is cs = found_best cs (best before ok cs) (found cs)

  first_least : (cs : List C) (c : C) → First before ok cs c → Least cs c
  first_least cs c f = record {
    listed = f.listed;
    passes = f.passes;
    least = λ e m k. test (before e c)
        (λ t.
        let other : e ≡ c → ⊥ = λ q. true≢false (sym t ∙ rw q (irrefl c)) in
        O.asym c e (f.least e m k other))
        (λ t. t);
  }

  -- What `best` answers, from what is found to hold.
  pub best_none : (cs : List C) → ((e : C) → Memᴰ e cs → ok e ≡ false) → best before ok cs ≡ none
  best_none cs h = (best_is cs).refused.1 h

  pub best_first : (cs : List C) (c : C) → First before ok cs c → best before ok cs ≡ some c
  best_first cs c f = at (best before ok cs) (found cs)
    where
      at : (o : Option C) → Found cs o → o ≡ some c
      at none n = both c f.passes (n c f.listed)
      at (some b) g =
          let h = first_least cs c f in
          let q : b ≡ c = O.apart b c (h.least b g.listed g.passes) (g.least c f.listed f.passes) in
          cc

  pub before_trans : (a b c : C) → before a b ≡ true → before b c ≡ true → before a c ≡ true
  before_trans a b c h k = test (before a c) (λ t. t) (λ f.
      let e : a ≡ c = O.apart a c f (O.trans a b c (O.asym a b h) (O.asym b c k)) in
      let back : before b a ≡ true = rw e k in
      absurd (true≢false (sym back ∙ O.asym a b h)))

  -- What passes is not before the first; and the first is before all that something that passes is before.
  pub first_not_later : (cs : List C) (c e : C) → First before ok cs c → Memᴰ e cs → ok e ≡ true → before e c ≡ false
  first_not_later cs c e f m k = (first_least cs c f).least e m k

  pub first_before : (cs : List C) (c e g : C) → First before ok cs c → Memᴰ e cs → ok e ≡ true → before e g ≡ true → before c g ≡ true
  first_before cs c e g f m k h = test (before c e)
      (λ t. before_trans c e g t h)
      (λ t. let q : c ≡ e = O.apart c e t (first_not_later cs c e f m k) in rw q h)

module _ {C : Type 0} (before : C → C → Bool) (O : Order before) (ok₁ ok₂ : C → Bool) (fewer : (c : C) → ok₂ c ≡ true → ok₁ c ≡ true) where
  pub fewer_is : (cs : List C) → Fewer before ok₁ ok₂ cs
  fewer_is cs = record {
    refused = λ n. best_none before O ok₂ cs (λ e m. test (ok₂ e) (λ t. both before O ok₁ e (fewer e t) ((best_is before O ok₁ cs).refused.0 n e m)) (λ t. t));
    not_earlier = λ c e f g. let b = (best_is before O ok₂ cs).chosen e g in
        (first_least before O ok₁ cs c ((best_is before O ok₁ cs).chosen c f)).least e b.listed (fewer e b.passes);
    kept = λ c f k. let b = (best_is before O ok₁ cs).chosen c f in
        best_first before O ok₂ cs c (record { listed = b.listed; passes = k; least = λ e m t. b.least e m (fewer e t) });
  }

-- The order by a key, compared place by place.
pub lex_less : (x y : ℕ) (xs ys : List ℕ) → x < y → lex (x ∷ xs) (y ∷ ys) ≡ true
unfolding lex
lex_less x y xs ys h = rw (lt-ltb x y h)

pub lex_more : (x y : ℕ) (xs ys : List ℕ) → y < x → lex (x ∷ xs) (y ∷ ys) ≡ false
unfolding lex
lex_more x y xs ys h = rw (le-ltb x y (omega arith), lt-ltb y x h)

pub lex_same : (x y : ℕ) (xs ys : List ℕ) → x ≡ y → lex (x ∷ xs) (y ∷ ys) ≡ lex xs ys
unfolding lex
lex_same x y xs ys h = rw (le-ltb x y (omega arith), le-ltb y x (omega arith))

-- What decides at the first place, and where a comparison says what another does.
pub lex_least : (x y : ℕ) (xs ys : List ℕ) → x ≤ y → (x ≡ y → lex xs ys ≡ true) → lex (x ∷ xs) (y ∷ ys) ≡ true
lex_least x y xs ys le rest = by_order x y (lex_less x y xs ys) (λ e. lex_same x y xs ys e ∙ rest e) (λ g. absurd (omega arith))

pub lex_step :
    (x y x' y' : ℕ) (xs ys xs' ys' : List ℕ) →
    (x < y → x' < y') →
    (x ≡ y → x' ≡ y') →
    (x ≡ y → lex xs ys ≡ true → lex xs' ys' ≡ true) →
    lex (x ∷ xs) (y ∷ ys) ≡ true →
    lex (x' ∷ xs') (y' ∷ ys') ≡ true
lex_step x y x' y' xs ys xs' ys' less same rest h =
    by_order x y
    (λ g. lex_less x' y' xs' ys' (less g))
    (λ e. lex_same x' y' xs' ys' (same e) ∙ rest e (sym (lex_same x y xs ys e) ∙ h))
    (λ g. absurd (true≢false (sym h ∙ lex_more x y xs ys g)))

pub lex_agree : (x y x' y' : ℕ) (xs ys us vs : List ℕ) → x ≡ x' → y ≡ y' → (x ≡ y → lex xs ys ≡ lex us vs) → lex (x ∷ xs) (y ∷ ys) ≡ lex (x' ∷ us) (y' ∷ vs)
lex_agree x y x' y' xs ys us vs e f rest =
    by_order x y
    (λ g. lex_less x y xs ys g ∙ sym (lex_less x' y' us vs (omega arith)))
    (λ q. lex_same x y xs ys q ∙ (rest q ∙ sym (lex_same x' y' us vs (omega arith))))
    (λ g. lex_more x y xs ys g ∙ sym (lex_more x' y' us vs (omega arith)))

-- What a comparison's answer tells.
lex_true : (x y : ℕ) (xs ys : List ℕ) → lex (x ∷ xs) (y ∷ ys) ≡ true → (x < y) ⊎ ((x ≡ y) × (lex xs ys ≡ true))
lex_true x y xs ys h =
    by_order x y inl
    (λ e. inr (e, sym (lex_same x y xs ys e) ∙ h))
    (λ g. absurd (true≢false (sym h ∙ lex_more x y xs ys g)))

lex_false : (x y : ℕ) (xs ys : List ℕ) → lex (x ∷ xs) (y ∷ ys) ≡ false → (y < x) ⊎ ((x ≡ y) × (lex xs ys ≡ false))
lex_false x y xs ys h =
    by_order x y
    (λ g. absurd (true≢false (sym (lex_less x y xs ys g) ∙ h)))
    (λ e. inr (e, sym (lex_same x y xs ys e) ∙ h))
    inl

lex_asym : (xs ys : List ℕ) → lex xs ys ≡ true → lex ys xs ≡ false
unfolding lex
lex_asym [] [] h = refl
lex_asym [] (y ∷ ys) h = refl
lex_asym (x ∷ xs) [] h = absurd (false≢true h)
lex_asym (x ∷ xs) (y ∷ ys) h =
    ⊎_elim (λ g. lex_more y x ys xs g) (λ e. lex_same y x ys xs (sym e.0) ∙ lex_asym xs ys e.1) (lex_true x y xs ys h)

lex_apart : (xs ys : List ℕ) → lex xs ys ≡ false → lex ys xs ≡ false → xs ≡ ys
unfolding lex
lex_apart [] [] h k = refl
lex_apart [] (y ∷ ys) h k = absurd (true≢false h)
lex_apart (x ∷ xs) [] h k = absurd (true≢false k)
lex_apart (x ∷ xs) (y ∷ ys) h k =
    ⊎_elim
    (λ g. ⊎_elim (λ g'. absurd (omega arith)) (λ e. absurd (omega arith)) (lex_false y x ys xs k))
    (λ e. let f : lex ys xs ≡ false = sym (lex_same y x ys xs (sym e.0)) ∙ k in
    cc (e.0, lex_apart xs ys e.1 f))
    (lex_false x y xs ys h)

lex_trans : (xs ys zs : List ℕ) → lex ys xs ≡ false → lex zs ys ≡ false → lex zs xs ≡ false
unfolding lex
lex_trans [] ys [] h k = refl
lex_trans [] ys (z ∷ zs) h k = refl
lex_trans (x ∷ xs) [] zs h k = absurd (true≢false h)
lex_trans (x ∷ xs) (y ∷ ys) [] h k = absurd (true≢false k)
lex_trans (x ∷ xs) (y ∷ ys) (z ∷ zs) h k =
    ⊎_elim
    (λ g. ⊎_elim (λ g'. lex_more z x zs xs (omega arith)) (λ e. lex_more z x zs xs (omega arith)) (lex_false z y zs ys k))
    (λ e. ⊎_elim
    (λ g. lex_more z x zs xs (omega arith))
    (λ f. lex_same z x zs xs (f.0 ∙ e.0) ∙ lex_trans xs ys zs e.1 f.1)
    (lex_false z y zs ys k))
    (lex_false y x ys xs h)

pub key_order : {C : Type 0} (key : C → List ℕ) → ((a b : C) → key a ≡ key b → a ≡ b) → Order (λ a b. lex (key a) (key b))
key_order key inj = record {
  asym = λ a b. lex_asym (key a) (key b);
  trans = λ a b c. lex_trans (key a) (key b) (key c);
  apart = λ a b h k. inj a b (lex_apart (key a) (key b) h k);
}
