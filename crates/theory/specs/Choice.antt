-- The first in an order of the candidates that pass a test.
use Rattle.std.specs.Prelude.{ℕ, ◌≡◌, ◌↔◌, Bool, true, false, cond, ltb}
use mathlib.Core.List.{List, [], ◌∷◌, Memᴰ}
use Rattle.std.proofs.Math.Option.{Option, none, some}

-- `before a b`: a comes before b. Of two different candidates one comes before the other.
pub record Order {C : Type 0} (before : C → C → Bool) : Type 0 where
  pub asym : (a b : C) → before a b ≡ true → before b a ≡ false
  pub trans : (a b c : C) → before b a ≡ false → before c b ≡ false → before c a ≡ false
  pub apart : (a b : C) → before a b ≡ false → before b a ≡ false → a ≡ b

-- Lists of numbers compared at the first place where they differ.
unfoldable pub lex : List ℕ → List ℕ → Bool
lex [] [] = false
lex [] (y ∷ ys) = true
lex (x ∷ xs) [] = false
lex (x ∷ xs) (y ∷ ys) = cond (ltb x y) true (cond (ltb y x) false (lex xs ys))

module _ {C : Type 0} (before : C → C → Bool) (ok : C → Bool) where
  unfoldable pub earlier : C → Option C → Option C
  earlier c none = some c
  earlier c (some e) = cond (before e c) (some e) (some c)

  unfoldable pub best : List C → Option C
  best [] = none
  best (c ∷ cs) = cond (ok c) (earlier c (best cs)) (best cs)

-- The candidate c of cs passes the test, and every other one that does comes after it.
pub record First {C : Type 0} (before : C → C → Bool) (ok : C → Bool) (cs : List C) (c : C) : Type 0 where
  pub listed : Memᴰ c cs
  pub passes : ok c ≡ true
  pub least : (e : C) → Memᴰ e cs → ok e ≡ true → (e ≡ c → ⊥) → before c e ≡ true

pub record Best {C : Type 0} (before : C → C → Bool) (ok : C → Bool) (cs : List C) (o : Option C) : Type 0 where
  pub refused : (o ≡ none) ↔ ((e : C) → Memᴰ e cs → ok e ≡ false)
  pub chosen : (c : C) → o ≡ some c → First before ok cs c

-- Where all that passes the second test passes the first: a refusal stays, the choice never moves earlier in the order, and it is kept if it still passes.
pub record Fewer {C : Type 0} (before : C → C → Bool) (ok₁ ok₂ : C → Bool) (cs : List C) : Type 0 where
  pub refused : best before ok₁ cs ≡ none → best before ok₂ cs ≡ none
  pub not_earlier : (c e : C) → best before ok₁ cs ≡ some c → best before ok₂ cs ≡ some e → before e c ≡ false
  pub kept : (c : C) → best before ok₁ cs ≡ some c → ok₂ c ≡ true → best before ok₂ cs ≡ some c
