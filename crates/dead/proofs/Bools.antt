-- Laws of connectives.
use mathlib.Core.Path.{◌≡◌, refl, sym}
use mathlib.Core.Bool.{Bool, true, false, ◌&&◌, ◌||◌}
use mathlib.Core.Logic.{◌⊎◌, inl, inr}

pub or_on : (a : Bool) → (a || true) ≡ true
or_on true = refl
or_on false = refl

pub or_off : (a : Bool) → (a || false) ≡ a
or_off true = refl
or_off false = refl

pub or_join : (a b c : Bool) → ((a || b) || c) ≡ (a || (b || c))
or_join true b c = refl
or_join false b c = refl

pub or_swap : (l a b : Bool) → ((l && b) || (l && a)) ≡ (l && (a || b))
or_swap false a b = refl
or_swap true a true = sym (or_on a)
or_swap true a false = sym (or_off a)

pub either_of : (a b : Bool) → (a || b) ≡ true → (a ≡ true) ⊎ (b ≡ true)
either_of true b e = inl refl
either_of false b e = inr e

pub left_true : (a b : Bool) → a ≡ true → (a || b) ≡ true
left_true a b e = rw e

pub right_true : (a b : Bool) → b ≡ true → (a || b) ≡ true
right_true a b e = rw e (or_on a)

pub both_true : (a b : Bool) → a ≡ true → b ≡ true → (a && b) ≡ true
both_true a b e f = rw (e, f)
