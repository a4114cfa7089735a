-- Of choices to one destination the order is the one in the documents' own words.
use Prim.Native.Nat.{ℕ, ◌+◌, ◌≤◌}
use native.Mathlib.Omega.{arith}
use mathlib.Core.Path.{◌≡◌, refl, sym, ◌∙◌}
use mathlib.Core.List.{List, [], ◌∷◌, ◌++◌}
use lib.ListN.{length}
use Rattle.theory.specs.Machine.{end_by}
use Rattle.theory.specs.Choice.{lex}
use Rattle.theory.proofs.Choice.{lex_same, lex_agree}
use Rattle.choice.specs.Choice.{Choice, most_vias, targets_of, vias_of, det, modes_of, dets_of, end_from, length_from, key_of, before, Admits}
use Rattle.choice.specs.InWords.{first_via, second_via, first_det, two_vias_key, one_via_key}

-- The destination t does not decide, nor does a 0 in the place of a via.
no_legs_left : (x y : ℕ) (xs ys : List ℕ) → lex (x ∷ xs) [] ≡ lex (0 ∷ 0 ∷ y ∷ ys) (0 ∷ 0 ∷ [])
unfolding lex
no_legs_left x y xs ys = refl

no_legs_right : (x y : ℕ) (xs ys : List ℕ) → lex [] (x ∷ xs) ≡ lex (0 ∷ 0 ∷ []) (0 ∷ 0 ∷ y ∷ ys)
unfolding lex
no_legs_right x y xs ys = refl

no_legs_both : lex [] [] ≡ lex (0 ∷ 0 ∷ []) (0 ∷ 0 ∷ [])
unfolding lex
no_legs_both = refl

by_none : (t t' : ℕ) (ms ns : List ℕ) → t ≡ t' → lex (t ∷ ms) (t' ∷ ns) ≡ lex (0 ∷ 0 ∷ ms) (0 ∷ 0 ∷ ns)
by_none t t' ms ns e = lex_same t t' ms ns e ∙ sym (lex_same 0 0 (0 ∷ ms) (0 ∷ ns) refl ∙ lex_same 0 0 ms ns refl)

by_one : (v u t t' : ℕ) (ms ns : List ℕ) → t ≡ t' → lex (v ∷ t ∷ ms) (u ∷ t' ∷ ns) ≡ lex (v ∷ 0 ∷ ms) (u ∷ 0 ∷ ns)
by_one v u t t' ms ns e = lex_agree v u v u _ _ _ _ refl refl (λ _. lex_same t t' ms ns e ∙ sym (lex_same 0 0 ms ns refl))

by_two : (v w u x t t' : ℕ) (ms ns : List ℕ) → t ≡ t' → lex (v ∷ w ∷ t ∷ ms) (u ∷ x ∷ t' ∷ ns) ≡ lex (v ∷ w ∷ ms) (u ∷ x ∷ ns)
by_two v w u x t t' ms ns e = lex_agree v u v u _ _ _ _ refl refl (λ _. lex_agree w x w x _ _ _ _ refl refl (λ _. lex_same t t' ms ns e))

-- Where as many legs are deterministic, the second leg's mode follows from the first one's.
first_mode : (v u a b c d : ℕ) → a + (b + 0) ≡ c + (d + 0) → lex (v ∷ 0 ∷ a ∷ b ∷ []) (u ∷ 0 ∷ c ∷ d ∷ []) ≡ lex (v ∷ a ∷ []) (u ∷ c ∷ [])
first_mode v u a b c d sum = lex_agree v u v u _ _ _ _ refl refl (λ _. lex_same 0 0 _ _ refl ∙ lex_agree a c a c _ _ _ _ refl refl (λ q. lex_same b d _ _ (omega arith)))

only_mode : (a c : ℕ) → lex (0 ∷ 0 ∷ a ∷ []) (0 ∷ 0 ∷ c ∷ []) ≡ lex (0 ∷ a ∷ []) (0 ∷ c ∷ [])
only_mode a c = lex_same 0 0 _ _ refl

module _ (far : ℕ → ℕ → ℕ) (S : ℕ) where
  -- Where the vias are as many, the targets compare as the vias do.
  rest :
      (a b : Choice) → end_from S a ≡ end_from S b → length (vias_of a) ≤ 2 → length (vias_of b) ≤ 2 → length (vias_of a) ≡ length (vias_of b) →
      lex (targets_of a ++ modes_of a) (targets_of b ++ modes_of b) ≡ lex (first_via (vias_of a) ∷ second_via (vias_of a) ∷ modes_of a) (first_via (vias_of b) ∷ second_via (vias_of b) ∷ modes_of b)
  unfolding end_by targets_of vias_of modes_of first_via second_via
  rest [] [] e fa fb v = no_legs_both
  rest [] (k ∷ []) e fa fb v = no_legs_right k.target (det k.mode) (det k.mode ∷ []) []
  rest [] (k ∷ o ∷ os) e fa fb v = absurd (omega arith)
  rest (l ∷ []) [] e fa fb v = no_legs_left l.target (det l.mode) (det l.mode ∷ []) []
  rest (l ∷ m ∷ ms) [] e fa fb v = absurd (omega arith)
  rest (l ∷ []) (k ∷ []) e fa fb v = by_none l.target k.target _ _ e
  rest (l ∷ []) (k ∷ o ∷ os) e fa fb v = absurd (omega arith)
  rest (l ∷ m ∷ ms) (k ∷ []) e fa fb v = absurd (omega arith)
  rest (l ∷ m ∷ []) (k ∷ o ∷ []) e fa fb v = by_one l.target k.target m.target o.target _ _ e
  rest (l ∷ m ∷ []) (k ∷ o ∷ p ∷ os) e fa fb v = absurd (omega arith)
  rest (l ∷ m ∷ n ∷ ms) (k ∷ o ∷ []) e fa fb v = absurd (omega arith)
  rest (l ∷ m ∷ n ∷ []) (k ∷ o ∷ p ∷ []) e fa fb v = by_two l.target m.target k.target o.target n.target p.target _ _ e
  rest (l ∷ m ∷ n ∷ []) (k ∷ o ∷ p ∷ q ∷ os) e fa fb v = absurd (omega arith)
  rest (l ∷ m ∷ n ∷ x ∷ ms) (k ∷ o ∷ p ∷ os) e fa fb v = absurd (omega arith)

  -- With at most two vias.
  pub same_order :
      (a b : Choice) → end_from S a ≡ end_from S b → length (vias_of a) ≤ most_vias → length (vias_of b) ≤ most_vias →
      before far S a b ≡ lex (two_vias_key far S a) (two_vias_key far S b)
  unfolding key_of two_vias_key
  same_order a b e fa fb =
      lex_agree (length_from far S a) (length_from far S b) (length_from far S a) (length_from far S b) _ _ _ _ refl refl
      (λ _. lex_agree (dets_of a) (dets_of b) (dets_of a) (dets_of b) _ _ _ _ refl refl
      (λ _. lex_agree (length (vias_of a)) (length (vias_of b)) (length (vias_of a)) (length (vias_of b)) _ _ _ _ refl refl
      (λ v. rest a b e fa fb v)))

  -- So of all choices of a pair.
  pub admitted_order : (n D : ℕ) (a b : Choice) → Admits most_vias n S D a → Admits most_vias n S D b → before far S a b ≡ lex (two_vias_key far S a) (two_vias_key far S b)
  admitted_order n D a b ha hb = same_order a b (ha.ends ∙ sym hb.ends) ha.few hb.few

  -- With at most one via, and at least one leg.
  modes_rest :
      (a b : Choice) → 1 ≤ length a → 1 ≤ length b → length (vias_of a) ≤ 1 → length (vias_of b) ≤ 1 → dets_of a ≡ dets_of b → length (vias_of a) ≡ length (vias_of b) →
      lex (first_via (vias_of a) ∷ second_via (vias_of a) ∷ modes_of a) (first_via (vias_of b) ∷ second_via (vias_of b) ∷ modes_of b)
      ≡ lex (first_via (vias_of a) ∷ first_det a ∷ []) (first_via (vias_of b) ∷ first_det b ∷ [])
  unfolding vias_of modes_of dets_of first_via second_via first_det
  modes_rest [] b na nb fa fb d v = absurd (omega arith)
  modes_rest (l ∷ ls) [] na nb fa fb d v = absurd (omega arith)
  modes_rest (l ∷ []) (k ∷ []) na nb fa fb d v = only_mode (det l.mode) (det k.mode)
  modes_rest (l ∷ []) (k ∷ o ∷ os) na nb fa fb d v = absurd (omega arith)
  modes_rest (l ∷ m ∷ ms) (k ∷ []) na nb fa fb d v = absurd (omega arith)
  modes_rest (l ∷ m ∷ []) (k ∷ o ∷ []) na nb fa fb d v = first_mode l.target k.target (det l.mode) (det m.mode) (det k.mode) (det o.mode) d
  modes_rest (l ∷ m ∷ []) (k ∷ o ∷ p ∷ os) na nb fa fb d v = absurd (omega arith)
  modes_rest (l ∷ m ∷ n ∷ ls) (k ∷ o ∷ os) na nb fa fb d v = absurd (omega arith)

  pub one_via_order :
      (a b : Choice) → end_from S a ≡ end_from S b → 1 ≤ length a → 1 ≤ length b → length (vias_of a) ≤ 1 → length (vias_of b) ≤ 1 →
      before far S a b ≡ lex (one_via_key far S a) (one_via_key far S b)
  unfolding key_of one_via_key
  one_via_order a b e na nb fa fb =
      lex_agree (length_from far S a) (length_from far S b) (length_from far S a) (length_from far S b) _ _ _ _ refl refl
      (λ _. lex_agree (dets_of a) (dets_of b) (dets_of a) (dets_of b) _ _ _ _ refl refl
      (λ d. lex_agree (length (vias_of a)) (length (vias_of b)) (length (vias_of a)) (length (vias_of b)) _ _ _ _ refl refl
      (λ v. rest a b e (omega arith) (omega arith) v ∙ modes_rest a b na nb fa fb d v)))
