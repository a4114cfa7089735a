-- The order of the choices: it is an order, fewer vias at no cost come first, and the same leg behind two choices keeps their order.
use Prim.Native.Nat.{ℕ, suc, ◌+◌, ◌<◌, ◌≤◌}
use native.Mathlib.Omega.{arith}
use mathlib.Core.Path.{◌≡◌, refl, ap, ◌∙◌}
use mathlib.Core.Bool.{true, false≢true}
use mathlib.Core.List.{List, [], ◌∷◌, ◌++◌, append_assoc}
use lib.ListN.{length, length-append}
use Rattle.theory.specs.Choice.{Order, lex}
use Rattle.theory.proofs.Choice.{key_order, lex_less, lex_same, lex_least, lex_step}
use Rattle.machine.specs.declared.leg.Leg.{Leg}
use Rattle.machine.specs.declared.leg.Mode.{Mode}
use Rattle.machine.specs.declared.leg.Mode.TheVariants.{Adaptive, Deterministic}
use Rattle.machine.specs.Torus.{leg}
use Rattle.choice.specs.Choice.{Choice, targets_of, vias_of, det, modes_of, dets_of, end_from, length_from, key_of, before}
use Rattle.choice.proofs.Lists.{vias_legs, targets_count, modes_count, legs_count, targets_behind, modes_behind, dets_behind, length_behind}

-- Different lists of legs have different keys.
det_inj : (m n : Mode) → det m ≡ det n → m ≡ n
det_inj Adaptive Adaptive e = refl
det_inj Adaptive Deterministic e = absurd (omega arith)
det_inj Deterministic Adaptive e = absurd (omega arith)
det_inj Deterministic Deterministic e = refl

pub leg_inj : (t u : ℕ) (m n : Mode) → t ≡ u → m ≡ n → leg t m ≡ leg u n
leg_inj t u m n e f = cc

legs_inj : (a b : Choice) → targets_of a ≡ targets_of b → modes_of a ≡ modes_of b → a ≡ b
unfolding targets_of modes_of
legs_inj [] [] e f = refl
legs_inj [] (y ∷ b) e f = let z : ◌≡◌ {A = ℕ} 0 (suc (length (targets_of b))) = ap length e in absurd (omega arith)
legs_inj (x ∷ a) [] e f = let z : ◌≡◌ {A = ℕ} (suc (length (targets_of a))) 0 = ap length e in absurd (omega arith)
legs_inj (x ∷ a) (y ∷ b) e f =
    let t : x.target ≡ y.target = cc in
    let ts : targets_of a ≡ targets_of b = cc in
    let m : det x.mode ≡ det y.mode = cc in
    let ms : modes_of a ≡ modes_of b = cc in
    let one : x ≡ y = leg_inj x.target y.target x.mode y.mode t (det_inj x.mode y.mode m) in
    cc (one, legs_inj a b ts ms)

append_parts : (xs ys us vs : List ℕ) → length xs ≡ length ys → xs ++ us ≡ ys ++ vs → (xs ≡ ys) × (us ≡ vs)
append_parts [] [] us vs e h = (refl, h)
append_parts [] (y ∷ ys) us vs e h = absurd (omega arith)
append_parts (x ∷ xs) [] us vs e h = absurd (omega arith)
append_parts (x ∷ xs) (y ∷ ys) us vs e h =
    let one : x ≡ y = cc in
    let rest : xs ++ us ≡ ys ++ vs = cc in
    let both = append_parts xs ys us vs (omega arith) rest in
    (cc (one, both.0), both.1)

pub key_inj : (far : ℕ → ℕ → ℕ) (S : ℕ) (a b : Choice) → key_of far S a ≡ key_of far S b → a ≡ b
unfolding key_of
key_inj far S a b e =
    let rest : targets_of a ++ modes_of a ≡ targets_of b ++ modes_of b = cc in
    let both : length (targets_of a ++ modes_of a) ≡ length (targets_of b ++ modes_of b) = ap length rest in
    let same : length (targets_of a) ≡ length (targets_of b) =
    omega (arith, both, length-append (targets_of a) (modes_of a), length-append (targets_of b) (modes_of b), targets_count a, targets_count b, modes_count a, modes_count b) in
    let parts = append_parts (targets_of a) (targets_of b) (modes_of a) (modes_of b) same rest in
    legs_inj a b parts.0 parts.1

pub before_order : (far : ℕ → ℕ → ℕ) (S : ℕ) → Order (before far S)
before_order far S = key_order (key_of far S) (key_inj far S)

lex_inner : (xs ys us vs us' vs' : List ℕ) → length xs ≡ length ys → (lex us vs ≡ true → lex us' vs' ≡ true) → lex (xs ++ us) (ys ++ vs) ≡ true → lex (xs ++ us') (ys ++ vs') ≡ true
lex_inner [] [] us vs us' vs' e f h = f h
lex_inner [] (y ∷ ys) us vs us' vs' e f h = absurd (omega arith)
lex_inner (x ∷ xs) [] us vs us' vs' e f h = absurd (omega arith)
lex_inner (x ∷ xs) (y ∷ ys) us vs us' vs' e f h =
    lex_step x y x y (xs ++ us) (ys ++ vs) (xs ++ us') (ys ++ vs') (λ g. g) (λ q. q) (λ _ r. lex_inner xs ys us vs us' vs' (omega arith) f r) h

lex_behind : (xs ys zs : List ℕ) → length xs ≡ length ys → lex xs ys ≡ true → lex (xs ++ zs) (ys ++ zs) ≡ true
unfolding lex
lex_behind [] [] zs e h = absurd (false≢true h)
lex_behind [] (y ∷ ys) zs e h = absurd (omega arith)
lex_behind (x ∷ xs) [] zs e h = absurd (omega arith)
lex_behind (x ∷ xs) (y ∷ ys) zs e h = lex_step x y x y xs ys (xs ++ zs) (ys ++ zs) (λ g. g) (λ q. q) (λ _ r. lex_behind xs ys zs (omega arith) r) h

module _ (far : ℕ → ℕ → ℕ) (S : ℕ) where
  -- No longer, no more deterministic legs, fewer vias.
  pub fewer_before : (a b : Choice) → length_from far S a ≤ length_from far S b → dets_of a ≤ dets_of b → length (vias_of a) < length (vias_of b) → before far S a b ≡ true
  unfolding key_of
  fewer_before a b long dets vias =
      lex_least (length_from far S a) (length_from far S b) _ _ long
      (λ _. lex_least (dets_of a) (dets_of b) _ _ dets (λ _. lex_less (length (vias_of a)) (length (vias_of b)) _ _ vias))

  -- The same leg with another mode at the end.
  pub adaptive_before : (a : Choice) (t : ℕ) → before far S (a ++ (leg t Adaptive ∷ [])) (a ++ (leg t Deterministic ∷ [])) ≡ true
  unfolding key_of
  adaptive_before a t =
      let one = length_behind far S a (leg t Adaptive) in
      let two = length_behind far S a (leg t Deterministic) in
      lex_least (length_from far S (a ++ (leg t Adaptive ∷ []))) (length_from far S (a ++ (leg t Deterministic ∷ []))) _ _ (omega (arith, one, two))
      (λ _. lex_less (dets_of (a ++ (leg t Adaptive ∷ []))) (dets_of (a ++ (leg t Deterministic ∷ []))) _ _ (omega (arith, dets_behind a (leg t Adaptive), dets_behind a (leg t Deterministic))))

  rest_behind : (c : Choice) (l : Leg) → targets_of (c ++ (l ∷ [])) ++ modes_of (c ++ (l ∷ [])) ≡ targets_of c ++ (l.target ∷ (modes_of c ++ (det l.mode ∷ [])))
  rest_behind c l = rw (targets_behind c l, modes_behind c l) (append_assoc (targets_of c) (l.target ∷ []) (modes_of c ++ (det l.mode ∷ [])))

  -- The same last leg behind two choices that end at one node keeps their order.
  pub append_before :
      (a b : Choice) (l : Leg) →
      1 ≤ length a →
      1 ≤ length b →
      end_from S a ≡ end_from S b →
      before far S a b ≡ true →
      before far S (a ++ (l ∷ [])) (b ++ (l ∷ [])) ≡ true
  unfolding key_of
  append_before a b l na nb ends h =
      let a' = a ++ (l ∷ []) in
      let b' = b ++ (l ∷ []) in
      let la : length_from far S a' ≡ length_from far S a + far (end_from S b) l.target = rw (← ends) (length_behind far S a l) in
      let lb = length_behind far S b l in
      let da = dets_behind a l in
      let db = dets_behind b l in
      let va = vias_legs a na in
      let vb = vias_legs b nb in
      let ca = legs_count a l in
      let cb = legs_count b l in
      let va' = vias_legs a' (omega arith) in
      let vb' = vias_legs b' (omega arith) in
      lex_step (length_from far S a) (length_from far S b) (length_from far S a') (length_from far S b') _ _ _ _ (λ g. omega arith) (λ q. omega arith)
      (λ _. lex_step (dets_of a) (dets_of b) (dets_of a') (dets_of b') _ _ _ _ (λ g. omega arith) (λ q. omega arith)
      (λ _. lex_step (length (vias_of a)) (length (vias_of b)) (length (vias_of a')) (length (vias_of b')) _ _ _ _ (λ g. omega arith) (λ q. omega arith)
      (λ q r. rw (rest_behind a l, rest_behind b l)
      (lex_inner (targets_of a) (targets_of b) (modes_of a) (modes_of b) _ _ (omega (arith, targets_count a, targets_count b))
      (λ k. lex_same l.target l.target _ _ refl ∙ lex_behind (modes_of a) (modes_of b) _ (omega (arith, modes_count a, modes_count b)) k) r))))
      h
