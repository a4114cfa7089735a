-- Laws of lists of legs, and of a leg behind them.
use Prim.Native.Nat.{ℕ, suc, ◌+◌, ◌<◌, ◌≤◌}
use native.Mathlib.Omega.{arith}
use mathlib.Core.Path.{◌≡◌, refl, ap, ◌∙◌}
use mathlib.Core.Bool.{Bool, true, false, ◌&&◌}
use mathlib.Core.List.{[], ◌∷◌, ◌++◌}
use lib.ListN.{length}
use Rattle.theory.specs.Machine.{end_by, sum_by}
use Rattle.theory.specs.Clear.{clear_by}
use Rattle.machine.specs.declared.leg.Leg.{Leg}
use Rattle.choice.specs.Choice.{Choice, targets_of, vias_of, det, modes_of, dets_of, end_from, length_from, Below}
use Rattle.choice.specs.Further.{clear_choice}

pub vias_legs : (c : Choice) → 1 ≤ length c → suc (length (vias_of c)) ≡ length c
unfolding vias_of
vias_legs [] h = absurd (omega arith)
vias_legs (l ∷ []) h = refl
vias_legs (l ∷ m ∷ ls) h = ap suc (vias_legs (m ∷ ls) (omega arith))

pub targets_count : (c : Choice) → length (targets_of c) ≡ length c
unfolding targets_of
targets_count [] = refl
targets_count (l ∷ ls) = ap suc (targets_count ls)

pub modes_count : (c : Choice) → length (modes_of c) ≡ length c
unfolding modes_of
modes_count [] = refl
modes_count (l ∷ ls) = ap suc (modes_count ls)

pub legs_count : (c : Choice) (l : Leg) → length (c ++ (l ∷ [])) ≡ suc (length c)
legs_count [] l = refl
legs_count (x ∷ c) l = ap suc (legs_count c l)

pub targets_behind : (c : Choice) (l : Leg) → targets_of (c ++ (l ∷ [])) ≡ targets_of c ++ (l.target ∷ [])
unfolding targets_of
targets_behind [] l = refl
targets_behind (x ∷ c) l = ap (λ r. x.target ∷ r) (targets_behind c l)

pub modes_behind : (c : Choice) (l : Leg) → modes_of (c ++ (l ∷ [])) ≡ modes_of c ++ (det l.mode ∷ [])
unfolding modes_of
modes_behind [] l = refl
modes_behind (x ∷ c) l = ap (λ r. det x.mode ∷ r) (modes_behind c l)

pub dets_behind : (c : Choice) (l : Leg) → dets_of (c ++ (l ∷ [])) ≡ dets_of c + det l.mode
unfolding dets_of
dets_behind [] l = omega arith
dets_behind (x ∷ c) l = omega (arith, dets_behind c l)

pub end_behind : (p : ℕ) (c : Choice) (l : Leg) → end_from p (c ++ (l ∷ [])) ≡ l.target
unfolding end_by
end_behind p [] l = refl
end_behind p (x ∷ c) l = end_behind x.target c l

pub length_behind : (far : ℕ → ℕ → ℕ) (p : ℕ) (c : Choice) (l : Leg) → length_from far p (c ++ (l ∷ [])) ≡ length_from far p c + far (end_from p c) l.target
unfolding sum_by end_by
length_behind far p [] l = omega arith
length_behind far p (x ∷ c) l = omega (arith, length_behind far x.target c l)

and_one : (b : Bool) → (b && true) ≡ b
and_one true = refl
and_one false = refl

and_assoc : (a b c : Bool) → (a && (b && c)) ≡ ((a && b) && c)
and_assoc true b c = refl
and_assoc false b c = refl

pub clear_behind : (clear : Leg → ℕ → Bool) (p : ℕ) (c : Choice) (l : Leg) → clear_choice clear p (c ++ (l ∷ [])) ≡ (clear_choice clear p c && clear l (end_from p c))
unfolding clear_by end_by
clear_behind clear p [] l = and_one (clear l p)
clear_behind clear p (x ∷ c) l = ap (λ r. clear x p && r) (clear_behind clear x.target c l) ∙ and_assoc (clear x p) (clear_choice clear x.target c) (clear l (end_from x.target c))

-- Of a choice with a leg at its end, what stands before it.
pub record Split (c : Choice) : Type 0 where
  pub front : Choice
  pub last : Leg
  pub same : c ≡ front ++ (last ∷ [])

pub split : (l : Leg) (ls : Choice) → Split (l ∷ ls)
split l [] = record { front = []; last = l; same = refl }
split l (m ∷ ls) = let s = split m ls in record { front = l ∷ s.front; last = s.last; same = ap (λ r. l ∷ r) s.same }

pub below_vias : (n : ℕ) (c : Choice) → Below n (targets_of c) → Below n (vias_of c)
unfolding targets_of vias_of
below_vias n [] h = tt
below_vias n (l ∷ []) h = tt
below_vias n (l ∷ m ∷ ls) h = (h.0, below_vias n (m ∷ ls) h.1)

pub below_targets : (n p : ℕ) (c : Choice) → end_from p c < n → Below n (vias_of c) → Below n (targets_of c)
unfolding targets_of vias_of end_by
below_targets n p [] e h = tt
below_targets n p (l ∷ []) e h = (e, tt)
below_targets n p (l ∷ m ∷ ls) e h = (h.0, below_targets n l.target (m ∷ ls) e h.1)
