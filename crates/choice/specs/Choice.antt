-- 'Legs and choices': the choices from a source to a destination, their length and their order. A choice is its legs; all else is computed from them.
use Rattle.std.specs.Prelude.{ℕ, zero, suc, ◌+◌, ◌<◌, ◌≤◌, ◌≡◌, Bool, true, cond, not, ◌&&◌, List, [], ◌∷◌, ◌++◌, length, eqb}
use Rattle.theory.specs.Machine.{end_by, sum_by}
use Rattle.theory.specs.Choice.{lex}
use Rattle.shape.specs.declared.shape.Shape.{Shape}
use Rattle.machine.specs.declared.leg.Leg.{Leg}
use Rattle.machine.specs.declared.leg.Mode.{Mode}
use Rattle.machine.specs.declared.leg.Mode.TheVariants.{Adaptive, Deterministic}
use Rattle.machine.specs.Number.{node_count}
use Rattle.machine.specs.Torus.{leg}

abbrev pub Choice : Type 0
Choice = List Leg

-- One leg, two legs by one via node, or three by two.
abbrev pub most_vias : ℕ
most_vias = 2

-- The targets of the legs: the vias in order, then the destination.
unfoldable pub targets_of : Choice → List ℕ
targets_of [] = []
targets_of (l ∷ ls) = l.target ∷ targets_of ls

-- The vias: the targets of all legs but the last.
unfoldable pub vias_of : Choice → List ℕ
vias_of [] = []
vias_of (l ∷ []) = []
vias_of (l ∷ m ∷ ls) = l.target ∷ vias_of (m ∷ ls)

-- 0 for adaptive, 1 for deterministic; the modes leg by leg, and how many legs are deterministic.
abbrev pub det : Mode → ℕ
det Adaptive = 0
det Deterministic = 1

unfoldable pub modes_of : Choice → List ℕ
modes_of [] = []
modes_of (l ∷ ls) = det l.mode ∷ modes_of ls

unfoldable pub dets_of : Choice → ℕ
dets_of [] = 0
dets_of (l ∷ ls) = det l.mode + dets_of ls

-- Where the legs from p end. `far p t`: the distance from p to t, by weights. Length = the sum of the legs' distances.
abbrev pub end_from : ℕ → Choice → ℕ
end_from p c = end_by (λ l. l.target) p c

abbrev pub length_from : (ℕ → ℕ → ℕ) → ℕ → Choice → ℕ
length_from far p c = sum_by (λ l. l.target) far p c

-- The order goes, smallest first, by length, deterministic legs, vias, first via, second via, then modes leg by leg, adaptive first. For any number of
-- vias: the vias in order. The destination stands behind them, where it never decides among choices to one destination.
unfoldable pub key_of : (ℕ → ℕ → ℕ) → ℕ → Choice → List ℕ
key_of far S c = length_from far S c ∷ dets_of c ∷ length (vias_of c) ∷ (targets_of c ++ modes_of c)

abbrev pub before : (ℕ → ℕ → ℕ) → ℕ → Choice → Choice → Bool
before far S a b = lex (key_of far S a) (key_of far S b)

-- All numbers of a list are below n; v is none of them; they are all different.
abbrev pub Below : ℕ → List ℕ → Type 0
Below n [] = Unit {0}
Below n (x ∷ xs) = (x < n) × Below n xs

abbrev pub Misses : ℕ → List ℕ → Type 0
Misses v [] = Unit {0}
Misses v (x ∷ xs) = (v ≡ x → ⊥) × Misses v xs

abbrev pub Different : List ℕ → Type 0
Different [] = Unit {0}
Different (x ∷ xs) = Misses x xs × Different xs

-- A choice from S to D with at most k vias, on n nodes, each leg in either mode: the vias are nodes, and S, the vias and D are all different.
-- S = D has one route: direct, adaptive.
pub record Admits (k n S D : ℕ) (c : Choice) : Type 0 where
  pub ends : end_from S c ≡ D
  pub few : length (vias_of c) ≤ k
  pub inside : Below n (vias_of c)
  pub apart : (S ≡ D → ⊥) → Different (S ∷ targets_of c)
  pub self : S ≡ D → c ≡ leg D Adaptive ∷ []

-- The same as a list. What f lists for each number below n.
unfoldable pub over : {C : Type 0} → ℕ → (ℕ → List C) → List C
over zero f = []
over (suc v) f = f v ++ over v f

-- Each of the lists with a leg to v before it, in either mode.
unfoldable pub after : ℕ → List Choice → List Choice
after v [] = []
after v (c ∷ cs) = (leg v Adaptive ∷ c) ∷ (leg v Deterministic ∷ c) ∷ after v cs

unfoldable pub direct : ℕ → List Choice
direct D = (leg D Adaptive ∷ []) ∷ (leg D Deterministic ∷ []) ∷ []

-- All lists of legs to D by at most k nodes.
unfoldable pub legs_by : ℕ → ℕ → ℕ → List Choice
legs_by zero n D = direct D
legs_by (suc k) n D = direct D ++ over n (λ v. after v (legs_by k n D))

unfoldable pub misses : ℕ → List ℕ → Bool
misses v [] = true
misses v (x ∷ xs) = not (eqb v x) && misses v xs

unfoldable pub different : List ℕ → Bool
different [] = true
different (x ∷ xs) = misses x xs && different xs

unfoldable pub kept : ℕ → List Choice → List Choice
kept S [] = []
kept S (c ∷ cs) = cond (different (S ∷ targets_of c)) (c ∷ kept S cs) (kept S cs)

unfoldable pub choices_by : ℕ → ℕ → ℕ → ℕ → List Choice
choices_by k n S D = cond (eqb S D) ((leg D Adaptive ∷ []) ∷ []) (kept S (legs_by k n D))

-- On the machine of a shape.
abbrev pub AdmitsIn : Shape → ℕ → ℕ → Choice → Type 0
AdmitsIn s S D = Admits most_vias (node_count s) S D

abbrev pub choices : Shape → ℕ → ℕ → List Choice
choices s S D = choices_by most_vias (node_count s) S D
