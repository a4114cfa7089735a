-- What document 01 says of dead nodes and links, as theorems about the definitions.
use Prim.Native.Nat.{ℕ, ◌≤◌}
use native.Mathlib.Omega.{arith}
use mathlib.Core.Path.{◌≡◌, refl, sym, ap, ◌∙◌}
use mathlib.Core.Logic.{⊎_elim}
use mathlib.Core.Bool.{Bool, true, false, not, ◌&&◌, ◌||◌, false≢true}
use mathlib.Core.List.{List, [], ◌∷◌}
use lib.Dec.{eqb}
use Rattle.theory.proofs.Bools.{eqb_same}
use Rattle.shape.specs.declared.shape.Shape.{Shape}
use Rattle.machine.specs.Hop.{link, neighbour, opposite}
use Rattle.machine.proofs.Nodes.{Node}
use Rattle.machine.proofs.Directions.{opposite_twice}
use Rattle.machine.proofs.Laws.{link_back, neighbour_back}
use Rattle.plan.specs.declared.layout.Fault.{Fault}
use Rattle.plan.specs.Kinds.{kind_dir}
use Rattle.dead.specs.Dead.{some, names_node, names_link, names, dead_node, dead_link, sound}
use Rattle.dead.proofs.Bools.{left_true, right_true, both_true, either_of}
use Rattle.dead.proofs.Links.{opposite_low, link_low, kind_low}

-- ---- some fault of a list
some_same : (a b : Fault → Bool) (fs : List Fault) → ((f : Fault) → a f ≡ b f) → some a fs ≡ some b fs
unfolding some
some_same a b [] h = refl
some_same a b (f ∷ fs) h = rw (h f, some_same a b fs h)

some_more : (a b : Fault → Bool) (fs : List Fault) → ((f : Fault) → a f ≡ true → b f ≡ true) → some a fs ≡ true → some b fs ≡ true
unfolding some
some_more a b [] h e = absurd (false≢true e)
some_more a b (f ∷ fs) h e = ⊎_elim (λ (x : a f ≡ true). left_true (b f) _ (h f x)) (λ x. right_true (b f) _ (some_more a b fs h x)) (either_of (a f) _ e)

-- ---- a dead node makes all its links dead, those that lead to it too
module _ (s : Shape) (fs : List Fault) (n d : ℕ) (l : link s n d ≡ true) where
  pub leaving_dead : dead_node fs n ≡ true → dead_link s fs n d ≡ true
  unfolding dead_node dead_link names
  leaving_dead h = both_true (link s n d) _ l (some_more _ _ fs (λ f x. left_true (names_node f n || names_node f (neighbour s n d)) _ (left_true (names_node f n) _ x)) h)

  pub entering_dead : dead_node fs (neighbour s n d) ≡ true → dead_link s fs n d ≡ true
  unfolding dead_node dead_link names
  entering_dead h = both_true (link s n d) _ l (some_more _ _ fs (λ f x. left_true (names_node f n || names_node f (neighbour s n d)) _ (right_true (names_node f n) _ x)) h)

  -- A link that is not dead is sound.
  pub sound_or_dead : sound s fs n d ≡ not (dead_link s fs n d)
  unfolding sound
  sound_or_dead = rw l

-- ---- a dead link is dead both ways
or_turn : (a b : Bool) → (a || b) ≡ (b || a)
or_turn true true = refl
or_turn true false = refl
or_turn false true = refl
or_turn false false = refl

-- The direction is this one, asked of the way back.
turned : (d e : ℕ) → d ≤ 5 → e ≤ 5 → eqb d e ≡ eqb (opposite d) (opposite e)
turned d e hd he =
    eqb_same d e (opposite d) (opposite e) (ap opposite)
    (λ q. sym (opposite_twice d hd) ∙ ap opposite q ∙ opposite_twice e he)

names_back : (f : Fault) (n d to : ℕ) → d ≤ 5 → names f n d to ≡ names f to (opposite d) n
unfolding names names_link
names_back f n d to h =
    let plus = kind_dir f.kind in
    let low : plus ≤ 5 = omega (arith, kind_low f.kind) in
    let there : eqb d plus ≡ eqb (opposite d) (opposite plus) = turned d plus h low in
    let back : eqb (opposite d) plus ≡ eqb d (opposite plus) = turned (opposite d) plus (opposite_low d h) low ∙ ap (λ (x : ℕ). eqb x (opposite plus)) (opposite_twice d h) in
    rw (or_turn (names_node f n) (names_node f to), there, ← back, or_turn (eqb (opposite d) (opposite plus) && eqb f.node n) (eqb (opposite d) plus && eqb f.node to))

module _ (s : Shape) (fs : List Fault) (n d : ℕ) (h : Node s n) (l : link s n d ≡ true) where
  pub both_ways : dead_link s fs n d ≡ dead_link s fs (neighbour s n d) (opposite d)
  unfolding dead_link
  both_ways =
      rw (l, link_back s h.sound n d h.below l, neighbour_back s h.sound n d h.below l)
      (some_same (λ f. names f n d (neighbour s n d)) (λ f. names f (neighbour s n d) (opposite d) n) fs (λ f. names_back f n d (neighbour s n d) (link_low s n d l)))
