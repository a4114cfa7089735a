-- What stands as it was: the legs of a route, and what an entry says.
use Prim.Native.Nat.{ℕ, ◌<◌}
use mathlib.Core.Path.{◌≡◌, refl, sym, ◌∙◌}
use mathlib.Core.Logic.{◌↔◌}
use mathlib.Core.Bool.{Bool, true, false, not, ◌&&◌}
use mathlib.Core.List.{List, [], ◌∷◌}
use borrow.Author.Tests.{eqb-false, ne_eqb, not-true}
use Rattle.numbers.specs.Numbers.{no_clear_choice}
use Rattle.theory.specs.Machine.{Inside}
use Rattle.theory.specs.Alike.{SameWalks, SameLegs}
use Rattle.theory.proofs.Bools.{and_true}
use Rattle.theory.proofs.Alike.{same_walks}
use Rattle.shape.specs.declared.shape.Shape.{Shape}
use Rattle.shape.specs.declared.shape.Coords.{Coords}
use Rattle.shape.specs.Shape.{shape_error}
use Rattle.machine.specs.declared.leg.Mode.{Mode}
use Rattle.machine.specs.declared.leg.Mode.TheVariants.{Adaptive, Deterministic}
use Rattle.machine.specs.declared.leg.Leg.{Leg}
use Rattle.machine.specs.Number.{node_count, coords_of}
use Rattle.machine.specs.Node.{is_node, coords_answer}
use Rattle.machine.specs.Hop.{rule}
use Rattle.machine.specs.Torus.{allowed_by, torus, leg}
use Rattle.machine.proofs.Nodes.{node_of, below_node}
use Rattle.packet.specs.declared.route.Route.{Route}
use Rattle.packet.specs.New.{legs_to}
use Rattle.choice.specs.Answer.{Answer, Given, Refused}
use Rattle.conversion.specs.Keeping.{old_torus, odd_half, leg_kept, legs_kept, answer_kept}
use Rattle.conversion.specs.Kept.{Stands}
use Rattle.conversion.specs.Steps.{odd_half_of}
use Rattle.conversion.proofs.Halves.{odd_coords, coords_is, leg_kept_law}

and_right : (b : Bool) → (b && true) ≡ b
and_right true = refl
and_right false = refl

and_assoc : (x y z : Bool) → ((x && y) && z) ≡ (x && (y && z))
and_assoc true y z = refl
and_assoc false y z = refl

-- The legs of an answer are to nodes.
abbrev pub InsideOf : Shape → Answer → Type 0
InsideOf s (Given c) = Inside (torus s) c
InsideOf s (Refused e) = Unit {0}

module _ (s : Shape) (h : shape_error s ≡ 0) where
  -- The rule is not asked for an adaptive leg.
  pub adaptive_kept : (t a : ℕ) → SameWalks (old_torus s) (torus s) (leg t Adaptive) a
  unfolding allowed_by
  adaptive_kept t a = same_walks (old_torus s) (λ l p d. allowed_by rule l.mode s p l.target d) (leg t Adaptive) (λ p. Unit {0}) (λ p d q. refl) (λ p d q w. tt) a tt

  mode_kept : (m : Mode) (t a : ℕ) → t < node_count s → a < node_count s → (leg_kept m s a t ≡ true) ↔ SameWalks (old_torus s) (torus s) (leg t m) a
  unfolding leg_kept
  mode_kept Adaptive t a ht ha = (λ _. adaptive_kept t a, λ _. refl)
  mode_kept Deterministic t a ht ha =
      let k = leg_kept_law s h a t ha ht in
      (λ e. k.0 (not-true _ e), λ w. rw (k.1 w))

  pub legs_kept_law : (a : ℕ) (c : List Leg) → a < node_count s → Inside (torus s) c → (legs_kept s a c ≡ true) ↔ SameLegs (old_torus s) (torus s) a c
  unfolding legs_kept
  legs_kept_law a [] ha i = (λ _. tt, λ _. refl)
  legs_kept_law a (l ∷ ls) ha i =
      let one = mode_kept l.mode l.target a i.0 ha in
      let rest = legs_kept_law l.target ls i.0 i.1 in (
        λ e. let both = and_true (leg_kept l.mode s a l.target) _ e in (one.0 both.0, rest.0 both.1),
        λ w. rw (one.1 w.0, rest.1 w.1),
      )

  pub answer_kept_law : (S : ℕ) (a : Answer) → S < node_count s → InsideOf s a → (answer_kept s S a ≡ true) ↔ Stands s S a
  unfolding answer_kept
  answer_kept_law S (Given c) h_s i = legs_kept_law S c h_s i
  answer_kept_law S (Refused e) h_s i = (λ k. eqb-false e no_clear_choice (not-true _ k), λ k. rw (ne_eqb e no_clear_choice k))

-- A leg as the code judges it, from the coordinates c.
module _ (s : Shape) (m : Mode) (c : Coords) (t : ℕ) where
  pub adaptive_leg : m ≡ Adaptive → (a : ℕ) → c ≡ coords_of s a → true ≡ leg_kept m s a t
  unfolding leg_kept
  adaptive_leg e a q = rw e

  pub one_leg : m ≡ Deterministic → is_node s t ≡ true → (e : Coords) → e ≡ coords_answer s t → (o : Bool) → o ≡ odd_half_of s c e → (a : ℕ) → c ≡ coords_of s a → not o ≡ leg_kept m s a t
  unfolding leg_kept
  one_leg em ht e qe o qo a q = rw (em, qo, odd_coords s (node_of s t ht).sound a t c e q (coords_is s t ht e qe))

-- What the code answers of a source with these coordinates.
abbrev pub Each : Shape → Coords → (ℕ → Bool) → Bool → Type 0
Each s c kept k = (a : ℕ) → c ≡ coords_of s a → k ≡ kept a

-- Both legs, where leg one is deterministic: e is where it ends, and where leg two begins.
pub both_legs :
    (s : Shape) (c : Coords) (v D : ℕ) (n : Mode) → is_node s v ≡ true → (e : Coords) → e ≡ coords_answer s v → (o : Bool) → o ≡ odd_half_of s c e →
    (k : Bool) → Each s e (λ a. leg_kept n s a D) k → (b : Bool) → b ≡ (not o && k) → Each s c (λ a. leg_kept Deterministic s a v && leg_kept n s v D) b
both_legs s c v D n hv e qe o qo k qk b qb a qa =
    qb ∙ rw (one_leg s Deterministic c v refl hv e qe o qo a qa, qk v (coords_is s v hv e qe))

-- A route by its cases.
module _ (s : Shape) (h : shape_error s ≡ 0) (D : ℕ) (r : Route) (i : Inside (torus s) (legs_to D r)) where
  pub direct_node : (m : Mode) → r ≡ Route.Direct m → is_node s D ≡ true
  unfolding legs_to
  direct_node m e = below_node s h D (rw e at i).0

  pub direct_kept : (m : Mode) → r ≡ Route.Direct m → (c : Coords) (k : Bool) → Each s c (λ a. leg_kept m s a D) k → Each s c (λ a. legs_kept s a (legs_to D r)) k
  unfolding legs_kept legs_to
  direct_kept m e c k q a qa = q a qa ∙ rw e (sym (and_right _))

  module _ (v : ℕ) (m n : Mode) (e : r ≡ Route.Via v m n) where
    pub via_node : is_node s v ≡ true
    unfolding legs_to
    via_node = below_node s h v (rw e at i).0

    pub end_node : is_node s D ≡ true
    unfolding legs_to
    end_node = below_node s h D (rw e at i).1.0

    pub via_kept : (c : Coords) (b : Bool) → Each s c (λ a. leg_kept m s a v && leg_kept n s v D) b → Each s c (λ a. legs_kept s a (legs_to D r)) b
    unfolding legs_kept legs_to
    via_kept c b q a qa = q a qa ∙ rw (e, and_right (leg_kept n s v D))

  -- Three legs, which no sheet of version 1 has.
  module _ (v u : ℕ) (m n o : Mode) (e : r ≡ Route.Vias v u m n o) where
    pub vias_nodes : (is_node s v ≡ true) × ((is_node s u ≡ true) × (is_node s D ≡ true))
    unfolding legs_to
    vias_nodes = let k = rw e at i in (below_node s h v k.0, (below_node s h u k.1.0, below_node s h D k.1.1.0))

    pub vias_kept :
        (c : Coords) (b k w : Bool) → Each s c (λ a. leg_kept m s a v && leg_kept n s v u) b → k ≡ leg_kept o s u D → w ≡ (b && k) →
        Each s c (λ a. legs_kept s a (legs_to D r)) w
    unfolding legs_kept legs_to
    vias_kept c b k w qb qk qw a qa = qw ∙ rw (qb a qa, qk, e, and_right (leg_kept o s u D)) (and_assoc (leg_kept m s a v) (leg_kept n s v u) (leg_kept o s u D))
