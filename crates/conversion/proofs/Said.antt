-- What an entry says, by the code's enum, and where its legs end.
use Prim.Native.Nat.{ℕ, zero, suc, ◌/◌, ◌<◌}
use mathlib.Core.Path.{◌≡◌, refl, sym, ap, ◌∙◌}
use mathlib.Core.Bool.{Bool, true, not}
use lib.Dec.{eqb}
use native.Mathlib.Omega.{arith}
use Rattle.numbers.specs.Numbers.{no_clear_choice}
use Rattle.numbers.specs.declared.Refusal.{Refusal}
use Rattle.numbers.specs.declared.Refusal.TheVariants.{NoClearChoice}
use Rattle.numbers.specs.contracts.Refusal.{the_type}
use Rattle.numbers.specs.Refusals.{number, refusal}
use Rattle.numbers.proofs.Refusals.{refusal-number}
use Rattle.theory.proofs.Cases.{test, by_le}
use denote.Enum.Bare.{sameb, same_true, same_false}
use borrow.Author.Rules.{rules}
use borrow.Author.Tests.{ne_eqb}
use Rattle.theory.specs.Machine.{Inside}
use Rattle.shape.specs.declared.shape.Shape.{Shape}
use Rattle.shape.specs.declared.shape.Coords.{Coords}
use Rattle.machine.specs.Number.{node_count}
use Rattle.machine.specs.Node.{is_node}
use Rattle.machine.specs.Torus.{torus}
use Rattle.machine.proofs.Nodes.{node_of}
use Rattle.packet.specs.declared.route.Route.{Route}
use Rattle.packet.specs.New.{legs_to}
use Rattle.choice.specs.declared.outcome.Outcome.{Outcome}
use Rattle.choice.specs.Answer.{Given, Refused}
use Rattle.choice.specs.Outcome.{told_as}
use Rattle.choice.proofs.Told.{number-refusal, refusal_past}
use Rattle.routes.specs.declared.layout.Entry.{Entry}
use Rattle.routes.specs.Said.{said_with, said_by, heard}
use Rattle.conversion.specs.Keeping.{legs_kept, answer_kept, entry_kept}
use Rattle.conversion.proofs.Legs.{InsideOf, Each}

-- The enum says what the entry says.
heard_with : (vias k : ℕ) (e : Entry) (n : ℕ) → vias < 19 → heard e.dest (told_as n (said_with vias k e)) ≡ said_with vias k e
unfolding heard told_as legs_to
heard_with zero k e n b = refl
heard_with (suc zero) k e n b = refl
heard_with (suc (suc zero)) k e n b = refl
heard_with (suc (suc (suc vias))) k e n b = ap Refused (number-refusal (suc (suc (suc vias))) (omega arith) b)

-- From kind 304 on what it says is no number of a cause.
pub heard_said : (e : Entry) (n : ℕ) → e.kind < 304 → heard e.dest (told_as n (said_by e)) ≡ said_by e
unfolding said_by
heard_said e n b = heard_with (e.kind / 16) e.kind e n (omega arith)

-- A route that the enum tells is what the entry says, of every kind; and a refusal is no clear choice where the entry says so.
no_route : {X : Type 0} (r : Route) (n : ℕ) (f : Refusal) → Outcome.Given r n ≡ Outcome.Refused f → X
no_route r n f h = let z : ◌≡◌ {A = ℕ} 0 1 = cc in absurd (omega arith)

route_with : (vias k : ℕ) (e : Entry) (r : Route) (n : ℕ) → Outcome.Given r n ≡ told_as 0 (said_with vias k e) → Given (legs_to e.dest r) ≡ said_with vias k e
unfolding heard told_as legs_to
route_with zero k e r n h = ap (heard e.dest) h
route_with (suc zero) k e r n h = ap (heard e.dest) h
route_with (suc (suc zero)) k e r n h = ap (heard e.dest) h
route_with (suc (suc (suc vias))) k e r n h = no_route r n (refusal (suc (suc (suc vias)))) h

same_unclear : (n : ℕ) → 0 < n → eqb (number (refusal n)) no_clear_choice ≡ eqb n no_clear_choice
same_unclear n a =
    by_le n 18
    (λ l. rw (number-refusal n a (omega arith)))
    (λ g. rw (refusal_past n g, ne_eqb n no_clear_choice (λ z. omega arith)))

refused_with : (s : Shape) (a vias k : ℕ) (e : Entry) (r : Refusal) → Outcome.Refused r ≡ told_as 0 (said_with vias k e) → not (eqb (number r) no_clear_choice) ≡ answer_kept s a (said_with vias k e)
unfolding told_as answer_kept
refused_with s a zero k e r h = no_route _ _ r (sym h)
refused_with s a (suc zero) k e r h = no_route _ _ r (sym h)
refused_with s a (suc (suc zero)) k e r h = no_route _ _ r (sym h)
refused_with s a (suc (suc (suc vias))) k e r h =
    let is : r ≡ refusal (suc (suc (suc vias))) = cc in
    rw (is, same_unclear (suc (suc (suc vias))) (omega arith))

-- The number by which the code tells a cause.
pub no_clear : (r : Refusal) → sameb the_type r NoClearChoice ≡ eqb (number r) no_clear_choice
no_clear r =
    test (sameb the_type r NoClearChoice)
    (λ t. let e : r ≡ NoClearChoice = same_true the_type (search rules) r NoClearChoice t in rw e)
    (λ t. rw (t, ne_eqb (number r) no_clear_choice (λ z. same_false the_type r NoClearChoice t (sym (refusal-number r) ∙ ap refusal z))))

-- The legs end at the vias and the destination.
module _ (s : Shape) where
  inside_with : (vias k : ℕ) (e : Entry) → e.dest < node_count s → e.via < node_count s → e.second < node_count s → InsideOf s (said_with vias k e)
  inside_with zero k e d v u = (d, tt)
  inside_with (suc zero) k e d v u = (v, (d, tt))
  inside_with (suc (suc zero)) k e d v u = (v, (u, (d, tt)))
  inside_with (suc (suc (suc vias))) k e d v u = tt

  pub inside_said : (e : Entry) → e.dest < node_count s → e.via < node_count s → e.second < node_count s → InsideOf s (said_by e)
  unfolding said_by
  inside_said e d v u = inside_with (e.kind / 16) e.kind e d v u

-- What the code finds in an entry.
module _ (s : Shape) (e : Entry) (o : Outcome) (told : o ≡ told_as 0 (said_by e)) where
  module _ (r : Route) (n : ℕ) (given : o ≡ Outcome.Given r n) where
    legs : Given (legs_to e.dest r) ≡ said_by e
    unfolding said_by
    legs = route_with (e.kind / 16) e.kind e r n (sym given ∙ told)

    pub given_inside : is_node s e.dest ≡ true → is_node s e.via ≡ true → is_node s e.second ≡ true → Inside (torus s) (legs_to e.dest r)
    given_inside d v u = rw (← legs) at (inside_said s e (node_of s e.dest d).below (node_of s e.via v).below (node_of s e.second u).below)

    pub given_kept : (c : Coords) (k : Bool) → Each s c (λ a. legs_kept s a (legs_to e.dest r)) k → Each s c (λ a. entry_kept s a e) k
    unfolding entry_kept answer_kept
    given_kept c k q a qa = q a qa ∙ rw (← legs)

  pub refused_kept : (r : Refusal) → o ≡ Outcome.Refused r → (c : Coords) → Each s c (λ a. entry_kept s a e) (not (eqb (number r) no_clear_choice))
  unfolding entry_kept said_by
  refused_kept r given c a qa = refused_with s a (e.kind / 16) e.kind e r (sym given ∙ told)
