-- Which entries of an old route sheet can be kept: 'It cannot do so where a deterministic leg travels exactly half a ring from an odd coordinate, nor for
-- kind 11'.
use Rattle.std.specs.Prelude.{ℕ, ◌+◌, ◌*◌, ◌%◌, Bool, true, not, cond, ◌&&◌, ◌||◌, List, [], ◌∷◌, eqb}
use Rattle.numbers.specs.Numbers.{no_clear_choice}
use Rattle.theory.specs.Machine.{Machine}
use Rattle.shape.specs.declared.shape.Shape.{Shape}
use Rattle.shape.specs.declared.shape.Dim.{Dim}
use Rattle.shape.specs.declared.shape.Dim.TheVariants.{X, Y, Z}
use Rattle.shape.specs.Shape.{extent_of, wrapped_in}
use Rattle.machine.specs.declared.leg.Mode.{Mode}
use Rattle.machine.specs.declared.leg.Mode.TheVariants.{Adaptive, Deterministic}
use Rattle.machine.specs.declared.leg.Leg.{Leg}
use Rattle.machine.specs.Hop.{along, part}
use Rattle.machine.specs.Torus.{torus_by}
use Rattle.choice.specs.Answer.{Answer, Given, Refused}
use Rattle.routes.specs.declared.layout.Entry.{Entry}
use Rattle.routes.specs.Said.{said_by}

-- The rule of document 01, under which version 1 was planned and walked: at exactly half a ring plus, from every coordinate.
unfoldable pub old_rule : ℕ → Bool
old_rule p = true

abbrev pub old_torus : Shape → Machine Leg
old_torus s = torus_by old_rule s

-- A leg from a to t travels exactly half a ring from an odd coordinate: in dimension d, and in some dimension.
unfoldable pub odd_half_in : Shape → ℕ → ℕ → Dim → Bool
odd_half_in s a t d = wrapped_in s d && (eqb (2 * part s a t d) (extent_of s d) && eqb (along s a d % 2) 1)

unfoldable pub odd_half : Shape → ℕ → ℕ → Bool
odd_half s a t = odd_half_in s a t X || (odd_half_in s a t Y || odd_half_in s a t Z)

-- An adaptive leg is kept always, a deterministic one if it does not.
unfoldable pub leg_kept : Mode → Shape → ℕ → ℕ → Bool
leg_kept Adaptive s a t = true
leg_kept Deterministic s a t = not (odd_half s a t)

-- Each leg of a route from p, from its own start.
unfoldable pub legs_kept : Shape → ℕ → List Leg → Bool
legs_kept s p [] = true
legs_kept s p (l ∷ ls) = leg_kept l.mode s p l.target && legs_kept s l.target ls

-- What an entry says: a route, or a refusal, of which 10 is kept and 11 is not.
unfoldable pub answer_kept : Shape → ℕ → Answer → Bool
answer_kept s S (Given c) = legs_kept s S c
answer_kept s S (Refused e) = not (eqb e no_clear_choice)

unfoldable pub entry_kept : Shape → ℕ → Entry → Bool
entry_kept s S e = answer_kept s S (said_by e)

unfoldable pub all_kept : Shape → ℕ → List Entry → Bool
all_kept s S [] = true
all_kept s S (e ∷ es) = entry_kept s S e && all_kept s S es

-- The number, from 0, of the first entry that cannot be kept; how many entries there are where all can.
unfoldable pub first_lost : Shape → ℕ → List Entry → ℕ
first_lost s S [] = 0
first_lost s S (e ∷ es) = cond (entry_kept s S e) (first_lost s S es + 1) 0
