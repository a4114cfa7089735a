use mathlib.Core.Path.{refl}
use Rattle.sets.proofs.Legs.{and_then, and_else, x_first, x_last}
use Rattle.sets.proofs.leg.Leg.part_meets.Goals.{then-meets_along, else-meets_along, then-meets_along-3, else-meets_along-3}
use Rattle.sets.proofs.leg.Leg.part_meets.Goals as goal

pub returns-then-meets_along-2 : goal.returns-then-meets_along-2
returns-then-meets_along-2 c = x_last _ _ _ _ _ _ _ (and_then _ _ _ _ _ (elim c.if-meets_along.branch [
  | then-meets_along w ↦ and_then _ _ _ _ _ c.meets_along.ensures w.if-meets_along.true w.meets_along-then-meets_along.ensures w.value-is
  | else-meets_along w ↦ and_else _ _ _ _ c.meets_along.ensures w.if-meets_along.false w.value-is
]) c.if-meets_along-2.true c.meets_along-then-meets_along-2.ensures refl)

pub returns-else-meets_along-2 : goal.returns-else-meets_along-2
returns-else-meets_along-2 c = x_last _ _ _ _ _ _ _ (and_else _ _ _ _ (elim c.if-meets_along.branch [
  | then-meets_along w ↦ and_then _ _ _ _ _ c.meets_along.ensures w.if-meets_along.true w.meets_along-then-meets_along.ensures w.value-is
  | else-meets_along w ↦ and_else _ _ _ _ c.meets_along.ensures w.if-meets_along.false w.value-is
]) c.if-meets_along-2.false refl)

pub returns-then-meets_along-4 : goal.returns-then-meets_along-4
returns-then-meets_along-4 c = x_first _ _ _ _ _ _ _ (and_then _ _ _ _ _ (elim c.if-meets_along-3.branch [
  | then-meets_along-3 w ↦ and_then _ _ _ _ _ c.meets_along-else-dim-eq0.ensures w.if-meets_along-3.true w.meets_along-then-meets_along-3.ensures w.value-is
  | else-meets_along-3 w ↦ and_else _ _ _ _ c.meets_along-else-dim-eq0.ensures w.if-meets_along-3.false w.value-is
]) c.if-meets_along-4.true c.meets_along-then-meets_along-4.ensures refl)

pub returns-else-meets_along-4 : goal.returns-else-meets_along-4
returns-else-meets_along-4 c = x_first _ _ _ _ _ _ _ (and_else _ _ _ _ (elim c.if-meets_along-3.branch [
  | then-meets_along-3 w ↦ and_then _ _ _ _ _ c.meets_along-else-dim-eq0.ensures w.if-meets_along-3.true w.meets_along-then-meets_along-3.ensures w.value-is
  | else-meets_along-3 w ↦ and_else _ _ _ _ c.meets_along-else-dim-eq0.ensures w.if-meets_along-3.false w.value-is
]) c.if-meets_along-4.false refl)
