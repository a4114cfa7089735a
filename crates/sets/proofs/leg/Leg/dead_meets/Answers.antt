use mathlib.Core.Path.{refl}
use Rattle.sets.proofs.Legs.{or_then, or_else, dead_is}
use Rattle.sets.proofs.leg.Leg.dead_meets.Goals.{then-part_meets, else-part_meets}
use Rattle.sets.proofs.leg.Leg.dead_meets.Goals as goal

pub returns-then-part_meets-2 : goal.returns-then-part_meets-2
returns-then-part_meets-2 c = dead_is _ _ _ _ _ _ (or_then _ _ _ _ (elim c.if-part_meets.branch [
  | then-part_meets w ↦ or_then _ _ _ _ c.part_meets.ensures w.if-part_meets.true w.value-is
  | else-part_meets w ↦ or_else _ _ _ _ _ c.part_meets.ensures w.if-part_meets.false w.part_meets-else-part_meets.ensures w.value-is
]) c.if-part_meets-2.true refl)

pub returns-else-part_meets-2 : goal.returns-else-part_meets-2
returns-else-part_meets-2 c = dead_is _ _ _ _ _ _ (or_else _ _ _ _ _ (elim c.if-part_meets.branch [
  | then-part_meets w ↦ or_then _ _ _ _ c.part_meets.ensures w.if-part_meets.true w.value-is
  | else-part_meets w ↦ or_else _ _ _ _ _ c.part_meets.ensures w.if-part_meets.false w.part_meets-else-part_meets.ensures w.value-is
]) c.if-part_meets-2.false c.part_meets-else-part_meets-2.ensures refl)
