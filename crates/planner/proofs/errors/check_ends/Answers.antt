use Rattle.planner.proofs.FirstError.{unknown, lifeless, sound_ends}
use Rattle.planner.proofs.errors.check_ends.Goals as goal

pub returns-then-not-known : goal.returns-then-not-known
returns-then-not-known c = unknown _ _ c.if-not-known.true

pub returns-then-dead : goal.returns-then-dead
returns-then-dead c = lifeless _ _ c.if-not-known.false c.if-dead.true

pub returns : goal.returns
returns c = sound_ends _ _ c.if-not-known.false c.if-dead.false
