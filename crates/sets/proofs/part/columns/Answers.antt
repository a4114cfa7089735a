use Rattle.sets.specs.Part.{columns}
use Rattle.sets.proofs.part.columns.Goals as goal

pub returns-in-X : goal.returns-in-X
unfolding columns
returns-in-X c = rw c.in-X.is

pub returns-in-Y : goal.returns-in-Y
unfolding columns
returns-in-Y c = rw c.in-Y.is

pub returns-in-Z : goal.returns-in-Z
unfolding columns
returns-in-Z c = rw c.in-Z.is
