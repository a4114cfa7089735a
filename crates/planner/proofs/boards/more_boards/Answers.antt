use mathlib.Core.Logic.{inr}
use Rattle.planner.proofs.boards.more_boards.Goals as goal

pub boards_by-requires : goal.boards_by-requires
boards_by-requires c = (c.requires.3, c.requires.1)

pub returns : goal.returns
returns c = λ filled. c.boards_by.ensures (inr filled)
