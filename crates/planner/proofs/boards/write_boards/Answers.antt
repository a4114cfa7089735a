use native.Mathlib.Omega.{arith}
use mathlib.Core.Logic.{inr}
use Rattle.planner.proofs.boards.write_boards.Goals as goal

pub fill-requires : goal.fill-requires
fill-requires c = (c.requires.1, c.requires.2)

pub boards_by-requires : goal.boards_by-requires
boards_by-requires c = (c.requires.3, c.requires.1)

pub returns : goal.returns
returns c = c.boards_by.ensures (inr c.fill.ensures)
