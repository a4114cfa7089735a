use Rattle.planner.proofs.boards.fill_boards.Goals as goal

pub fill-requires : goal.fill-requires
fill-requires c = (c.requires.1, c.requires.2)

pub returns : goal.returns
returns c = c.fill.ensures
