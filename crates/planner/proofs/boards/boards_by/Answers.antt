use Rattle.planner.proofs.boards.boards_by.Goals as goal

pub boards_from-requires : goal.boards_from-requires
boards_from-requires c = record { masked = (c.put_table.ensures, c.put_table-2.ensures); all_value = c.requires }
