use Rattle.planner.proofs.pair.by_notes.Goals as goal

pub returns-in-Some : goal.returns-in-Some
returns-in-Some c = c.near_by_notes.ensures.given _ c.in-Some.is

pub far_by_notes-requires : goal.far_by_notes-requires
far_by_notes-requires c = record { work_len = c.requires.work_len; direct = c.requires.direct; blocked = c.near_by_notes.ensures.none c.in_default.is }
