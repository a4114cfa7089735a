use mathlib.Core.Path.{refl}
use Rattle.planner.proofs.pair.further.Goals as goal

pub by_notes-requires : goal.by_notes-requires
by_notes-requires c = record { work_len = refl; direct = c.requires.direct }
