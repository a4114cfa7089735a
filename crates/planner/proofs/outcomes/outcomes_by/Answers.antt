use mathlib.Core.Path.{refl}
use Rattle.planner.proofs.Pairs.{all_noted, all_twos}
use Rattle.planner.proofs.outcomes.outcomes_by.Goals as goal

pub all_outcomes-requires : goal.all_outcomes-requires
all_outcomes-requires c = let k = c.args.known.now.prepared.of_plan in let out = c.from_set-adaptive.ensures _ _ k c.requires.at in record { work = c.requires.work; noted = (all_noted _ _ _ _ out (c.notes_from.ensures c.requires.work).0, all_twos _ _ _ _ _ out (c.notes_from.ensures c.requires.work).1) }

pub notes_from-requires : goal.notes_from-requires
notes_from-requires c = record { notes_fresh = refl; twos_len = refl }
