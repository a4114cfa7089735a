use mathlib.Core.Path.{refl}
use Rattle.planner.proofs.Pairs.{all_noted, all_twos}
use Rattle.planner.proofs.listed.routes_from.Goals as goal

pub invariant_of-source : goal.invariant_of-source
invariant_of-source c = let k = c.args.known.now.prepared in record { ready = record { prepared = k; source = c.requires.at; alive = c.requires.source_value; adaptive = c.from_masks-adaptive.ensures _ _ _ _ _ k.of_plan c.requires.at c.requires.ended; deterministic = c.from_masks-deterministic.ensures _ _ _ _ _ k.of_plan c.requires.at c.requires.ended_2 } }

pub list-requires : goal.list-requires
list-requires c = let out = c.from_masks-adaptive.ensures _ _ _ _ _ c.args.known.now.prepared.of_plan c.requires.at c.requires.ended in record { noted = (λ w. (all_noted _ _ _ _ out (c.notes_from.ensures w).0, all_twos _ _ _ _ _ out (c.notes_from.ensures w).1)); most_bytes_in_bounds = c.requires.most_bytes_in_bounds }

pub notes_from-requires : goal.notes_from-requires
notes_from-requires c = record { notes_fresh = refl; twos_len = refl }
