use mathlib.Core.Path.{refl}
use mathlib.Core.Logic.{inl}
use Rattle.planner.proofs.Destination.{dest_small}
use Rattle.planner.proofs.Pairs.{all_noted}
use Rattle.planner.proofs.pair.far_by_notes.Goals as goal

pub note_of-note-requires : goal.note_of-note-requires
note_of-note-requires c = let k = c.args.target.now in dest_small k.source.now.ready k.node_at

pub returns : goal.returns
returns c = let out = c.args.target.now.source.now.ready.adaptive in c.far_to.ensures (inl c.requires.work_len) (all_noted _ _ _ _ out (c.notes_from.ensures (inl c.requires.work_len)).0) c.requires.blocked

pub notes_from-requires : goal.notes_from-requires
notes_from-requires c = record { notes_fresh = refl; twos_len = refl }
