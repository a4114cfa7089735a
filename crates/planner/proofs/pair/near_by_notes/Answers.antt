use mathlib.Core.Path.{refl, sym}
use mathlib.Core.Logic.{inl}
use Rattle.planner.proofs.Destination.{dest_small}
use Rattle.planner.proofs.Pairs.{pair_two, pair_own}
use Rattle.planner.proofs.pair.near_by_notes.Goals as goal

pub bounds-twos-target : goal.bounds-twos-target
bounds-twos-target c = let k = c.args.target.now in dest_small k.source.now.ready k.node_at

pub note_of-requires : goal.note_of-requires
note_of-requires c = let k = c.args.target.now in dest_small k.source.now.ready k.node_at

pub returns : goal.returns
returns c =
    let k = c.args.target.now in
    let source = k.source.now in
    let of-plan = source.ready.prepared.of_plan in
    let beside = c.beside-skip.ensures _ _ _ (record { plan = of-plan.plan; shape = of-plan.shape; source = source.ready.source; target = k.node_at }) in
    let made = c.notes_from.ensures (inl c.requires.work_len) in
    let own = pair_own _ _ _ k.node_at.node _ _ beside made.0 in
    c.near_to.ensures (rw (sym c.note_of.ensures) at own) (λ over. pair_two _ _ _ k.node_at.node _ _ beside _ c.requires.direct made.1 (rw c.note_of.ensures at over))

pub notes_from-requires : goal.notes_from-requires
notes_from-requires c = record { notes_fresh = refl; twos_len = refl }
