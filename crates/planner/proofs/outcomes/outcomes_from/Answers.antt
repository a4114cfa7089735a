use mathlib.Core.Path.{refl}
use mathlib.Core.Logic.{inl}
use Rattle.planner.proofs.Writing.{planned_prepared, planned_at, planned_alive}
use Rattle.planner.proofs.outcomes.outcomes_from.Goals as goal

pub invariant_of-known : goal.invariant_of-known
invariant_of-known c = record { weighed = c.weights_in.ensures; prepared = planned_prepared _ _ c.requires _ _ _ _ _ _ c.shape_in-shape.ensures (rw c.as_slice.ensures c.losses-lost.ensures) c.put_dead.ensures c.put_table.ensures c.put_table-2.ensures }

pub outcomes_by-requires : goal.outcomes_by-requires
outcomes_by-requires c = record { at = planned_at _ _ c.requires _ _ c.shape_in-shape.ensures c.coords.ensures; source_value = planned_alive _ _ c.requires; work = inl refl }
