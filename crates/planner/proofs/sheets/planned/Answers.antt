use Rattle.planner.proofs.Writing.{planned_prepared, planned_at, planned_alive}
use Rattle.planner.proofs.sheets.planned.Goals as goal

pub invariant_of-known : goal.invariant_of-known
invariant_of-known c = record { weighed = c.weights_in.ensures; prepared = planned_prepared _ _ c.requires.source_value _ _ _ _ _ _ c.shape_in-shape.ensures (rw c.as_slice.ensures c.losses-lost.ensures) c.dead_nodes-dead.ensures c.table-adaptive.ensures c.table-deterministic.ensures }

pub routes_from-requires : goal.routes_from-requires
routes_from-requires c = record { at = planned_at _ _ c.requires.source_value _ _ c.shape_in-shape.ensures c.coords-a.ensures; ended = c.ends-adaptive.ensures; ended_2 = c.ends-deterministic.ensures; source_value = planned_alive _ _ c.requires.source_value; most_bytes_in_bounds = c.requires.most_bytes_in_bounds }
