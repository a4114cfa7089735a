use mathlib.Core.Path.{sym, ◌∙◌}
use Rattle.planner.proofs.Pairs.{refused_pair, known, from_at, to_at, source_alive, paired}
use Rattle.planner.proofs.pair.pair.Goals as goal

pub returns-in-Err : goal.returns-in-Err
returns-in-Err c = refused_pair _ _ _ _ c.in-Err.ensures

pub invariant_of-two : goal.invariant_of-two
invariant_of-two c = let zero = sym c.in_default.ensures in record { weighed = c.weights_in.ensures; of_plan = known _ _ _ zero _ c.shape_in-shape.ensures _ _ (rw c.as_slice.ensures c.losses-lost.ensures); from = from_at _ _ _ zero _ c.shape_in-shape.ensures _ c.coords.ensures; to = to_at _ _ _ zero _ c.shape_in-shape.ensures _ c.coords-2.ensures; alive = source_alive _ _ _ zero }

pub returns : goal.returns
returns c = paired _ _ _ (sym c.in_default.ensures) _ c.route.ensures
