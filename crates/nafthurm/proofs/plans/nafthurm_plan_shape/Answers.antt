use Rattle.nafthurm.proofs.plans.nafthurm_plan_shape.Goals as goal

pub returns : goal.returns
returns c = rw (← c.shape_of.ensures) c.into.ensures
