use Rattle.nafthurm.proofs.plans.nafthurm_plan_weights.Goals as goal

pub returns : goal.returns
returns c = rw (← c.weights_of.ensures) c.into.ensures
