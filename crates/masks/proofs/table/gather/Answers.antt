use mathlib.Core.Path.{◌∙◌}
use native.Mathlib.Omega.{arith}
use Rattle.std.proofs.lemmas.List.{get_or-take, get_or-drop}
use Rattle.masks.proofs.Tables.{blocks_turn, of_table}
use Rattle.masks.proofs.table.gather.Goals as goal

pub loop-k-preserved : goal.loop-k-preserved
loop-k-preserved c = blocks_turn _ _ _ _ _ _ c.loop-k.invariant c.lay.auto.masks c.lay.ensures.here c.lay.ensures.before (λ j l. get_or-take _ _ j 0 (omega arith) ∙ get_or-drop _ _ j 0 ∙ of_table _ _ _ _ _ j l c.dim_at.ensures c.coord.ensures)
