use native.Mathlib.Omega.{arith}
use mathlib.Core.Path.{sym, ◌∙◌}
use borrow.Author.Tests.{eqb-false}
use Rattle.notes.proofs.Destination.{gathered_at}
use Rattle.planner.proofs.NearRows.{none_near, sifted_row}
use Rattle.planner.proofs.sifted.sift_row.Goals as goal

pub returns-then-not-is_empty-clause-near_row : goal.returns-then-not-is_empty-clause-near_row
returns-then-not-is_empty-clause-near_row c = λ D to long. none_near _ _ _ _ _ _ _ (eqb-false _ 0 (sym c.is_empty.ensures ∙ c.if-not-is_empty.true))

pub returns-clause-near_row : goal.returns-clause-near_row
returns-clause-near_row c = λ D to long. let g = c.args.source.now.ready in let k = g.prepared.of_plan in sifted_row _ _ _ _ k _ _ g.source D _ to _ (gathered_at _ _ D _ _ c.gather-masks.result k.plan to _ _ g.prepared.adaptive c.gather-masks.ensures) _ c.box_of-between.ensures _ _ _ long c.sift.ensures _
