use mathlib.Core.Path.{sym, ◌∙◌}
use Rattle.conversion.proofs.Judging.{wrong_sheet, sheet_judged}
use Rattle.theory.proofs.Bools.{and_true}
use Rattle.conversion.proofs.judge.judge_sheet.Goals as goal

pub returns-then-not-both : goal.returns-then-not-both
returns-then-not-both c = wrong_sheet _ _ _ c.source_in-source.ensures (rw (← c.old_head.ensures, ← c.is_node.ensures) (sym c.both.ensures ∙ c.if-not-both.true))

pub judge_entries-requires : goal.judge_entries-requires
judge_entries-requires c = rw (← c.is_node.ensures) ((and_true _ _ (sym c.both.ensures ∙ c.if-not-both.false)).1)

pub returns : goal.returns
returns c = sheet_judged _ _ _ c.source_in-source.ensures (rw (← c.old_head.ensures, ← c.is_node.ensures) (sym c.both.ensures ∙ c.if-not-both.false)) _ c.judge_entries.ensures
