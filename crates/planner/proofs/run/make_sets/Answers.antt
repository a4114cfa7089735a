use borrow.Author.Rules.{rules}
use native.Mathlib.Omega.{arith}
use mathlib.Core.Path.{sym, ◌∙◌}
use Rattle.sheet.proofs.Outputs.{number_ok, number_err}
use Rattle.planner.proofs.Checking.{all_boards, declined_sets, few_sets, made_sets}
use Rattle.planner.proofs.run.make_sets.Goals as goal

pub returns-then-is_err : goal.returns-then-is_err
returns-then-is_err c = declined_sets _ _ _ c.check.ensures (number_err _ (sym c.is_err.ensures.value ∙ c.if-is_err.true))

pub returns-then-work-words_for : goal.returns-then-work-words_for
returns-then-work-words_for c = few_sets _ _ (sym c.check.ensures ∙ number_ok _ (sym c.is_err.ensures.value ∙ c.if-is_err.false)) _ _ _ c.shape_in.ensures c.count-all.ensures c.words_for.ensures (omega arith)

pub fill_boards-requires : goal.fill_boards-requires
fill_boards-requires c = let ok = sym c.check.ensures ∙ number_ok _ (sym c.is_err.ensures.value ∙ c.if-is_err.false) in (ok, all_boards _ ok _ _ c.shape_in.ensures c.count-all.ensures, omega (arith, c.words_for.ensures))

pub returns : goal.returns
returns c = made_sets _ _ (sym c.check.ensures ∙ number_ok _ (sym c.is_err.ensures.value ∙ c.if-is_err.false)) _ _ _ c.shape_in.ensures c.count-all.ensures c.words_for.ensures (omega arith) _ (search rules) c.fill_boards.ensures
