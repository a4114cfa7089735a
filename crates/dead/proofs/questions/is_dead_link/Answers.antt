use mathlib.Core.Path.{sym, ◌∙◌}
use Rattle.sheet.proofs.Outputs.{number_ok, number_err}
use Rattle.dead.proofs.Answers.{declined_link, no_link, link_answer_law}
use Rattle.dead.proofs.questions.is_dead_link.Goals as goal

pub returns-then-is_err : goal.returns-then-is_err
returns-then-is_err c = declined_link _ _ _ _ _ c.check.ensures (number_err _ (sym c.is_err.ensures.value ∙ c.if-is_err.true))

pub returns-then-not-has_link : goal.returns-then-not-has_link
returns-then-not-has_link c = no_link _ _ _ _ _ c.shape_in-shape.ensures _ c.has_link.ensures c.if-not-has_link.true

pub returns : goal.returns
returns c = link_answer_law _ _ _ _ _ c.shape_in-shape.ensures _ c.has_link.ensures _ c.check.ensures (number_ok _ (sym c.is_err.ensures.value ∙ c.if-is_err.false)) c.if-not-has_link.false _ c.neighbour.ensures _ c.link_in.ensures
