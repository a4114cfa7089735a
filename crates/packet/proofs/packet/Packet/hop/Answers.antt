use mathlib.Core.Path.{sym, ap, ◌∙◌}
use Rattle.std.proofs.lemmas.Result.{err_from_is_err_and}
use Rattle.packet.specs.Steps.{settled}
use Rattle.packet.proofs.Walks.{step_refused, ready_fine, step_arrived, step_declined, step_hopped}
use Rattle.packet.proofs.Stored.{fine_of}
use Rattle.packet.proofs.packet.Packet.hop.Goals as goal

pub returns-in_err-check : goal.returns-in_err-check
returns-in_err-check c = let p = err_from_is_err_and c.from_residual.result c.from_residual.ensures.1 in rw (p.1, p.2) (step_refused _ _ _ _ c.in_err-check.ensures)

pub drop_all-ready-requires : goal.drop_all-ready-requires
drop_all-ready-requires c = (fine_of _ _ (sym c.in_ok-check.ensures)).few

pub front-requires : goal.front-requires
front-requires c = (ready_fine _ _ (fine_of _ _ (sym c.in_ok-check.ensures)) _ c.drop_all-ready.ensures).few

pub returns-in_default : goal.returns-in_default
returns-in_default c = step_arrived _ _ (fine_of _ _ (sym c.in_ok-check.ensures)) _ c.drop_all-ready.ensures _ (sym c.front.ensures ∙ c.in_default.is)

pub returns-then-not-allowed_at : goal.returns-then-not-allowed_at
returns-then-not-allowed_at c = step_declined _ _ (fine_of _ _ (sym c.in_ok-check.ensures)) _ c.drop_all-ready.ensures _ _ (sym c.front.ensures ∙ c.in-Some.is) _ _ c.coords_of-at.ensures c.coords_of-to.ensures _ c.allowed_at.ensures c.if-not-allowed_at.true

pub drop_all-requires : goal.drop_all-requires
drop_all-requires c = rw c.put-moved.ensures (ready_fine _ _ (fine_of _ _ (sym c.in_ok-check.ensures)) _ c.drop_all-ready.ensures).few

pub returns : goal.returns
returns c = step_hopped _ _ (fine_of _ _ (sym c.in_ok-check.ensures)) _ c.drop_all-ready.ensures _ _ (sym c.front.ensures ∙ c.in-Some.is) _ _ c.coords_of-at.ensures c.coords_of-to.ensures _ c.allowed_at.ensures c.if-not-allowed_at.false _ _ _ c.moved_at.ensures c.number_at.ensures (c.drop_all.ensures ∙ ap settled c.put-moved.ensures)
