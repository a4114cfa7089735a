use mathlib.Core.Path.{sym, ◌∙◌}
use Rattle.std.proofs.lemmas.Result.{err_from_is_err_and}
use Rattle.packet.proofs.Stored.{fine_of}
use Rattle.packet.proofs.LastHop.{back_refused, back_here, back_first, back_past, back_off, back_done}
use Rattle.packet.proofs.packet.Packet.hop_back.Goals as goal

pub returns-in_err-check : goal.returns-in_err-check
returns-in_err-check c = let p = err_from_is_err_and c.from_residual.result c.from_residual.ensures.1 in rw (p.1, p.2) (back_refused _ _ _ _ c.in_err-check.ensures)

pub ends_here-requires : goal.ends_here-requires
ends_here-requires c = (fine_of _ _ (sym c.in_ok-check.ensures)).few

pub returns-then-ends_here : goal.returns-then-ends_here
returns-then-ends_here c = back_here _ _ _ (fine_of _ _ (sym c.in_ok-check.ensures)) (sym c.ends_here.ensures ∙ c.if-ends_here.true)

pub last_leg-requires : goal.last_leg-requires
last_leg-requires c = let f = fine_of _ _ (sym c.in_ok-check.ensures) in (f.mark, f.few)

pub returns-in_default : goal.returns-in_default
returns-in_default c = back_first _ _ _ (fine_of _ _ (sym c.in_ok-check.ensures)) (sym c.ends_here.ensures ∙ c.if-ends_here.false) (sym c.last_leg.ensures ∙ c.in_default.is)

pub returns-then-self-last : goal.returns-then-self-last
returns-then-self-last c = back_past _ _ _ (fine_of _ _ (sym c.in_ok-check.ensures)) (sym c.ends_here.ensures ∙ c.if-ends_here.false) _ (sym c.last_leg.ensures ∙ c.in-Some.is) c.if-self-last.true

pub came_on-requires : goal.came_on-requires
came_on-requires c = (fine_of _ _ (sym c.in_ok-check.ensures), c.if-self-last.false)

pub returns-then-not-came_on : goal.returns-then-not-came_on
returns-then-not-came_on c = back_off _ _ _ (fine_of _ _ (sym c.in_ok-check.ensures)) (sym c.ends_here.ensures ∙ c.if-ends_here.false) _ (sym c.last_leg.ensures ∙ c.in-Some.is) c.if-self-last.false _ _ _ c.coords_of.ensures c.opposite.ensures c.moved_at-from.ensures (sym c.came_on.ensures ∙ c.if-not-came_on.true)

pub returns : goal.returns
returns c = back_done _ _ _ (fine_of _ _ (sym c.in_ok-check.ensures)) (sym c.ends_here.ensures ∙ c.if-ends_here.false) _ (sym c.last_leg.ensures ∙ c.in-Some.is) c.if-self-last.false _ _ _ c.coords_of.ensures c.opposite.ensures c.moved_at-from.ensures (sym c.came_on.ensures ∙ c.if-not-came_on.false) _ _ c.number_at.ensures c.put.ensures
