use mathlib.Core.Path.{sym}
use Rattle.numbers.proofs.Refusals.{exit}
use Rattle.routes.proofs.Sheets.{put_declined}
use Rattle.route_value.proofs.Back.{short, has_room, put}
use Rattle.route_value.proofs.writing.write_back.Goals as goal

both : {A B : Type 0} → A × B → record { sheet_bound : A; sheet_in_bounds : B }
both p = record { sheet_bound = p.0; sheet_in_bounds = p.1 }

pub returns-in_err-check : goal.returns-in_err-check
returns-in_err-check c = rw (exit _ _ c.from_residual.ensures.1) (put_declined _ _ _ _ c.in_err-check.ensures)

pub returns-then-out-size : goal.returns-then-out-size
returns-then-out-size c = short _ _ _ _ (sym c.in_ok-check.ensures) _ c.count_in.ensures c.if-out-size.true

pub encode_again-requires : goal.encode_again-requires
encode_again-requires c = both (has_room _ _ _ c.args.out.now (sym c.in_ok-check.ensures) _ c.count_in.ensures c.if-out-size.false)

pub returns : goal.returns
returns c = put _ _ _ _ (sym c.in_ok-check.ensures) _ c.count_in.ensures c.if-out-size.false _ c.encode_again.ensures
