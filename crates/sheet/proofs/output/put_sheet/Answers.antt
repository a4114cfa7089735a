use mathlib.Core.Path.{refl, sym, ap, ◌∙◌}
use Rattle.numbers.specs.Refusals.{answer_number}
use Rattle.numbers.proofs.Refusals.{exit}
use Rattle.sheet.proofs.Outputs.{refused, not_0, unread, no_room, copied}
use Rattle.sheet.proofs.output.put_sheet.Goals as goal

pub returns-in_err-checked : goal.returns-in_err-checked
returns-in_err-checked c =
    let e = ap answer_number (sym c.in_err-checked.was) in
    rw (exit _ _ c.from_residual.ensures.1) (refused _ _ c.args.s.now c.args.out.now (e ∙ sym (unread _ _ _ (λ z. not_0 _ (e ∙ z)))))

pub returns-then-out-s : goal.returns-then-out-s
returns-then-out-s c = refused _ _ _ _ (sym (no_room _ _ _ (ap answer_number c.in_ok-checked.was) c.if-out-s.true))

pub returns : goal.returns
returns c = copied _ _ _ (ap answer_number c.in_ok-checked.was) c.if-out-s.false _ _ refl c.copy.ensures
