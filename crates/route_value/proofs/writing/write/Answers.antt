use mathlib.Core.Path.{◌≡◌, sym, ◌∙◌}
use native.Mathlib.Omega.{arith}
use lib.ListN.{length}
use Rattle.numbers.proofs.Refusals.{exit}
use Rattle.theory.proofs.Checks.{refused_here, refused_later}
use Rattle.routes.specs.Layout.{most_entries}
use Rattle.route_value.proofs.Many.{too_many}
use Rattle.route_value.proofs.Writings.{front_whole}
use Rattle.routes.proofs.Sheets.{put_declined}
use Rattle.route_value.proofs.writing.write.Goals as goal

-- `long` is what is known of the parameter's array: it has 4,095 elements.
pub returns-in_err-check : goal.returns-in_err-check
returns-in_err-check c =
    let long : length c.args.routes.entries ≡ most_entries = omega arith in
    rw (exit _ _ c.from_residual.ensures.1)
    (put_declined _ _ _ _ (sym (refused_here _ _ _ c.in_err-check.ensures) ∙ sym (too_many c.args.routes long c.if-count-gt-MOST_ENTRIES.true (omega arith) _ _)))

pub returns-then-count-gt-MOST_ENTRIES : goal.returns-then-count-gt-MOST_ENTRIES
returns-then-count-gt-MOST_ENTRIES c =
    let long : length c.args.routes.entries ≡ most_entries = omega arith in
    put_declined _ _ _ _ (sym (refused_later _ _ c.in_ok-check.ensures) ∙ sym (too_many c.args.routes long c.if-count-gt-MOST_ENTRIES.true (omega arith) _ _))

pub returns : goal.returns
returns c = rw (← front_whole _ _ _ c.encode.ensures) (record { value = c.write_front.ensures.value; number = c.write_front.ensures.number; out_after = c.write_front.ensures.out_after })
