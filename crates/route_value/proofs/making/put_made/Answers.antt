use native.Mathlib.Omega.{arith}
use mathlib.Core.Path.{sym}
use lib.Seq.{length-take-le}
use Rattle.route_value.proofs.InPlace.{too_many, too_short, whole_made}
use borrow.Author.Rules.{rules}
use Rattle.route_value.proofs.making.put_made.Goals as goal

pub returns-then-n-gt-MOST_ENTRIES : goal.returns-then-n-gt-MOST_ENTRIES
returns-then-n-gt-MOST_ENTRIES c = too_many _ _ _ _ (omega arith)

pub returns-then-bytes-size : goal.returns-then-bytes-size
returns-then-bytes-size c = too_short _ _ _ _ (omega arith)

pub slice_bounds-put_sheet-end-2 : goal.slice_bounds-put_sheet-end-2
slice_bounds-put_sheet-end-2 c = sym (length-take-le _ _ (search rules))

pub returns : goal.returns
returns c = whole_made _ _ _ _ _ c.put_head.ensures _ _ (omega arith) (omega arith) (record { value = c.put_sheet.ensures.value; number = c.put_sheet.ensures.number; out_after = c.put_sheet.ensures.out_after })
