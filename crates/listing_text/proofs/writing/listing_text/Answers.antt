use native.Mathlib.Omega.{arith}
use mathlib.Core.Path.{sym, ◌∙◌}
use Rattle.listing_text.proofs.Sources.{rest, long_input}
use Rattle.listing_text.proofs.Texts.{head_small, refused_text, planned_text}
use Rattle.listing_text.proofs.writing.listing_text.Goals as goal

pub returns-in-Err : goal.returns-in-Err
returns-in-Err c =
    let t = refused_text c.args.input.now c.in-Err.refusal (rw c.in-Err.is at c.check_listing.ensures) in
    record { value = rw t at c.write.ensures.value; number = rw t at c.write.ensures.number; out_after = rw t at c.write.ensures.out_after }

pub slice_bounds-plan-start : goal.slice_bounds-plan-start
slice_bounds-plan-start c = omega (arith, long_input _ (sym c.in-Ok.ensures))

pub slice_bounds-plan-count : goal.slice_bounds-plan-count
slice_bounds-plan-count c = long_input _ (sym c.in-Ok.ensures)

pub returns-in-Ok : goal.returns-in-Ok
returns-in-Ok c =
    let i = c.args.input.now in
    let t = planned_text i (sym c.in-Ok.ensures) _ _ _ _ (rest i) c.source_in-source.ensures c.head_of.ensures c.outcomes-all.ensures.value in
    record { value = rw t at c.write-in-Ok.ensures.value; number = rw t at c.write-in-Ok.ensures.number; out_after = rw t at c.write-in-Ok.ensures.out_after }

pub invariant_of-write : goal.invariant_of-write
invariant_of-write c = record { few = head_small _ _ _ c.head_of.ensures }
