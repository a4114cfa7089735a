use mathlib.Core.Path.{sym, ◌∙◌}
use Rattle.routes.proofs.Sheets.{failed, stood}
use Rattle.routes.proofs.Lookups.{declined_part, unlisted_part, listed_part}
use Rattle.routes.proofs.lookup.entry_part.Goals as goal

both : {A B : Type 0} → A × B → record { value : A; size_in_bounds : B }
both p = record { value = p.0; size_in_bounds = p.1 }

pub returns-then-is_err : goal.returns-then-is_err
returns-then-is_err c = both (declined_part _ _ _ _ (failed _ _ c.check_lookup.ensures (sym c.is_err.ensures.value ∙ c.if-is_err.true)))

pub returns-in_default : goal.returns-in_default
returns-in_default c = both (unlisted_part _ _ _ _ (stood _ _ c.check_lookup.ensures (sym c.is_err.ensures.value ∙ c.if-is_err.false)) (sym c.in_default.is ∙ c.find_entry.ensures))

pub returns : goal.returns
returns c =
    both (rw (c.entry_size.ensures, c.entry_place.ensures.value, c.format_in-format.ensures)
    (listed_part _ _ _ _ (stood _ _ c.check_lookup.ensures (sym c.is_err.ensures.value ∙ c.if-is_err.false)) _ c.in-Some.ensures))
