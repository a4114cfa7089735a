use mathlib.Core.Path.{sym, ◌∙◌}
use Rattle.routes.proofs.Lookups.{refused, refused_number, said_found, found_number, said_direct, direct_number}
use Rattle.routes.proofs.route.route.Goals as goal

pub returns-in-Err : goal.returns-in-Err
returns-in-Err c = record {
  value = refused _ _ _ _ _ c.in-Err.ensures;
  number = refused_number _ _ _ _ _ c.in-Err.ensures;
}

pub returns-in_default-found : goal.returns-in_default-found
returns-in_default-found c = record {
  value = rw (c.distance-length.ensures.value, c.weights_in-weights.ensures, c.shape_in-shape.ensures, c.source_in-source.ensures) (said_direct _ _ _ _ (sym c.in_default.ensures) (sym c.in_default-found.is ∙ c.found_in-found.ensures));
  number = direct_number _ _ _ _ (sym c.in_default.ensures) (sym c.in_default-found.is ∙ c.found_in-found.ensures);
}

pub returns : goal.returns
returns c = record {
  value = rw (c.outcome_by.ensures, c.length_by.ensures, c.weights_in-weights.ensures, c.shape_in-shape.ensures, c.source_in-source.ensures) (said_found _ _ _ _ (sym c.in_default.ensures) _ (sym c.in-Some.is ∙ c.found_in-found.ensures));
  number = rw c.outcome_by.ensures (found_number _ _ _ _ (sym c.in_default.ensures) _ (sym c.in-Some.is ∙ c.found_in-found.ensures) _);
}
