use Rattle.listing_text.proofs.line.second_by.Goals as goal

pub returns-in-Vias : goal.returns-in-Vias
returns-in-Vias c = rw c.in-Vias.is
