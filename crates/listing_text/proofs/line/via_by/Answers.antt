use Rattle.listing_text.proofs.line.via_by.Goals as goal

pub returns-in-Via : goal.returns-in-Via
returns-in-Via c = rw c.in-Via.is

pub returns-in-Vias : goal.returns-in-Vias
returns-in-Vias c = rw c.in-Vias.is
