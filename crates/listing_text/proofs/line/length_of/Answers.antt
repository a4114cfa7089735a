use Rattle.listing_text.proofs.line.length_of.Goals as goal

pub returns-in-Given : goal.returns-in-Given
returns-in-Given c = rw c.in-Given.is
