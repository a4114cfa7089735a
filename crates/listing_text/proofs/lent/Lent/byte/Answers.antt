use mathlib.Core.Path.{refl}
use Rattle.listing_text.proofs.Puts.{wrote_one}
use Rattle.listing_text.proofs.lent.Lent.byte.Goals as goal

pub returns : goal.returns
returns c = wrote_one _ _ _ refl c.put_byte.ensures refl
