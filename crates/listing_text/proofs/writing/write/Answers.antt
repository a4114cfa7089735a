use Rattle.listing_text.proofs.Puts.{too_short, wrote}
use Rattle.listing_text.proofs.writing.write.Goals as goal

pub returns-then-out-size : goal.returns-then-out-size
returns-then-out-size g c = too_short _ _ _ _ _ c.put-size.ensures c.if-out-size.true

pub returns : goal.returns
returns g c = wrote _ _ _ _ _ c.put-size.ensures c.if-out-size.false _ _ c.put.ensures
