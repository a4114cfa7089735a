use Rattle.listing_text.proofs.Lines.{refusal_put}
use Rattle.listing_text.proofs.refusal.put_refusal.Goals as goal

pub returns : goal.returns
returns c = refusal_put _ c.text.ensures c.field.ensures.wrote
