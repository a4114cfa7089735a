use Rattle.listing_text.proofs.Texts.{text_put}
use Rattle.listing_text.proofs.said.RoutesSaid.put.Goals as goal

pub returns : goal.returns
returns c = text_put _ _ c.put_header.ensures.wrote c.put_lines.ensures
