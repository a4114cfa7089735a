use Rattle.search.proofs.Clip.{clipped}
use borrow.Author.Rules.{rules}
use Rattle.search.proofs.lowest.clip.Goals as goal

pub returns : goal.returns
returns c = clipped c.args.len c.args.mask (search rules)
