use native.Mathlib.Omega.{arith}
use Rattle.listing_text.proofs.Sources.{no_source, read_source}
use Rattle.listing_text.proofs.checks.check_listing.Goals as goal

pub returns-then-input-lt2 : goal.returns-then-input-lt2
returns-then-input-lt2 c = no_source c.args.input.now (omega arith)

pub returns : goal.returns
returns c = read_source c.args.input.now c.source_in.result _ (omega arith) c.source_in.ensures c.check_source.ensures
