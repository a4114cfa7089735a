use mathlib.Core.Path.{ap, ◌∙◌}
use Rattle.nafthurm.specs.Forms.{written_for}
use Rattle.nafthurm.proofs.Numbers.{written_number}
use Rattle.nafthurm.proofs.listings.nafthurm_listing.Goals as goal

pub returns : goal.returns
returns c = record {
  value = c.into.ensures ∙ ap written_for c.listing_text.ensures.value;
  number = written_number _ _ c.into.ensures ∙ c.listing_text.ensures.number;
  out_after = c.listing_text.ensures.out_after;
}
