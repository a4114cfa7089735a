use mathlib.Core.Path.{ap, ◌∙◌}
use Rattle.nafthurm.specs.Forms.{written_for}
use Rattle.nafthurm.proofs.Numbers.{written_number}
use Rattle.nafthurm.proofs.planning.nafthurm_write_sheet.Goals as goal

pub returns : goal.returns
returns c = record {
  value = c.into.ensures ∙ ap written_for c.write_sheet.ensures.value;
  number = written_number _ _ c.into.ensures ∙ c.write_sheet.ensures.number;
  out_after = c.write_sheet.ensures.out_after;
}
