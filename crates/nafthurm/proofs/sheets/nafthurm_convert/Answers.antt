use mathlib.Core.Path.{◌∙◌}
use Rattle.nafthurm.proofs.Numbers.{converted_number}
use Rattle.nafthurm.proofs.sheets.nafthurm_convert.Goals as goal

pub returns : goal.returns
returns c = record {
  value = c.into.ensures ∙ rw (c.convert.ensures.written_value, c.convert.ensures.result_value);
  number = converted_number _ _ _ c.into.ensures ∙ c.convert.ensures.number;
  out_after = c.convert.ensures.out_after;
}
