use mathlib.Core.Path.{ap, ◌∙◌}
use Rattle.nafthurm.specs.Forms.{run_for}
use Rattle.nafthurm.proofs.Numbers.{run_number_law}
use Rattle.nafthurm.proofs.planning.nafthurm_all_sheets.Goals as goal

pub returns : goal.returns
returns c =
    let run = c.write_run.ensures in
    record {
      value = c.into.ensures ∙ ap run_for run.answer;
      number = run_number_law _ _ _ _ _ run.answer run.number _ c.into.ensures;
      out_after = run.output;
      work_unchanged = run.kept;
    }
