use Rattle.std.proofs.Common.{arith, sym, ◌∙◌}
use Rattle.all_sheets.proofs.AllRuns.{goes_on}
use Rattle.sheets.proofs.Going.{of_each}
use Rattle.sheets.proofs.job.Sets.write_next.Goals as goal

pub returns : goal.returns
returns g c =
    let on = (goes_on _ _ _ _ _ (sym (c.run_of_input.ensures.run_written c.args.self.filled).answer ∙ c.in-Ok.is)).0 in
    record { onward = omega (arith, on); written = of_each _ on }
