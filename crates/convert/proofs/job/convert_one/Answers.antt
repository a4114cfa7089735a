use mathlib.Core.Path.{◌∙◌}
use Rattle.convert.proofs.Tallies.{one_sheet}
use Rattle.convert.proofs.job.convert_one.Goals as goal

pub returns : goal.returns
returns c =
    let e = c.convert-converted.ensures in
    c.going.ensures ∙ one_sheet _ _ _ _ c.requires _ _ e.number e.result_value _ _ c.add-tally.ensures
