use Rattle.search.specs.BestVia.{askable}
use Rattle.search.proofs.Checked.{ok_number}
use Rattle.search.proofs.best.is_askable.Goals as goal

pub returns : goal.returns
unfolding askable
returns c = rw (c.both-2.ensures, c.both.ensures, c.has_rows.ensures, c.both-sound.ensures, c.is_ok-2.ensures.value, c.is_ok.ensures.value, ok_number _ _ c.check-2.ensures, ok_number _ _ c.check.ensures, c.both-inside.ensures, c.is_within-2.ensures, c.is_within.ensures)
