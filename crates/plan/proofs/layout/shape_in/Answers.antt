use Rattle.plan.specs.Layout.{shape_of}
use Rattle.plan.proofs.layout.shape_in.Goals as goal

pub returns : goal.returns
unfolding shape_of
returns c = rw (c.byte_at-4.ensures, c.byte_at-3.ensures, c.byte_at-2.ensures, c.byte_at.ensures)
