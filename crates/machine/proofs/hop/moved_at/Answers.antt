use Rattle.machine.proofs.ByCoords.{moved_dim}
use Rattle.machine.proofs.hop.moved_at.Goals as goal

pub returns : goal.returns
returns c = rw (c.in_dim.ensures, c.in_dim-2.ensures, c.in_dim-3.ensures) (moved_dim c.args.shape c.args.at c.args.dir _ _ c.in_dim-p.ensures (rw (c.next_place-next.ensures, c.is_plus.ensures, c.axis_of.ensures)))
