use Rattle.shape.specs.Shape.{coord_of}
use Rattle.machine.specs.ByCoords.{useful_at}
use Rattle.machine.proofs.ByCoords.{in_dim_law}
use Rattle.machine.proofs.hop.useful_at.Goals as goal

pub returns : goal.returns
unfolding useful_at
returns c = rw (c.both.ensures, c.useful.ensures, c.is_plus.ensures, c.axis_of.ensures, c.in_dim-q.ensures, c.in_dim-p.ensures, in_dim_law (coord_of c.args.at) c.args.dir, in_dim_law (coord_of c.args.to) c.args.dir)
