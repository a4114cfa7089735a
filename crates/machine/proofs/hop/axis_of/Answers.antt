use Rattle.shape.specs.Shape.{extent_of}
use Rattle.machine.proofs.ByCoords.{in_dim_law, wrapped_dim}
use Rattle.machine.proofs.hop.axis_of.Goals as goal

pub returns : goal.returns
returns c = rw (c.in_dim.ensures, c.in_dim-2.ensures, in_dim_law (extent_of c.args.shape) c.args.dir, wrapped_dim c.args.shape c.args.dir)
