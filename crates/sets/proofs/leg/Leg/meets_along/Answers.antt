use Rattle.sets.specs.Part.{cell_in}
use Rattle.sets.proofs.Legs.{dim_back}
use Rattle.sets.proofs.leg.Leg.meets_along.Goals as goal

pub returns : goal.returns
unfolding cell_in
returns c = rw (c.cell.ensures, c.place.ensures.value, c.column.ensures.value, c.coord-2.ensures, c.coord.ensures, c.axis.ensures, dim_back c.args.d)
