use native.Mathlib.Omega.{arith}
use Rattle.search.proofs.Scatter.{part_most}
use Rattle.search.proofs.parts.part.Goals as goal

pub overflow_add-result : goal.overflow_add-result
overflow_add-result c = omega (arith, part_most c.args.axis.len c.args.axis.ring c.args.p c.args.q c.args.c c.requires.0 c.requires.1 c.requires.2 c.requires.3, c.hops.ensures, c.hops-2.ensures)

pub returns : goal.returns
returns c = (rw (c.hops-2.ensures, c.hops.ensures), omega (arith, part_most c.args.axis.len c.args.axis.ring c.args.p c.args.q c.args.c c.requires.0 c.requires.1 c.requires.2 c.requires.3, c.hops.ensures, c.hops-2.ensures))
