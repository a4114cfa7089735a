use native.Mathlib.Omega.{arith}
use Rattle.packet.specs.New.{legs_to}
use Rattle.choice.specs.Choice.{vias_of, modes_of}
use Rattle.routes.specs.Kinds.{bits_of, kind_of}
use Rattle.routes.proofs.kinds.kind_direct.Goals as goal

pub returns : goal.returns
unfolding kind_of bits_of legs_to vias_of modes_of
returns c = λ d. omega (arith, c.bit.ensures.value)
