use native.Mathlib.Omega.{arith}
use Rattle.std.proofs.Common.{rules}
use Rattle.std.proofs.lemmas.Iterator.{YieldsList-from_slice}
use Rattle.std.proofs.lemmas.Iterator.Search.{any_from_yields_List}
use Rattle.packet.proofs.Drops.{any_outside}
use Rattle.packet.proofs.packet.Packet.leg_outside.Goals as goal

pub returns : goal.returns
returns c = any_outside c.args.nodes c.args.self _ (let h = c.well_formed in omega (arith, c.requires)) (any_from_yields_List _ _ _ _ c.any.ensures.ran (YieldsList-from_slice _ c.iter.ensures.rest) (λ x b q k. search rules))
