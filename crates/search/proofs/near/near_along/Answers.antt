use Prim.Native.Nat.{◌+◌, ◌*◌}
use mathlib.Core.Path.{refl}
use Rattle.std.proofs.Common.{rules}
use Rattle.search.proofs.NearPlaces.{near_row_law}
use Rattle.search.proofs.near.near_along.Goals as goal

pub returns : goal.returns
returns c = near_row_law _ _ _ _ _ c.args.over _ (c.args.weight * c.hops.result + c.args.over) (c.parts_along-ways.ensures c.requires.0 c.requires.1 c.requires.2 c.requires.3) (rw c.hops.ensures refl) _ (c.row_where.ensures _ (λ i b l e. search rules))
