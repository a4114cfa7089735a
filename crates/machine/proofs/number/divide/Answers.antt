use native.Mathlib.Omega.{arith}
use Rattle.machine.proofs.Division.{whole, done}
use Rattle.machine.proofs.number.divide.Goals as goal

pub less_by-four-requires : goal.less_by-four-requires
less_by-four-requires c = let eight = c.less_by-eight.ensures _ (whole c.args.n c.args.d) in omega (arith, eight.few)

pub less_by-two-requires : goal.less_by-two-requires
less_by-two-requires c =
    let eight = c.less_by-eight.ensures _ (whole c.args.n c.args.d) in
    let four = c.less_by-four.ensures _ eight in
    omega (arith, four.few)

pub less_by-requires : goal.less_by-requires
less_by-requires c =
    let eight = c.less_by-eight.ensures _ (whole c.args.n c.args.d) in
    let two = c.less_by-two.ensures _ (c.less_by-four.ensures _ eight) in
    omega (arith, two.few)

pub returns : goal.returns
returns c =
    let eight = c.less_by-eight.ensures _ (whole c.args.n c.args.d) in
    let two = c.less_by-two.ensures _ (c.less_by-four.ensures _ eight) in
    done _ _ _ _ (c.less_by.ensures _ two)
