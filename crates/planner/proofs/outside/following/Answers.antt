use native.Mathlib.Omega.{arith}
use Rattle.planner.proofs.Standing.{small, node_small, next_in_row, next_row}
use Rattle.planner.proofs.outside.following.Goals as goal

pub overflow_add-result : goal.overflow_add-result
overflow_add-result c = omega (arith, node_small _ c.requires.shape_value _ c.requires.stands c.requires.x_lt_x.0 c.requires.x_lt_x.1)

pub returns-then-at-shape : goal.returns-then-at-shape
returns-then-at-shape c = next_in_row _ c.requires.shape_value _ c.requires.stands c.requires.x_lt_x.0 c.requires.x_lt_x.1 c.if-at-shape.true

pub overflow_add-result-2 : goal.overflow_add-result-2
overflow_add-result-2 c = omega (arith, node_small _ c.requires.shape_value _ c.requires.stands c.requires.x_lt_x.0 c.requires.x_lt_x.1)

pub next_y-requires : goal.next_y-requires
next_y-requires c = (small _ c.requires.shape_value _ c.requires.stands c.requires.x_lt_x.0 c.requires.x_lt_x.1).1

pub next_z-requires : goal.next_z-requires
next_z-requires c = let b = small _ c.requires.shape_value _ c.requires.stands c.requires.x_lt_x.0 c.requires.x_lt_x.1 in (b.1, b.2)

pub returns : goal.returns
returns c = next_row _ c.requires.shape_value _ c.requires.stands c.requires.x_lt_x.0 c.requires.x_lt_x.1 c.if-at-shape.false _ _ c.next_y.ensures c.next_z.ensures
