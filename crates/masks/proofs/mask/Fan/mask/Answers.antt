use native.Mathlib.Omega.{arith}
use Rattle.masks.proofs.Columns.{column_0, column_1, column_2, column_3, column_4, column_5}
use Rattle.masks.proofs.mask.Fan.mask.Goals as goal

pub returns-in-0 : goal.returns-in-0
returns-in-0 c = column_0 _ _ _ _ _ _ _ _ c.in-0.is c.before_row.ensures

pub returns-in-1 : goal.returns-in-1
returns-in-1 c = column_1 _ _ _ _ _ _ _ _ c.in-1.is c.takes_row.ensures

pub returns-in-2 : goal.returns-in-2
returns-in-2 c = column_2 _ _ _ _ _ _ _ _ c.in-2.is c.takes_row-in-2.ensures

pub returns-in-3 : goal.returns-in-3
returns-in-3 c = column_3 _ _ _ _ _ _ _ _ c.in-3.is c.behind_row.ensures

pub returns-in-4 : goal.returns-in-4
returns-in-4 c = column_4 _ _ _ _ _ _ _ _ c.in-4.is c.link_row.ensures

pub returns-in_default : goal.returns-in_default
returns-in_default c = column_5 _ _ _ _ _ _ _ _ (λ e. omega arith) (λ e. omega arith) (λ e. omega arith) (λ e. omega arith) (λ e. omega arith) c.links_row.ensures
