use mathlib.Core.List.{[]}
use native.Mathlib.Omega.{arith}
use lib.ListN.{get_or-eq_default}
use borrow.Author.Tests.{ne_eqb}
use Rattle.numbers.specs.Numbers.{dead_end, no_clear_choice}
use Rattle.routes.specs.Kinds.{bits_of, refused_kind, old_kinds, from_old}
use Rattle.routes.proofs.kinds.from_old.Goals as goal

pub returns-in-0 : goal.returns-in-0
unfolding from_old bits_of
returns-in-0 c = rw c.in-0.is

pub returns-in-1 : goal.returns-in-1
unfolding from_old bits_of
returns-in-1 c = rw c.in-1.is

pub returns-in-2 : goal.returns-in-2
unfolding from_old bits_of
returns-in-2 c = rw c.in-2.is

pub returns-in-3 : goal.returns-in-3
unfolding from_old bits_of
returns-in-3 c = rw c.in-3.is

pub returns-in-4 : goal.returns-in-4
unfolding from_old bits_of
returns-in-4 c = rw c.in-4.is

pub returns-in-5 : goal.returns-in-5
unfolding from_old bits_of
returns-in-5 c = rw c.in-5.is

pub returns-in-10 : goal.returns-in-10
unfolding from_old refused_kind
returns-in-10 c = rw c.in-10.is

pub returns-in-11 : goal.returns-in-11
unfolding from_old refused_kind
returns-in-11 c = rw c.in-11.is

pub returns-in_default : goal.returns-in_default
unfolding from_old refused_kind
returns-in_default c = rw (get_or-eq_default old_kinds [] {n = c.args.kind} (omega arith), ne_eqb c.args.kind dead_end (λ z. omega arith), ne_eqb c.args.kind no_clear_choice (λ z. omega arith))
