use mathlib.Core.Path.{refl}
use borrow.Author.Tests.{lt-ltb, le-ltb, lt-leb, le-leb}
use Rattle.planner.specs.Ranked.{due_in}
use Rattle.planner.proofs.noting.due_rows.Goals as goal

pub returns-then-r-far : goal.returns-then-r-far
unfolding due_in
returns-then-r-far c = rw (lt-ltb c.args.r c.args.far c.if-r-far.true) refl

pub returns-then-r-far-ge16 : goal.returns-then-r-far-ge16
unfolding due_in
returns-then-r-far-ge16 c = rw (le-ltb c.args.r c.args.far c.if-r-far.false, le-leb 16 _ c.if-r-far-ge16.true) refl

pub returns : goal.returns
unfolding due_in
returns c = rw (le-ltb c.args.r c.args.far c.if-r-far.false, lt-leb 16 _ c.if-r-far-ge16.false) refl
