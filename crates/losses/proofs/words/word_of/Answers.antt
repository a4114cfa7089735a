use native.Mathlib.Omega.{arith}
use Rattle.losses.proofs.Parts.{given_small, word_is}
use Rattle.losses.proofs.words.word_of.Goals as goal

pub overflow_add-result-2 : goal.overflow_add-result-2
overflow_add-result-2 c = let i = given_small _ _ c.requires _ c.coords-c.ensures in omega arith

pub overflow_add-result-3 : goal.overflow_add-result-3
overflow_add-result-3 c = let i = given_small _ _ c.requires _ c.coords-c.ensures in omega (arith, c.kept_kind.ensures.1)

pub returns : goal.returns
returns c = word_is _ _ c.requires _ c.coords-c.ensures _ c.kept_kind.ensures.0
