-- Which end of a leg is given.
use Rattle.std.specs.Prelude.{Bool, true, false}
use Rattle.masks.specs.declared.end.End.{End}
use Rattle.masks.specs.declared.end.End.TheVariants.{Start, Target}

-- The legs begin at it.
abbrev pub begins : End → Bool
begins Start = true
begins Target = false
