use mathlib.Core.Path.{refl}
use Rattle.program.proofs.Names.{two_texts}
use Rattle.program.proofs.part_file.part_name.Goals as goal

pub returns : goal.returns
returns c = two_texts _ _ _ _ refl _ c.new-name.ensures.out _ c.new-name.ensures.at _ c.text.ensures.at _ c.text.ensures.out _ c.text-2.ensures.at _ c.text-2.ensures.out _ c.written.ensures
