use mathlib.Core.Path.{ap, ◌∙◌}
use Rattle.packet.specs.Steps.{settled}
use Rattle.packet.proofs.New.{source_few, settled_new}
use Rattle.packet.proofs.packet.Packet.new.Goals as goal

pub drop_all-requires : goal.drop_all-requires
drop_all-requires c = source_few _ _ _ _ c.at_source.ensures

pub returns : goal.returns
returns c = c.drop_all.ensures ∙ ap settled c.at_source.ensures ∙ settled_new _ _
