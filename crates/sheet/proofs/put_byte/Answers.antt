use Rattle.sheet.proofs.Records.{put_past}
use Rattle.sheet.proofs.put_byte.Goals as goal

pub returns-else-at-s : goal.returns-else-at-s
returns-else-at-s c = put_past _ _ c.if-at-s.false _
