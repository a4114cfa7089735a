use Rattle.sheet.proofs.Records.{put_word_past}
use Rattle.sheet.proofs.put_word.Goals as goal

pub returns-then-at-s : goal.returns-then-at-s
returns-then-at-s c = rw (c.put_byte-then-at-s.ensures, c.lower.ensures, c.put_byte.ensures, c.upper.ensures)

pub returns-else-at-s : goal.returns-else-at-s
returns-else-at-s c = put_word_past _ _ c.if-at-s.false _
