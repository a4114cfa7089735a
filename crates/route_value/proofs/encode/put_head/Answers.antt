use Rattle.route_value.specs.Steps.{put_head}
use Rattle.route_value.proofs.encode.put_head.Goals as goal

pub returns : goal.returns
unfolding put_head
returns c = rw (c.put_word-3.ensures, c.put_word-2.ensures, c.put_word.ensures, c.put_byte.ensures)
