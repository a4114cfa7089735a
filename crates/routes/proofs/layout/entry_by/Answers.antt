use Rattle.routes.proofs.layout.entry_by.Goals as goal

pub returns : goal.returns
returns c = rw (c.second_via.ensures, c.word_at-2.ensures.value, c.kind_in.ensures, c.byte_at.ensures, c.word_at.ensures.value, c.entry_place-at.ensures.value)
