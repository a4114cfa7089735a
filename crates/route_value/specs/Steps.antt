-- The code's own steps.
use Rattle.std.specs.Prelude.{ℕ, ◌+◌, List, set}
use Rattle.sheet.specs.Bytes.{put_word}
use Rattle.routes.specs.declared.layout.Entry.{Entry}
use Rattle.routes.specs.Layout.{written, entry_place, size_after}

-- The bytes of a sheet with its head, or with entry number i, put in its place.
unfoldable pub put_head : List ℕ → ℕ → ℕ → List ℕ
put_head s S n = put_word (put_word (put_word (set s 0 written.version) 1 (size_after written n)) 3 S) 5 n

unfoldable pub put_entry : List ℕ → ℕ → Entry → List ℕ
put_entry s i e = let at = entry_place written i in put_word (put_word (set (put_word s at e.dest) (at + 2) e.kind) (at + 3) e.via) (at + 5) e.second
