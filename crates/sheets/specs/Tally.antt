-- What was written: sheets, their entries, and among these the pairs without a clear choice.
use Rattle.std.specs.Prelude.{ℕ, ◌+◌, ◌≤◌, ◌≡◌, cond, List, [], ◌∷◌, length, eqb}
use Rattle.program.specs.Count.{plus}
use Rattle.sheet.specs.Head.{length_field}
use Rattle.routes.specs.declared.layout.Entry.{Entry}
use Rattle.routes.specs.Kinds.{none_kind}
use Rattle.routes.specs.Layout.{entry_count, entries_of}
use Rattle.sheets.specs.declared.tally.Tally.{Tally}

-- The kind of no clear choice.
abbrev pub is_without : ℕ → ℕ
is_without kind = cond (eqb kind none_kind) 1 0

unfoldable pub without_in : List Entry → ℕ
without_in [] = 0
without_in (e ∷ es) = is_without e.kind + without_in es

abbrev pub no_tally : Tally
no_tally = record { boards = 0; entries = 0; without = 0 }

-- The tally with the sheet s.
unfoldable pub tallied : Tally → List ℕ → Tally
tallied t s = record { boards = plus t.boards 1; entries = plus t.entries (entry_count s); without = plus t.without (without_in (entries_of s)) }

unfoldable pub tallied_all : Tally → List (List ℕ) → Tally
tallied_all t [] = t
tallied_all t (s ∷ ss) = tallied_all (tallied t s) ss

-- A sheet that says its own length, and sheets of which each does.
pub record Sized (s : List ℕ) : Type 0 where
  pub long : 3 ≤ length s
  pub field : length s ≡ 3 + length_field s

unfoldable pub EachSized : List (List ℕ) → Type 0
EachSized [] = Unit {0}
EachSized (s ∷ ss) = Sized s × EachSized ss
