-- Looking up a destination gives the entry as the very bytes of the lent sheet: seven of version 3, five of version 2.
use Rattle.std.specs.Prelude.{ℕ, ◌+◌, ◌≡◌, Bool, not, cond, ◌&&◌, List, [], ◌∷◌, take, drop, ltb, eqb, Option, Some, None}
use Rattle.std.specs.Borrow.{Bor}
use Rattle.numbers.specs.Numbers.{node_outside}
use Rattle.theory.specs.Checks.{declined, ◌then◌}
use Rattle.machine.specs.Node.{is_node}
use Rattle.plan.specs.Layout.{shape_of}
use Rattle.plan.specs.Checks.{Limits}
use Rattle.routes.specs.declared.layout.Entry.{Entry}
use Rattle.routes.specs.declared.lookup.Part.{Part}
use Rattle.routes.specs.Layout.{format_of, entry_count, entry_size, entry_place, entries_of}
use Rattle.routes.specs.Checks.{sheet_error}

-- A lookup: the plan's checks, 13, then 9.
unfoldable pub lookup_error : Limits → List ℕ → List ℕ → ℕ → ℕ
lookup_error L p s d = sheet_error L p s then declined (not (is_node (shape_of p) d)) node_outside

-- The number of the first entry for the destination d, or how many entries there are where none is.
unfoldable pub find : List Entry → ℕ → ℕ
find [] d = 0
find (e ∷ es) d = cond (eqb e.dest d) 0 (find es d + 1)

-- Its number in the sheet s, if the destination d is listed.
unfoldable pub find_entry : List ℕ → ℕ → Option ℕ
find_entry s d = let i = find (entries_of s) d in cond (ltb i (entry_count s)) (Some i) None

-- The lookup is not declined, and the destination is listed.
unfoldable pub is_listed : Limits → List ℕ → List ℕ → ℕ → Bool
is_listed L p s d = eqb (lookup_error L p s d) 0 && ltb (find (entries_of s) d) (entry_count s)

-- That part is empty, at the sheet's start, if the destination is not listed or the lookup is declined.
unfoldable pub part_start : Limits → List ℕ → List ℕ → ℕ → ℕ
part_start L p s d = cond (is_listed L p s d) (entry_place (format_of s) (find (entries_of s) d)) 0

unfoldable pub part_length : Limits → List ℕ → List ℕ → ℕ → ℕ
part_length L p s d = cond (is_listed L p s d) (entry_size (format_of s)) 0

unfoldable pub part_for : Limits → List ℕ → List ℕ → ℕ → Part
part_for L p s d = record { start = part_start L p s d; size = part_length L p s d }

-- r is the part of the slice s of len bytes from byte at on: the same memory, and so the same bytes.
pub record PartOf (s r : Bor (List ℕ)) (at len : ℕ) : Type 0 where
  pub block : r.ref_ptr.0 ≡ s.ref_ptr.0
  pub offset : r.ref_ptr.1 ≡ s.ref_ptr.1 + at
  pub bytes : r.now ≡ take len (drop at s.now)
