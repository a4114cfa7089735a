-- Check 13: route sheet not of the layout, a node outside the plan, or a via equal to an end; a listed kind 0, two vias present and equal, or an absent via
-- that is not 0.
use Rattle.std.specs.Prelude.{ℕ, ◌+◌, Bool, true, not, cond, ◌&&◌, List, [], ◌∷◌, length, leb, eqb}
use Rattle.numbers.specs.Numbers.{wrong_route_sheet}
use Rattle.theory.specs.Checks.{declined, ◌then◌}
use Rattle.sheet.specs.Head.{version, length_is}
use Rattle.shape.specs.declared.shape.Shape.{Shape}
use Rattle.machine.specs.Node.{is_node}
use Rattle.plan.specs.Layout.{shape_of}
use Rattle.plan.specs.Checks.{Limits, plan_error}
use Rattle.routes.specs.declared.layout.Format.{Format}
use Rattle.routes.specs.declared.layout.Entry.{Entry}
use Rattle.routes.specs.Layout.{format_of, source, entry_count, entries_at, entries_in, size_after}
use Rattle.routes.specs.Kinds.{plain_kind, via_kind, vias_kind}

-- The format's version, and the length field is the bytes that follow and what the entry count says: 4 + 5 × count, in version 3 4 + 7 × count.
unfoldable pub head_good : Format → List ℕ → Bool
head_good F s = leb entries_at (length s) && eqb (version s) F.version && length_is s (size_after F (entry_count s))

-- A via is a node of the plan and neither end.
unfoldable pub is_via : Shape → ℕ → ℕ → ℕ → Bool
is_via m S D v = is_node m v && (not (eqb v S) && not (eqb v D))

-- By the kind two vias, unlike each other, one, or none; an absent via is 0. No other kinds.
unfoldable pub via_good : Shape → ℕ → Entry → Bool
via_good m S e =
    cond (vias_kind e.kind)
    (is_via m S e.dest e.via && (is_via m S e.dest e.second && not (eqb e.via e.second)))
    (cond (via_kind e.kind)
    (is_via m S e.dest e.via && eqb e.second 0)
    (plain_kind e.kind && (eqb e.via 0 && eqb e.second 0)))

-- The destination is a node of the plan; the source is never listed.
unfoldable pub entry_good : Shape → ℕ → Entry → Bool
entry_good m S e = is_node m e.dest && not (eqb e.dest S) && via_good m S e

-- Destinations rise strictly: the least that one may be is 1 above the one before, 0 for the first.
unfoldable pub next_good : Shape → ℕ → ℕ → Entry → Bool
next_good m S least e = leb least e.dest && entry_good m S e

unfoldable pub entries_good : Shape → ℕ → ℕ → List Entry → Bool
entries_good m S least [] = true
entries_good m S least (e ∷ es) = next_good m S least e && entries_good m S (e.dest + 1) es

-- The routes from the source S with these entries.
unfoldable pub routes_good : Shape → ℕ → List Entry → Bool
routes_good m S es = is_node m S && entries_good m S 0 es

-- The sheet in a format.
unfoldable pub good_in : Format → Shape → List ℕ → Bool
good_in F m s = head_good F s && routes_good m (source s) (entries_in F s)

-- The plan's checks, then 13, in a format and in the sheet's own.
unfoldable pub error_in : Format → Limits → List ℕ → List ℕ → ℕ
error_in F L p s = plan_error L p then declined (not (good_in F (shape_of p) s)) wrong_route_sheet

abbrev pub sheet_good : Shape → List ℕ → Bool
sheet_good m s = good_in (format_of s) m s

unfoldable pub sheet_error : Limits → List ℕ → List ℕ → ℕ
sheet_error L p s = error_in (format_of s) L p s
