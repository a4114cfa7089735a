-- Routes written are read back as the same routes; an accepted sheet is written back as a sheet of version 3 with the same routes, and one of version 3 as the
-- same bytes: from what the lent output holds after the call.
use Prim.Native.Nat.{ℕ, ◌+◌, ◌≤◌}
use native.Mathlib.Omega.{arith}
use mathlib.Core.Path.{◌≡◌, refl, sym, ◌∙◌}
use mathlib.Core.Bool.{true}
use mathlib.Core.List.{List}
use lib.ListN.{length, get_or, take}
use Rattle.std.specs.Prelude.{Result, Ok}
use Rattle.numbers.specs.declared.Refusal.{Refusal}
use Rattle.numbers.specs.Refusals.{answer}
use Rattle.shape.specs.Shape.{shape_error, bad_extents, bad_wraps}
use Rattle.machine.specs.Number.{node_count}
use Rattle.machine.specs.Node.{is_node}
use Rattle.sheet.specs.Bytes.{AreBytes, list_from}
use Rattle.sheet.specs.Head.{version, length_field, bytes_after, length_is}
use Rattle.sheet.specs.Output.{room_error, out_after}
use Rattle.sheet.specs.Records.{records_bytes}
use Rattle.sheet.proofs.Records.{are_bytes, from_at}
use Rattle.sheet.proofs.Outputs.{same_bytes}
use Rattle.sheet.proofs.RoundTrips.{after_writing}
use Rattle.plan.specs.Layout.{shape_of}
use Rattle.plan.specs.Checks.{Limits, large, plan_error}
use Rattle.plan.specs.Worked.{W}
use Rattle.plan.proofs.Worked as Plan
use Rattle.routes.specs.declared.layout.Entry.{Entry}
use Rattle.routes.specs.Layout.{second, format_by, written, source, entry_count, kind_in, second_via, entry_at, entries_of, no_entry}
use Rattle.routes.specs.Kinds.{via_kind, vias_kind, plain_kind, bits_of, from_old}
use Rattle.routes.specs.Checks.{head_good, is_via, via_good, entry_good, next_good, entries_good, routes_good, good_in, error_in, sheet_error}
use Rattle.routes.proofs.Sheets.{accepted}
use Rattle.routes.proofs.Rising.{AllFit, routed}
use Rattle.route_value.specs.declared.reading.Routes.{Routes}
use Rattle.route_value.specs.Reading.{routes_of, reading}
use Rattle.route_value.specs.Writing.{head_bytes, sheet_bytes, route_entries, sheet_of, rewritten, back_error}
use Rattle.route_value.specs.Value.{Fits, routes_with, cleared}
use Rattle.route_value.specs.Worked.{sheet_w, second_w, second_again}
use Rattle.route_value.proofs.Writings.{source_read, entries_read, routes_read, entries_count}
use Rattle.route_value.proofs.Written.{written_accepted}
use Rattle.route_value.proofs.Rewriting.{read_written, rewritten_accepted, rewritten_read, same_sheet}

same_ok : {r t : Routes} → ◌≡◌ {A = Result Routes Refusal} (Ok r) (Ok t) → r ≡ t
same_ok e = cc

module _ (L : Limits) (p : List ℕ) where
  abbrev error : List ℕ → ℕ
  error s = sheet_error L p s

  abbrev read_from : List ℕ → Result Routes Refusal
  read_from s = reading (error s) s

  -- The sheet of a source and entries that check 13 accepts, written after other checks that gave 0, then read.
  module _ (S : ℕ) (es : List Entry) (plan : plan_error L p ≡ 0) (good : routes_good (shape_of p) S es ≡ true) where
    pub good_read : read_from (sheet_bytes S es) ≡ Ok (routes_with S es)
    unfolding answer
    good_read = let r = routed (shape_of p) S es good in rw (written_accepted L p S es plan good, routes_read S es r.source r.few r.fit)

    pub good_written_read : (e : ℕ) (o : List ℕ) → let s = sheet_bytes S es in e ≡ 0 → length s ≤ length o → read_from (take (length s) (out_after (room_error e s o) s o)) ≡ Ok (routes_with S es)
    good_written_read e o h l = rw (same_bytes e (sheet_bytes S es) o h l) good_read

  -- Routes written, then read.
  module _ (r : Routes) (f : Fits r) where
    all_fit : AllFit (route_entries r)
    unfolding route_entries
    all_fit i b = rw (from_at (λ k. get_or r.entries k no_entry) r.count 0 i no_entry (omega (arith, entries_count r))) (f.entries (0 + i) (omega (arith, entries_count r)))

    with_entries : routes_with r.source (route_entries r) ≡ cleared r
    unfolding routes_with cleared
    with_entries = rw (entries_count r)

    pub written_read : (o : List ℕ) → let s = sheet_of r in error s ≡ 0 → length s ≤ length o → read_from (after_writing error (length s) s o) ≡ Ok (cleared r)
    unfolding sheet_of
    written_read o h l =
        let S = r.source in
        let es = route_entries r in
        let a = accepted L p (sheet_of r) h in
        let good : routes_good (shape_of p) S es ≡ true = rw (source_read S es f.source, entries_read S es (omega (arith, entries_count r, f.count)) all_fit) at a.routes in
        good_written_read S es a.plan good (error (sheet_of r)) o h l ∙ rw with_entries

  -- An accepted sheet of either version.
  module _ (s : List ℕ) (h : error s ≡ 0) where
    -- The output after writing it back.
    abbrev after_back : List ℕ → List ℕ
    after_back o = out_after (back_error L p s o) (rewritten s) o

    pub written_back : (o : List ℕ) → length (rewritten s) ≤ length o → take (length (rewritten s)) (after_back o) ≡ rewritten s
    written_back o l = same_bytes (error s) (rewritten s) o h l

    read_rewritten : read_from (rewritten s) ≡ read_from s
    unfolding answer
    read_rewritten = rw (rewritten_accepted L p s h, h, rewritten_read L p s h)

    pub back_read : (o : List ℕ) → length (rewritten s) ≤ length o → read_from (take (length (rewritten s)) (after_back o)) ≡ read_from s
    back_read o l = rw (written_back o l) read_rewritten

    pub read_is : read_from s ≡ Ok (routes_of s)
    unfolding answer
    read_is = rw h

    -- The sheet of the routes r that are read from it. What is read fits (`read_fits` of Rewriting).
    module _ (r : Routes) (read : read_from s ≡ Ok r) where
      abbrev again : List ℕ
      again = sheet_of r

      again_is : again ≡ rewritten s
      again_is = let z : routes_of s ≡ r = same_ok (sym read_is ∙ read) in rw (← z) (read_written L p s h)

      pub read_accepted : error again ≡ 0
      read_accepted = rw again_is (rewritten_accepted L p s h)

      pub read_again : (o : List ℕ) → length again ≤ length o → read_from (after_writing error (length again) again o) ≡ read_from s
      read_again o l = rw (same_bytes (error again) again o read_accepted l, again_is) read_rewritten

    -- Of version 3 it comes back as the same bytes.
    module _ (bytes : AreBytes s) (third : version s ≡ written.version) (o : List ℕ) (l : length s ≤ length o) where
      same : rewritten s ≡ s
      same = same_sheet s bytes L p h third

      pub back_same : take (length s) (after_back o) ≡ s
      back_same = rw same (same_bytes (error s) s o h l)

      pub read_then_written : (r : Routes) → read_from s ≡ Ok r → after_writing error (length s) (sheet_of r) o ≡ s
      read_then_written r read = rw (again_is r read, same) (same_bytes (error s) s o h l)

-- Machine W's route sheets for source 0, of version 3 and of version 2, are such sheets.
pub w_bytes : AreBytes sheet_w
w_bytes = are_bytes sheet_w refl

pub w_accepted : (sheet_error large W sheet_w ≡ 0) × (version sheet_w ≡ written.version)
unfolding sheet_error error_in good_in head_good routes_good next_good entries_good entry_good is_via via_good via_kind vias_kind plain_kind from_old kind_in second_via format_by version length_field bytes_after length_is shape_of source entry_count entry_at entries_of list_from shape_error bad_extents bad_wraps is_node node_count
w_accepted = (rw Plan.w_accepted, refl)

pub second_accepted : (sheet_error large W second_w ≡ 0) × (version second_w ≡ second.version)
unfolding sheet_error error_in good_in head_good routes_good next_good entries_good entry_good is_via via_good via_kind vias_kind plain_kind bits_of from_old kind_in second_via format_by version length_field bytes_after length_is shape_of source entry_count entry_at entries_of list_from shape_error bad_extents bad_wraps is_node node_count
second_accepted = (rw Plan.w_accepted, refl)

pub second_rewritten : rewritten second_w ≡ second_again
unfolding rewritten sheet_bytes head_bytes records_bytes bits_of from_old kind_in second_via format_by version source entry_count entry_at entries_of list_from
second_rewritten = refl
