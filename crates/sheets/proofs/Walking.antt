-- Walking the sheets of a run, each of which says its own length.
use Prim.Native.Nat.{ℕ, zero, suc, ◌+◌, ◌-◌, ◌<◌, min}
use native.Mathlib.Omega.{arith}
use mathlib.Core.Path.{◌≡◌, refl, sym, ap, ◌∙◌}
use mathlib.Core.List.{List, [], ◌∷◌, ◌++◌}
use lib.ListN.{length, take, drop, length-append, get_or-append}
use lib.Seq.{take-append_seam, drop-append_seam}
use Rattle.sheet.specs.Bytes.{byte, word}
use Rattle.sheet.specs.Head.{length_field}
use Rattle.plan.specs.Checks.{large}
use Rattle.routes.proofs.Sheets.{accepted}
use Rattle.planned_sheet.specs.Sheet.{source_error, planned_sheet}
use Rattle.planned_sheet.proofs.Planning.{source_of, sheet_accepted}
use Rattle.planner.specs.Run.{run_sheets, joined}
use Rattle.planner.proofs.ByBoard.{by_board}
use Rattle.sheets.specs.declared.tally.Tally.{Tally}
use Rattle.sheets.specs.Tally.{tallied, tallied_all, Sized, EachSized}

-- The sheets of the rest of a run are still to be counted.
pub record Left (sheets : List (List ℕ)) (first sum : Tally) (rest : List ℕ) : Type 0 where
  pub behind : List (List ℕ)
  pub sized : EachSized behind
  pub bytes : rest ≡ joined behind
  pub same : tallied_all first sheets ≡ tallied_all sum behind

pub record Walking (run : List ℕ) (first sum : Tally) (rest : List ℕ) : Type 0 where
  pub left : (sheets : List (List ℕ)) → EachSized sheets → run ≡ joined sheets → Left sheets first sum rest

-- The field of the sheet that comes first.
module _ (rest s behind : List ℕ) (z : Sized s) (e : rest ≡ s ++ behind) where
  same_byte : (i : ℕ) → i < 3 → byte rest i ≡ byte s i
  same_byte i l = ap (λ x. byte x i) e ∙ get_or-append s behind 0 i (omega (arith, z.long))

  same_field : word rest 1 ≡ length_field s
  unfolding length_field
  same_field = rw (same_byte 1 (omega arith), same_byte 2 (omega arith))

  -- So its bytes are known.
  whole : (size : ℕ) → size ≡ min (3 + word rest 1) (length rest) → size ≡ length s
  whole size h = omega (arith, same_field, z.field, ap length e, length-append s behind)

module _ (run : List ℕ) (first : Tally) where
  pub begin : Walking run first first run
  begin = record { left = λ sheets z e. record { behind = sheets; sized = z; bytes = e; same = refl } }

  module _ (sum : Tally) (rest : List ℕ) (g : Walking run first sum rest) where
    module _ (l : 0 < length rest) (size : ℕ) (h : size ≡ min (3 + word rest 1) (length rest)) (part : List ℕ) (hp : part ≡ take size rest) (after : List ℕ) (ha : after ≡ drop size rest) (more : Tally) (hm : more ≡ tallied sum part) where
      next_left : (sheets behind : List (List ℕ)) → EachSized behind → rest ≡ joined behind → tallied_all first sheets ≡ tallied_all sum behind → Left sheets first more after
      unfolding EachSized joined tallied_all
      next_left sheets [] z e same = absurd (omega (arith, ap length e))
      next_left sheets (s ∷ ss) z e same =
          let n = whole rest s (joined ss) z.0 e size h in
          let is : part ≡ s = hp ∙ rw (n, e) (take-append_seam s (joined ss)) in
          record {
            behind = ss;
            sized = z.1;
            bytes = ha ∙ rw (n, e) (drop-append_seam s (joined ss));
            same = same ∙ ap (λ t. tallied_all t ss) (sym (hm ∙ ap (tallied sum) is));
          }

      pub next : Walking run first more after
      next = record { left = λ sheets z e. let w = g.left sheets z e in next_left sheets w.behind w.sized w.bytes w.same }

    none_more : (sheets behind : List (List ℕ)) → EachSized behind → rest ≡ joined behind → length rest ≡ 0 → tallied_all first sheets ≡ tallied_all sum behind → sum ≡ tallied_all first sheets
    unfolding EachSized joined tallied_all
    none_more sheets [] z e n same = sym same
    none_more sheets (s ∷ ss) z e n same = absurd (omega (arith, z.0.long, ap length e, length-append s (joined ss)))

    pub ended : length rest ≡ 0 → (sheets : List (List ℕ)) → EachSized sheets → run ≡ joined sheets → sum ≡ tallied_all first sheets
    ended n sheets z e =
        let w = g.left sheets z e in
        none_more sheets w.behind w.sized w.bytes n w.same

-- The sheets of a run are such.
planned_sized : (p : List ℕ) (S : ℕ) → source_error large p S ≡ 0 → Sized (planned_sheet large p S)
planned_sized p S ok =
    let h = (accepted large p (planned_sheet large p S) (sheet_accepted large p S (source_of large p S ok))).head in
    record { long = omega (arith, h.long); field = omega (arith, h.field, h.sized) }

pub run_sized : (p : List ℕ) (n S room : ℕ) → EachSized (run_sheets p S n room)
unfolding EachSized run_sheets
run_sized p zero S room = tt
run_sized p (suc n) S room =
    by_board p S n room
    (λ d. rw d.sheets (run_sized p n (suc S) room))
    (λ f. rw f.sheets (planned_sized p S f.sound, run_sized p n (suc S) (room - length (planned_sheet large p S))))
    (λ f. rw f.sheets tt)
