-- What writing a sheet back answers and leaves.
use Prim.Native.Nat.{ℕ, ◌≤◌, ◌<◌}
use native.Mathlib.Omega.{arith}
use mathlib.Core.Path.{◌≡◌, refl, sym, ap, ◌∙◌}
use mathlib.Core.List.{List}
use lib.ListN.{length}
use Rattle.std.specs.Prelude.{Ok, Err}
use Rattle.numbers.specs.declared.Refusal.TheVariants.{OutputShort}
use Rattle.numbers.proofs.Refusals.{passed}
use Rattle.sheet.specs.Output.{out_after}
use Rattle.sheet.proofs.Outputs.{Put, refused, no_room, room}
use Rattle.plan.specs.Checks.{Limits}
use Rattle.routes.specs.Layout.{written, entry_count, entry_place, most_entries}
use Rattle.routes.specs.Checks.{sheet_error}
use Rattle.route_value.specs.Writing.{rewritten, back_error}
use Rattle.route_value.proofs.Writings.{again_size}
use Rattle.route_value.proofs.Readings.{few}

module _ (L : Limits) (p s o : List ℕ) (good : sheet_error L p s ≡ 0) (n : ℕ) (count : n ≡ entry_count s) where
  pub short : length o < entry_place written n → Put (back_error L p s o) (rewritten s) o (Err OutputShort) o
  short h = refused (back_error L p s o) OutputShort (rewritten s) o (sym (no_room (sheet_error L p s) (rewritten s) o good (omega (arith, again_size s))))

  module _ (fits : entry_place written n ≤ length o) where
    -- The output has room for it.
    pub has_room : (entry_count s ≤ most_entries) × (entry_place written (entry_count s) ≤ length o)
    has_room = (few L p s good, omega arith)

    pub put : (t : List ℕ) → t ≡ out_after 0 (rewritten s) o → Put (back_error L p s o) (rewritten s) o (Ok (entry_place written n)) t
    put t et =
        let free = room (sheet_error L p s) (rewritten s) o good (omega (arith, again_size s)) in
        let long : entry_place written n ≡ length (rewritten s) = ap (entry_place written) count ∙ sym (again_size s) in
        rw (free, long) (record { value = passed 0 _ refl; number = refl; out_after = et })
