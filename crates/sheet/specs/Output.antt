-- Writing a sheet into lent bytes.
use Rattle.std.specs.Prelude.{ℕ, zero, suc, List, ◌++◌, length, drop, ltb, Result, Ok, Err}
use Rattle.numbers.specs.Numbers.{output_short}
use Rattle.numbers.specs.declared.Refusal.{Refusal}
use Rattle.numbers.specs.Refusals.{answer}
use Rattle.theory.specs.Checks.{declined, ◌then◌}

-- Checks that gave e, then 12: output shorter than the sheet.
unfoldable pub room_error : ℕ → List ℕ → List ℕ → ℕ
room_error e s o = e then declined (ltb (length o) (length s)) output_short then 0

-- The answer: with 0 the sheet's length.
abbrev pub written : ℕ → List ℕ → Result ℕ Refusal
written e s = answer e (length s)

-- The output afterwards. Output past a written sheet is untouched; a refusal leaves all lent bytes.
unfoldable pub out_after : ℕ → List ℕ → List ℕ → List ℕ
out_after zero s o = s ++ drop (length s) o
out_after (suc e) s o = o

-- How many bytes are written.
abbrev pub written_size : Result ℕ Refusal → ℕ
written_size (Ok n) = n
written_size (Err e) = 0
