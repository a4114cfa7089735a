-- A bar of 20 marks, and the time that is left.
use Rattle.std.specs.Prelude.{ℕ, ◌+◌, ◌*◌, ◌-◌, ◌/◌, min, max, cond, leb}

unfoldable pub marks_of : ℕ → ℕ → ℕ
marks_of done all = cond (leb all done) 20 (20 * done / all)

-- The full seconds for the boards that are left, and one more, if those that are done took so many milliseconds (30 years at most).
unfoldable pub seconds_left : ℕ → ℕ → ℕ → ℕ
seconds_left done all spent = min spent 1000000000000 * (all - done) / max done 1 / 1000 + 1
