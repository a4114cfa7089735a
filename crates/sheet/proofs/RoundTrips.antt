-- Sheets written and read back, from what the lent output holds after the call: for any checks and any reading.
use Prim.Native.Nat.{ℕ, ◌≤◌}
use mathlib.Core.Path.{◌≡◌}
use mathlib.Core.List.{List}
use lib.ListN.{length, take}
use Rattle.sheet.specs.Output.{room_error, out_after}
use Rattle.sheet.proofs.Outputs.{same_bytes}

module _ (error : List ℕ → ℕ) where
  -- What the output holds in its first n bytes after writing the sheet s.
  abbrev pub after_writing : ℕ → List ℕ → List ℕ → List ℕ
  after_writing n s o = take n (out_after (room_error (error s) s o) s o)

  module _ (s o : List ℕ) (h : error s ≡ 0) (l : length s ≤ length o) where
    -- An accepted sheet is written back as the same bytes.
    pub written_back : after_writing (length s) s o ≡ s
    written_back = same_bytes (error s) s o h l

    module _ {A : Type 0} (reading : ℕ → List ℕ → A) where
      -- It is read back as it was.
      pub written_read : let w = after_writing (length s) s o in reading (error w) w ≡ reading 0 s
      written_read = rw (written_back, h)

      -- The sheet t of what is read from s, where it is s.
      module _ (t : List ℕ) (same : t ≡ s) where
        pub read_then_written : after_writing (length s) t o ≡ s
        read_then_written = rw same written_back

        pub read_again : let w = after_writing (length s) t o in reading (error w) w ≡ reading (error s) s
        read_again = rw read_then_written
