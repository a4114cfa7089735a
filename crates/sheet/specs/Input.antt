-- Reading an input into a buffer.
use Rattle.std.specs.Prelude.{ℕ, ◌<◌, ◌≡◌, ◌⊎◌, List, length, take}

-- `size` bytes of `whole` were read into the buffer, from its start on: all of them, or until the buffer was full, where there are more.
pub record ReadInto (whole buffer : List ℕ) (size : ℕ) : Type 0 where
  pub bytes : take size buffer ≡ take size whole
  pub ended : (size ≡ length whole) ⊎ ((size ≡ length buffer) × (length buffer < length whole))
