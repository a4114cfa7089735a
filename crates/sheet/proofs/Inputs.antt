-- What is decided by an input that was read into a buffer.
use Prim.Native.Nat.{ℕ, ◌≤◌}
use native.Mathlib.Omega.{arith}
use mathlib.Core.Path.{◌≡◌, refl, sym, ap, ◌∙◌}
use mathlib.Core.Logic.{inl, inr, ⊎_elim}
use mathlib.Core.List.{List, ◌++◌}
use lib.ListN.{length, take, drop, length-append, drop_of_length-le}
use lib.Seq.{take_all, take-append-le, length-take-le}
use Rattle.theory.proofs.Cases.{by_le}
use Rattle.sheet.specs.Input.{ReadInto}

-- The first n bytes decide f, and so do more of them.
abbrev pub DecidedBy : {A : Type 0} → ℕ → (List ℕ → A) → Type 0
DecidedBy n f = (k : ℕ) (i : List ℕ) → n ≤ k → k ≤ length i → f (take k i) ≡ f i

-- Then what was read into a buffer of n bytes or more decides f of the whole input.
pub read_whole : {A : Type 0} (n : ℕ) (f : List ℕ → A) → DecidedBy n f → (whole buffer : List ℕ) (size : ℕ) → n ≤ length buffer → ReadInto whole buffer size → f (take size buffer) ≡ f whole
read_whole n f d whole buffer size h r =
    ap f r.bytes
    ∙ ⊎_elim
    (λ e. ap f (take_all size whole (omega arith)))
    (λ e. d size whole (omega (arith, e.0)) (omega (arith, e.0, e.1)))
    r.ended

-- Every input can be read into every buffer: its first bytes, and behind them what stood there.
pub reads : (whole before : List ℕ) → (size : ℕ) × ReadInto whole (take (length before) whole ++ drop (length whole) before) size
reads whole before =
    let n = length before in
    let rest = drop (length whole) before in
    by_le (length whole) n
    (λ h. (length whole, record { bytes = rw (take_all n whole h) (take-append-le (length whole) whole rest (omega arith)); ended = inl refl }))
    (λ h.
    let first : length (take n whole) ≡ n = length-take-le n whole (omega arith) in
    let long : length (take n whole ++ rest) ≡ n = length-append (take n whole) rest ∙ rw (drop_of_length-le before {i = length whole} (omega arith)) (omega arith) in
    (n, record { bytes = take-append-le n (take n whole) rest (omega arith) ∙ take_all n (take n whole) (omega arith); ended = inr (sym long, omega arith) }))
