-- The kinds of an entry: those of version 3, and document 01's, of versions 1 and 2, in their terms.
use Rattle.std.specs.Prelude.{ℕ, ◌+◌, ◌*◌, Bool, cond, ◌&&◌, ◌||◌, List, [], ◌∷◌, length, get_or, leb, eqb}
use Rattle.numbers.specs.Numbers.{dead_end, no_clear_choice}
use Rattle.machine.specs.declared.leg.Mode.TheVariants.{Adaptive, Deterministic}
use Rattle.choice.specs.Choice.{Choice, det, vias_of, modes_of}

-- A bit for each deterministic leg, leg one lowest.
unfoldable pub bits_of : List ℕ → ℕ
bits_of [] = 0
bits_of (m ∷ ms) = m + 2 * bits_of ms

-- Kind is 16 × vias plus these bits.
abbrev pub kind_by : ℕ → List ℕ → ℕ
kind_by vias modes = 16 * vias + bits_of modes

unfoldable pub kind_of : Choice → ℕ
kind_of c = kind_by (length (vias_of c)) (modes_of c)

-- 160 is a dead destination, 176 no clear choice. No other refusal has a kind: 255 is none.
abbrev pub dead_kind : ℕ
dead_kind = 160

abbrev pub none_kind : ℕ
none_kind = 176

abbrev pub no_kind : ℕ
no_kind = 255

unfoldable pub refused_kind : ℕ → ℕ
refused_kind e = cond (eqb e dead_end) dead_kind (cond (eqb e no_clear_choice) none_kind no_kind)

-- The kinds that are listed. With n vias there are n + 1 legs, and so as many bits.
unfoldable pub plain_kind : ℕ → Bool
plain_kind k = eqb k 1 || (eqb k dead_kind || eqb k none_kind)

unfoldable pub via_kind : ℕ → Bool
via_kind k = leb 16 k && leb k 19

unfoldable pub vias_kind : ℕ → Bool
vias_kind k = leb 32 k && leb k 39

-- Document 01's kinds by the modes of the legs, from kind 0 on: 1 direct deterministic; 2, 3, 4, 5 by a via, both adaptive, adaptive then deterministic,
-- deterministic then adaptive, both deterministic; 0 for direct adaptive.
abbrev pub adaptive : ℕ
adaptive = det Adaptive

abbrev pub deterministic : ℕ
deterministic = det Deterministic

abbrev pub old_kinds : List (List ℕ)
old_kinds =
    (adaptive ∷ [])
    ∷ (deterministic ∷ [])
    ∷ (adaptive ∷ adaptive ∷ [])
    ∷ (adaptive ∷ deterministic ∷ [])
    ∷ (deterministic ∷ adaptive ∷ [])
    ∷ (deterministic ∷ deterministic ∷ [])
    ∷ []

-- The same legs in version 3; 10 as 160 and 11 as 176. Every other byte is no kind.
abbrev pub old_with : List ℕ → ℕ → ℕ
old_with [] k = refused_kind k
old_with (m ∷ ms) k = kind_by (length ms) (m ∷ ms)

unfoldable pub from_old : ℕ → ℕ
from_old k = old_with (get_or old_kinds k []) k
