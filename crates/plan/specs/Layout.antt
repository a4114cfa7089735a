-- 'Plan sheet': where its parts stand, by the version. Byte 0 is the version and bytes 1-2 the length of what follows, as in every sheet.
use Rattle.std.specs.Prelude.{ℕ, zero, suc, ◌+◌, ◌-◌, Bool, cond, ◌||◌, List, [], ◌∷◌, eqb}
use Rattle.sheet.specs.Bytes.{byte, word, upper_byte, lower_byte, list_from}
use Rattle.sheet.specs.Head.{version}
use Rattle.sheet.specs.Records.{Form, record_at, records_after}
use Rattle.shape.specs.declared.shape.Shape.{Shape}
use Rattle.weights.specs.declared.weights.Weights.{Weights}
use Rattle.weights.specs.Weights.{ones}
use Rattle.plan.specs.declared.layout.Fault.{Fault}

-- What a version byte says: whether there is such a version, how many weight bytes stand behind the wrap byte, the bytes before the faults, which are
-- the least length, and the highest kind of a fault.
pub record Layout : Type 0 where
  pub known : Bool
  pub weights : ℕ
  pub head_size : ℕ
  pub last_kind : ℕ

abbrev pub laid_out : Bool → ℕ → ℕ → Layout
laid_out known weights last_kind = record { known = known; weights = weights; head_size = 9 + weights; last_kind = last_kind }

-- Version 1 has no weight bytes, version 2 three; both have kinds 0 to 3. Every other byte reads as version 1, and is not known.
unfoldable pub layout_of : ℕ → Layout
layout_of v = laid_out (eqb v 1 || eqb v 2) (cond (eqb v 2) 3 0) 3

abbrev pub layout_in : List ℕ → Layout
layout_in s = layout_of (version s)

-- After the length field the three extents, one byte each; the wrap byte.
unfoldable pub shape_of : List ℕ → Shape
shape_of s = record { x = byte s 3; y = byte s 4; z = byte s 5; wrap = byte s 6 }

-- Then three weight bytes, of a version that has them; a version without means weights of 1.
unfoldable pub weights_by : ℕ → List ℕ → Weights
weights_by zero s = ones
weights_by (suc _) s = record { x = byte s 7; y = byte s 8; z = byte s 9 }

abbrev pub weights_of : List ℕ → Weights
weights_of s = weights_by (layout_in s).weights s

-- A two-byte fault count, the last of the head.
unfoldable pub fault_count : List ℕ → ℕ
fault_count s = word s ((layout_in s).head_size - 2)

-- Then three bytes a fault: node (two) and kind (one).
abbrev pub fault_form : Form Fault
fault_form = record {
  size = 3;
  read = λ s at. record { node = word s at; kind = byte s (at + 2) };
  bytes = λ f. upper_byte f.node ∷ lower_byte f.node ∷ f.kind ∷ [];
}

-- Fault number i, from 0.
unfoldable pub fault_at : List ℕ → ℕ → Fault
fault_at s i = record_at fault_form (layout_in s).head_size s i

unfoldable pub faults_of : List ℕ → List Fault
faults_of s = list_from (fault_at s) 0 (fault_count s)

-- The length of what follows, with this many faults: 6 + 3 × count in version 1, 9 + 3 × count in version 2.
abbrev pub size_after : Layout → ℕ → ℕ
size_after l count = records_after fault_form l.head_size count
