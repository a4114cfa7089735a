-- Writing a plan sheet from a plan's value.
use Rattle.std.specs.Prelude.{ℕ, zero, suc, List, [], ◌∷◌, ◌++◌, get_or}
use Rattle.sheet.specs.Bytes.{word_bytes, list_from}
use Rattle.sheet.specs.Head.{front_bytes}
use Rattle.sheet.specs.Records.{records_bytes}
use Rattle.plan.specs.declared.layout.Fault.{Fault}
use Rattle.weights.specs.declared.weights.Weights.{Weights}
use Rattle.plan.specs.Layout.{layout_of, fault_form, size_after}
use Rattle.plan_value.specs.declared.reading.Plan.{Plan}
use Rattle.plan_value.specs.Reading.{no_fault}

-- The faults of a plan: the first `count` of its array.
unfoldable pub plan_faults : Plan → List Fault
plan_faults p = list_from (λ i. get_or p.faults i no_fault) 0 p.count

-- The weight bytes of a version that has so many.
unfoldable pub weight_bytes : ℕ → Weights → List ℕ
weight_bytes zero w = []
weight_bytes (suc _) w = w.x ∷ w.y ∷ w.z ∷ []

-- Version, length of what follows, extents, wrap byte, weights in version 2, and fault count.
unfoldable pub head_bytes : Plan → List ℕ
head_bytes p =
    front_bytes p.version (size_after (layout_of p.version) p.count)
    ++ (p.shape.x ∷ p.shape.y ∷ p.shape.z ∷ p.shape.wrap ∷ (weight_bytes (layout_of p.version).weights p.weights ++ word_bytes p.count))

-- The sheet of a plan.
unfoldable pub sheet_of : Plan → List ℕ
sheet_of p = head_bytes p ++ records_bytes fault_form (plan_faults p)
