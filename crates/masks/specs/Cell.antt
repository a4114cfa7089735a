-- What a leg from a to t meets of a loss at the place c, along one dimension.
use Rattle.std.specs.Prelude.{ℕ, Bool, true, false, cond, ◌&&◌, ◌||◌, ltb, eqb}
use Rattle.shape.specs.Axis.{place}
use Rattle.machine.specs.declared.leg.Mode.{Mode}
use Rattle.machine.specs.declared.leg.Mode.TheVariants.{Adaptive, Deterministic}
use Rattle.machine.specs.Hop.{rule}
use Rattle.legs.specs.Between.{between, crosses, runs}

-- The link that leaves c going plus, or minus, that way.
unfoldable pub takes : Mode → ℕ → Bool → Bool → ℕ → ℕ → ℕ → Bool
takes Adaptive len ring plus c a t = crosses len ring plus c a t
takes Deterministic len ring plus c a t = runs rule len ring plus c a t

-- The link that leaves c going plus, either way.
unfoldable pub takes_link : Mode → ℕ → Bool → ℕ → ℕ → ℕ → Bool
takes_link m len ring c a t = takes m len ring true c a t || (ltb c len && takes m len ring false (place len c true) a t)

-- That link, or the one that comes to c so.
unfoldable pub takes_links : Mode → ℕ → Bool → ℕ → ℕ → ℕ → Bool
takes_links m len ring c a t = takes_link m len ring c a t || takes_link m len ring (place len c false) a t

-- The place c, while the leg goes along a dimension behind this one, or before it.
unfoldable pub passes_before : Mode → ℕ → Bool → ℕ → ℕ → ℕ → Bool
passes_before Adaptive len ring c a t = between len ring c a t
passes_before Deterministic len ring c a t = eqb c t

unfoldable pub passes_behind : Mode → ℕ → Bool → ℕ → ℕ → ℕ → Bool
passes_behind Adaptive len ring c a t = between len ring c a t
passes_behind Deterministic len ring c a t = eqb c a

-- One of these, by the number of a column: 0 in a dimension before the loss's own, 3 in one behind it; in its own 1 and 2 for a link that is lost going
-- plus or minus, 4 for a link lost both ways, 5 for a dead node.
unfoldable pub cell : Mode → ℕ → Bool → ℕ → ℕ → ℕ → ℕ → Bool
cell m len ring column c a t =
    cond (eqb column 0) (passes_before m len ring c a t)
    (cond (eqb column 1) (takes m len ring true c a t)
    (cond (eqb column 2) (takes m len ring false c a t)
    (cond (eqb column 3) (passes_behind m len ring c a t)
    (cond (eqb column 4) (takes_link m len ring c a t) (takes_links m len ring c a t)))))
