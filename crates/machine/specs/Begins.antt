-- Where the travel of a deterministic leg in a dimension begins. The rule for half a ring looks at the coordinate of the present node; here is the rule that
-- remembers the node where the leg began, and what makes the two one: `half_begins`, `walk_by_start` of proofs/Begins.antt.
use Rattle.std.specs.Prelude.{ℕ, ◌*◌, ◌<◌, Bool, true, false, ◌&&◌, ◌||◌, List, [], ◌∷◌, ◌≡◌, leb, eqb}
use Rattle.theory.specs.Machine.{Machine}
use Rattle.theory.specs.Clear.{lead}
use Rattle.shape.specs.declared.shape.Shape.{Shape}
use Rattle.shape.specs.declared.shape.Dim.{Dim}
use Rattle.shape.specs.Shape.{extent_of, wrapped_in, same_dim, before_dim}
use Rattle.machine.specs.declared.leg.Mode.{Mode}
use Rattle.machine.specs.declared.leg.Mode.TheVariants.{Adaptive, Deterministic}
use Rattle.machine.specs.declared.leg.Leg.{Leg}
use Rattle.machine.specs.Hop.{dir_dim, along, part, same, useful, toward, first_of}
use Rattle.machine.specs.Torus.{torus_of, torus_by}

-- Some hop of the walk is along dimension d.
unfoldable pub travelled : Dim → List ℕ → Bool
travelled d [] = false
travelled d (dir ∷ ds) = same_dim (dir_dim dir) d || travelled d ds

-- Of a walk ds from a toward t, and of dimension d. `now`: where the walk has led.
module _ (ties : ℕ → Bool) (s : Shape) (a t : ℕ) (ds : List ℕ) (d : Dim) where
  abbrev now : ℕ
  now = lead (torus_by ties s) a ds

  -- until: the coordinate is the start's until the dimension is travelled. after: that is once the dimensions before it are done. below: once under way,
  -- less than half a ring is left. kept: the direction is the one that the dimension has at the start.
  pub record Begins : Type 0 where
    pub until : travelled d ds ≡ false → along s now d ≡ along s a d
    pub after : travelled d ds ≡ true → (e : Dim) → before_dim e d ≡ true → along s now e ≡ along s t e
    pub below : travelled d ds ≡ true → wrapped_in s d ≡ true → 2 * part s now t d < extent_of s d
    pub kept : same s now t d ≡ false → toward ties s now t d ≡ toward ties s a t d

-- The rule that remembers: half a ring goes by the coordinate of the node a, where the leg began.
abbrev pub toward_from : (ℕ → Bool) → ℕ → Shape → ℕ → ℕ → Dim → ℕ
toward_from ties a s n t d = toward (λ p. ties (along s a d)) s n t d

unfoldable pub allowed_from : (ℕ → Bool) → ℕ → Mode → Shape → ℕ → ℕ → ℕ → Bool
allowed_from ties a Adaptive s n t dir = useful s n t dir
allowed_from ties a Deterministic s n t dir = leb dir 5 && eqb dir (first_of (toward_from ties a s n t) s n t)

abbrev pub torus_from : (ℕ → Bool) → ℕ → Shape → Machine Leg
torus_from ties a s = torus_of (λ l n dir. allowed_from ties a l.mode s n l.target dir) s
