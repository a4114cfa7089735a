-- What the search among the choices rests on: which choices are as short as can be, and which modes the first clear choice has.
use Rattle.std.specs.Prelude.{ℕ, ◌+◌, ◌≤◌, ◌<◌, ◌≡◌, ◌↔◌, Bool, [], ◌∷◌}
use Rattle.std.proofs.Math.Option.{some}
use Rattle.shape.specs.declared.shape.Shape.{Shape}
use Rattle.machine.specs.declared.leg.Leg.{Leg}
use Rattle.machine.specs.Number.{node_count}
use Rattle.machine.specs.Hop.{hops}
use Rattle.choice.specs.Choice.{Choice}
use Rattle.choice.specs.Further.{better}

-- Each target of the legs from p lies between the place before it and D: the lengths add up.
abbrev pub Between : (ℕ → ℕ → ℕ) → ℕ → ℕ → Choice → Type 0
Between far D p [] = Unit {0}
Between far D p (l ∷ ls) = (far p l.target + far l.target D ≡ far p D) × Between far D l.target ls

-- Each leg has its better clear mode: adaptive wherever that is clear.
abbrev pub Forced : (Leg → ℕ → Bool) → ℕ → Choice → Type 0
Forced clear p [] = Unit {0}
Forced clear p (l ∷ ls) = (better clear p l.target ≡ some l) × Forced clear l.target ls

-- What the search asks of distances on the machine of a shape: a node on a shortest way by weight is one by hops, and the other way round.
pub record Lengths (s : Shape) (far : ℕ → ℕ → ℕ) : Type 0 where
  pub still : (n : ℕ) → far n n ≡ 0
  pub most : (n t : ℕ) → n < node_count s → t < node_count s → far n t ≤ 360
  pub triangle : (n v t : ℕ) → n < node_count s → v < node_count s → t < node_count s → far n t ≤ far n v + far v t
  pub shortest : (n v t : ℕ) → n < node_count s → v < node_count s → t < node_count s → (far n v + far v t ≡ far n t) ↔ (hops s n v + hops s v t ≡ hops s n t)
