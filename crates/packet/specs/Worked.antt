-- Hops taken back on a torus of 4 by 4, worked out.
use Rattle.std.specs.Prelude.{ℕ, ◌≡◌, [], ◌∷◌}
use Rattle.theory.specs.Packet.{Stepped}
use Rattle.theory.specs.Marks.{new_of}
use Rattle.theory.specs.Back.{back}
use Rattle.shape.specs.declared.shape.Shape.{Shape}
use Rattle.machine.specs.declared.leg.Leg.{Leg}
use Rattle.machine.specs.declared.leg.Mode.TheVariants.{Adaptive, Deterministic}
use Rattle.machine.specs.Torus.{leg, torus}
use Rattle.legs.specs.Backward.{backward}
use Rattle.packet.specs.declared.packet.Packet.{Packet}
use Rattle.packet.specs.Packet.{no_leg, kept}

abbrev pub W : Shape
W = record { x = 4; y = 4; z = 1; wrap = 3 }

-- Packets of one, two and three legs: source, node, mark, legs.
abbrev pub one : ℕ → ℕ → ℕ → Leg → Packet
one source node mark a = record { source = source; node = node; legs = a ∷ no_leg ∷ no_leg ∷ []; count = 1; mark = mark }

abbrev pub two : ℕ → ℕ → ℕ → Leg → Leg → Packet
two source node mark a b = record { source = source; node = node; legs = a ∷ b ∷ no_leg ∷ []; count = 2; mark = mark }

abbrev pub three : ℕ → ℕ → ℕ → Leg → Leg → Leg → Packet
three source node mark a b c = record { source = source; node = node; legs = a ∷ b ∷ c ∷ []; count = 3; mark = mark }

abbrev pub taken : Packet → ℕ → Stepped Packet
taken q dir = back (torus W) (backward W) (kept W) q dir

abbrev pub gives : Packet → ℕ → Stepped Packet
gives q n = record { packet = q; number = n }

pub record Worked : Type 0 where
  -- from 0 by 4 to 1: over the first leg's end, back to its start; on the second leg; arrived
  pub via : taken (two 0 4 1 (leg 4 Adaptive) (leg 1 Deterministic)) 2 ≡ gives (two 0 0 0 (leg 4 Adaptive) (leg 1 Deterministic)) 0
  pub second : taken (two 0 5 1 (leg 4 Adaptive) (leg 1 Deterministic)) 0 ≡ gives (two 0 4 1 (leg 4 Adaptive) (leg 1 Deterministic)) 0
  pub arrived : taken (two 0 1 2 (leg 4 Adaptive) (leg 1 Deterministic)) 3 ≡ gives (two 0 5 1 (leg 4 Adaptive) (leg 1 Deterministic)) 0
  -- a mark on a leg whose target is the present node; a new packet; a direction above 5; a mark one too far
  pub finished : taken (two 0 4 0 (leg 4 Adaptive) (leg 1 Deterministic)) 2 ≡ gives (two 0 4 0 (leg 4 Adaptive) (leg 1 Deterministic)) 18
  pub new : taken (two 0 0 0 (leg 4 Adaptive) (leg 1 Deterministic)) 3 ≡ gives (two 0 0 0 (leg 4 Adaptive) (leg 1 Deterministic)) 18
  pub above : taken (two 0 4 1 (leg 4 Adaptive) (leg 1 Deterministic)) 6 ≡ gives (two 0 4 1 (leg 4 Adaptive) (leg 1 Deterministic)) 18
  pub far : taken (two 0 4 3 (leg 4 Adaptive) (leg 1 Deterministic)) 2 ≡ gives (two 0 4 3 (leg 4 Adaptive) (leg 1 Deterministic)) 14
  -- a node to itself: a new packet's mark is past its one leg
  pub to_itself : new_of (torus W) (kept W) (one 0 0 0 (leg 0 Adaptive)) ≡ one 0 0 1 (leg 0 Adaptive)
  pub itself : taken (one 0 0 1 (leg 0 Adaptive)) 0 ≡ gives (one 0 0 1 (leg 0 Adaptive)) 18
  -- the source passed again on a later leg; a first leg that is empty is never travelled
  pub again : taken (three 0 0 2 (leg 1 Adaptive) (leg 0 Adaptive) (leg 4 Adaptive)) 1 ≡ gives (three 0 1 1 (leg 1 Adaptive) (leg 0 Adaptive) (leg 4 Adaptive)) 0
  pub empty : taken (two 0 0 1 (leg 0 Adaptive) (leg 1 Adaptive)) 1 ≡ gives (two 0 0 1 (leg 0 Adaptive) (leg 1 Adaptive)) 18
  -- equal targets: the mark passes both with one hop, and goes back over both
  pub equal : taken (three 0 1 2 (leg 1 Adaptive) (leg 1 Adaptive) (leg 5 Adaptive)) 0 ≡ gives (three 0 0 0 (leg 1 Adaptive) (leg 1 Adaptive) (leg 5 Adaptive)) 0
  -- half a ring: by either side on an adaptive leg; on a deterministic one from an even coordinate plus alone, from an odd one minus alone
  pub half_plus : taken (one 0 1 0 (leg 2 Adaptive)) 0 ≡ gives (one 0 0 0 (leg 2 Adaptive)) 0
  pub half_minus : taken (one 0 3 0 (leg 2 Adaptive)) 1 ≡ gives (one 0 0 0 (leg 2 Adaptive)) 0
  pub half_even : taken (one 0 3 0 (leg 2 Deterministic)) 1 ≡ gives (one 0 3 0 (leg 2 Deterministic)) 18
  pub half_odd : taken (one 1 0 0 (leg 3 Deterministic)) 1 ≡ gives (one 1 1 0 (leg 3 Deterministic)) 0
  -- off the one walk of a deterministic leg; by a hop that another allowed walk ends with
  pub off : taken (one 0 4 0 (leg 5 Deterministic)) 2 ≡ gives (one 0 4 0 (leg 5 Deterministic)) 18
  pub other : taken (one 0 5 1 (leg 5 Adaptive)) 2 ≡ gives (one 0 1 0 (leg 5 Adaptive)) 0
