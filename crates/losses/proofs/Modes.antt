-- A loss on a deterministic leg is one on the adaptive leg.
use Prim.Native.Nat.{ℕ, ◌+◌}
use mathlib.Core.Path.{◌≡◌, refl}
use mathlib.Core.Bool.{Bool, true, false, cond, ◌&&◌, ◌||◌, false≢true}
use lib.Dec.{ltb, eqb}
use Rattle.shape.specs.declared.shape.Shape.{Shape}
use Rattle.shape.specs.declared.shape.Coords.{Coords}
use Rattle.shape.specs.Shape.{extent_of, coord_of}
use Rattle.machine.specs.declared.leg.Mode.{Mode}
use Rattle.machine.specs.declared.leg.Mode.TheVariants.{Adaptive, Deterministic}
use Rattle.machine.specs.Number.{Inside}
use Rattle.machine.specs.Hop.{dir_dim}
use Rattle.machine.specs.ByCoords.{moved_at}
use Rattle.legs.specs.Crossing.{can_cross}
use Rattle.legs.proofs.Modes.{more_crossed}
use Rattle.losses.specs.Loss.{loss_at, loss_kind, plus_of, link_meets, links_meet, node_meets, loss_meets}

-- A test that an adaptive leg passes where the deterministic one does.
abbrev More : (Mode → Bool) → Type 0
More f = f Deterministic ≡ true → f Adaptive ≡ true

or_true : (a b c d : Bool) → (a ≡ true → c ≡ true) → (b ≡ true → d ≡ true) → (a || b) ≡ true → (c || d) ≡ true
or_true true b c d f g h = rw (f refl)
or_true false true true d f g h = refl
or_true false true false d f g h = g refl
or_true false false c d f g h = absurd (false≢true h)

more_or : (f g : Mode → Bool) → More f → More g → More (λ m. f m || g m)
more_or f g = or_true (f Deterministic) (g Deterministic) (f Adaptive) (g Adaptive)

more_and : (k : Bool) (f : Mode → Bool) → More f → More (λ m. k && f m)
more_and true f h = h
more_and false f h = λ e. e

more_if : (k : Bool) (f g : Mode → Bool) → More f → More g → More (λ m. cond k (f m) (g m))
more_if true f g h k = h
more_if false f g h k = k

module _ (ties : ℕ → Bool) (s : Shape) (a t : Coords) (ia : Inside s a) (it : Inside s t) where
  more_link : (u : Coords) (plus : ℕ) → More (λ m. link_meets ties m s u plus a t)
  unfolding link_meets
  more_link u plus =
      let back : Mode → Bool = λ m. can_cross ties m s (moved_at s u plus) (plus + 1) a t in
      let guard = ltb (coord_of u (dir_dim plus)) (extent_of s (dir_dim plus)) in
      more_or (λ m. can_cross ties m s u plus a t) (λ m. guard && back m) (more_crossed ties s u plus a t ia it) (more_and guard back (more_crossed ties s (moved_at s u plus) (plus + 1) a t ia it))

  more_links : (u : Coords) (plus : ℕ) → More (λ m. links_meet ties m s u plus a t)
  unfolding links_meet
  more_links u plus =
      let v = moved_at s u (plus + 1) in
      more_or (λ m. link_meets ties m s u plus a t) (λ m. link_meets ties m s v plus a t) (more_link u plus) (more_link v plus)

  more_node : (u : Coords) → More (λ m. node_meets ties m s u a t)
  unfolding node_meets
  more_node u =
      let links : ℕ → Mode → Bool = λ plus m. links_meet ties m s u plus a t in
      more_or (links 0) (λ m. links 2 m || links 4 m) (more_links u 0) (more_or (links 2) (links 4) (more_links u 2) (more_links u 4))

  pub more_met : (w : ℕ) → loss_meets ties Deterministic s w a t ≡ true → loss_meets ties Adaptive s w a t ≡ true
  unfolding loss_meets
  more_met w =
      let node : Mode → Bool = λ m. node_meets ties m s (loss_at w) a t in
      let link : Mode → Bool = λ m. link_meets ties m s (loss_at w) (plus_of (loss_kind w)) a t in
      let none : Mode → Bool = λ m. cond (eqb (loss_kind w) 9) (node m) false in
      more_if (ltb (loss_kind w) 6) (λ m. can_cross ties m s (loss_at w) (loss_kind w) a t) (λ m. cond (ltb (loss_kind w) 9) (link m) (none m)) (more_crossed ties s (loss_at w) (loss_kind w) a t ia it)
      (more_if (ltb (loss_kind w) 9) link none (more_link (loss_at w) (plus_of (loss_kind w)))
      (more_if (eqb (loss_kind w) 9) node (λ m. false) (more_node (loss_at w)) (λ h. h)))
