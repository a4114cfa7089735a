-- What is claimed of the stepper, of every accepted shape: the claim about a list of calls, and taking back.
use Prim.Native.Nat.{ℕ, ◌<◌}
use mathlib.Core.Path.{◌≡◌}
use mathlib.Core.Bool.{Bool}
use mathlib.Core.List.{List}
use Rattle.theory.specs.Machine.{Inside}
use Rattle.theory.specs.Clear.{ClearLegs}
use Rattle.theory.specs.Run.{Call, start}
use Rattle.theory.specs.Claim.{Claim}
use Rattle.theory.specs.Marks.{New}
use Rattle.theory.specs.Back.{TakenBack, take_back, Undoing}
use Rattle.theory.specs.BackClaim.{AnyCall, BackClaim}
use Rattle.theory.proofs.Back.{taken_back, undoing}
use Rattle.theory.proofs.BackClaim.{marked_claim, back_claim}
use Rattle.shape.specs.declared.shape.Shape.{Shape}
use Rattle.shape.specs.Shape.{shape_error}
use Rattle.machine.specs.declared.leg.Leg.{Leg}
use Rattle.machine.specs.Number.{node_count}
use Rattle.machine.specs.Torus.{torus}
use Rattle.machine.proofs.Torus.{torus_laws}
use Rattle.legs.specs.Backward.{backward}
use Rattle.legs.proofs.Backward.{torus_backward}
use Rattle.packet.specs.declared.packet.Packet.{Packet}
use Rattle.packet.specs.Packet.{packet_error, kept, stored, WellStored}
use Rattle.packet.proofs.Stored.{kept_laws, check_laws}

module _ (s : Shape) (h : shape_error s ≡ 0) where
  -- For every new packet of a clear route and every list of step and walk calls; and of calls in which hops are taken back too.
  module _ (sound : ℕ → ℕ → Bool) (source : ℕ) (route : List Leg) (at : source < node_count s) (inside : Inside (torus s) route) (clear : ClearLegs (torus s) sound source route) (new : Packet) (n : New (torus s) (kept s) WellStored source route new) where
    pub stepper_claim : (calls : List Call) → Claim (torus s) (stored s) sound source route new calls
    stepper_claim = marked_claim (torus s) (torus_laws s h) (backward s) (torus_backward s h) (kept s) (kept_laws s) WellStored (check_laws s h) sound source route at inside clear new n

    pub stepper_backs : (calls : List AnyCall) → BackClaim (torus s) (backward s) (kept s) sound source route new (start (torus s) source route) calls
    stepper_backs = back_claim (torus s) (torus_laws s h) (backward s) (torus_backward s h) (kept s) (kept_laws s) WellStored (check_laws s h) sound source route at inside clear new n

  -- Of every packet that no check declines: the packet before it, or none, which is 18.
  pub stepper_taken : (q : Packet) (d : ℕ) → packet_error s q ≡ 0 → TakenBack (torus s) (kept s) q d (take_back (torus s) (backward s) (kept s) q d)
  stepper_taken q d e = taken_back (torus s) (torus_laws s h) (backward s) (torus_backward s h) (kept s) (kept_laws s) q d ((check_laws s h).formed q e)

  -- Step then back, back then step, and 18.
  pub stepper_undoing : Undoing (torus s) (backward s) (kept s)
  stepper_undoing = undoing (torus s) (torus_laws s h) (backward s) (torus_backward s h) (kept s) (kept_laws s) WellStored (check_laws s h)
