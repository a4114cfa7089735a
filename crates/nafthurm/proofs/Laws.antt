-- What is said of packets holds of those that cross: a form stands for the very packet of the definition.
use Prim.Native.Nat.{ℕ, zero, suc}
use mathlib.Core.Path.{◌≡◌, refl, sym, ap}
use mathlib.Core.List.{List, [], ◌∷◌}
use mathlib.Core.Option.{Option, none, some}
use lib.ListN.{drop}
use lib.Dec.{eqb}
use Rattle.numbers.specs.declared.Refusal.{Refusal}
use Rattle.numbers.specs.Numbers.{wrong_packet}
use Rattle.numbers.specs.Refusals.{refusal}
use Rattle.theory.specs.Checks.{◌then◌}
use Rattle.theory.specs.Packet.{step, tried, may_go, walk, goes, arrived}
use Rattle.theory.specs.Marks.{passed, hop}
use Rattle.theory.specs.Back.{last_leg, begin, back_on, back_from, take_back, back_answer, back}
use Rattle.theory.proofs.Cases.{test}
use Rattle.shape.specs.declared.shape.Shape.{Shape}
use Rattle.shape.specs.Shape.{shape_error}
use Rattle.machine.specs.declared.leg.Leg.{Leg}
use Rattle.machine.specs.declared.leg.Mode.{Mode}
use Rattle.machine.specs.declared.leg.Mode.TheVariants.{Adaptive, Deterministic}
use Rattle.machine.specs.Torus.{torus, leg}
use Rattle.legs.specs.Backward.{backward}
use Rattle.packet.specs.declared.packet.Packet.{Packet}
use Rattle.packet.specs.Packet.{route_of, put, packet_with, bad_packet, packet_error, kept, stored}
use Rattle.packet.specs.New.{legs_to, new_packet}
use Rattle.packet.specs.Answers as Answers
use Rattle.packet.specs.Answers.{told_walk}
use Rattle.choice.specs.declared.outcome.Outcome.{Outcome}
use Rattle.choice.specs.Choice.{Choice, AdmitsIn, vias_of, modes_of}
use Rattle.choice.specs.Answer.{Answer, Given, answered}
use Rattle.choice.specs.Outcome.{told, told_as}
use Rattle.routes.specs.Kinds.{bits_of, kind_of}
use Rattle.routes.specs.Said.{mode_by, said_by, entry_for, heard}
use Rattle.routes.proofs.Saying.{admitted_legs}
use Rattle.nafthurm.specs.declared.forms.PacketForm.{PacketForm}
use Rattle.nafthurm.specs.declared.forms.RouteForm.{RouteForm}
use Rattle.nafthurm.specs.Forms.{packet_of, packet_for, stepped_for, walked_for, route_for, entry_in, outcome_in, packet_in, made_for}

-- The packet that a step, a walk or a hop taken back hands back has the source, the legs and the count that were lent.
abbrev Same : Packet → Packet → Type 0
Same q e = e ≡ put q e.node e.mark

module _ (s : Shape) where
  step_same : (q : Packet) (d : ℕ) → Same q (step (torus s) (stored s) q d).packet
  unfolding step tried hop
  step_same q d =
      test (eqb (packet_error s q) 0)
      (λ e. rw e (test (may_go (torus s) (stored s) q d) (λ h. rw h refl) (λ h. rw h refl)))
      (λ e. rw e refl)

  goes_same : (q : Packet) (ds : List ℕ) → Same q (goes (torus s) (stored s) q ds).packet
  unfolding goes hop
  goes_same q [] = test (arrived (torus s) (stored s) q) (λ e. rw e refl) (λ e. rw e refl)
  goes_same q (d ∷ ds) =
      test (arrived (torus s) (stored s) q)
      (λ e. rw e refl)
      (λ e. rw e (test (may_go (torus s) (stored s) q d) (λ h. rw h (goes_same (hop (torus s) (kept s) q d) ds)) (λ h. rw h refl)))

  walk_same : (q : Packet) (ds : List ℕ) → Same q (walk (torus s) (stored s) q ds).packet
  unfolding walk
  walk_same q ds = test (eqb (packet_error s q) 0) (λ e. rw e (goes_same q ds)) (λ e. rw e refl)

  on_same : (q : Packet) (d i : ℕ) (ls : List Leg) → Same q (back_answer (torus s) (backward s) (kept s) q (back_on (torus s) (backward s) (kept s) q d i ls)).packet
  on_same q d i [] = refl
  on_same q d i (l ∷ ls) =
      test ((backward s).crosses l (begin (torus s) (backward s) (kept s) q i) ((backward s).against q.node d) d) (λ e. rw e refl) (λ e. rw e refl)

  from_same : (q : Packet) (d : ℕ) (i : Option ℕ) → Same q (back_answer (torus s) (backward s) (kept s) q (back_from (torus s) (backward s) (kept s) q d i)).packet
  from_same q d none = refl
  from_same q d (some i) = on_same q d i (drop i (route_of q))

  back_same : (q : Packet) (d : ℕ) → Same q (back (torus s) (backward s) (kept s) q d).packet
  unfolding back take_back
  back_same q d =
      test (eqb (packet_error s q) 0)
      (λ e.
      rw e
      (test (eqb (passed (torus s).target q.node (drop q.mark (route_of q))) 0)
      (λ h. rw h (from_same q d (last_leg (begin (torus s) (backward s) (kept s) q) q.node q.mark)))
      (λ h. rw h refl)))
      (λ e. rw e refl)

packet_kept : (f : PacketForm) (q : Packet) → Same (packet_of f) q → packet_of (packet_for f q) ≡ q
unfolding packet_of
packet_kept f q h = sym h

-- So the packets of a list of calls are those of the definitions.
module _ (s : Shape) (f : PacketForm) where
  pub stepped_is : (d : ℕ) → packet_of (stepped_for f (Answers.told (step (torus s) (stored s) (packet_of f) d))).packet ≡ (step (torus s) (stored s) (packet_of f) d).packet
  unfolding stepped_for Answers.told
  stepped_is d = packet_kept f (step (torus s) (stored s) (packet_of f) d).packet (step_same s (packet_of f) d)

  pub walked_is : (ds : List ℕ) → packet_of (walked_for f (told_walk (walk (torus s) (stored s) (packet_of f) ds))).packet ≡ (walk (torus s) (stored s) (packet_of f) ds).packet
  unfolding walked_for told_walk
  walked_is ds = packet_kept f (walk (torus s) (stored s) (packet_of f) ds).packet (walk_same s (packet_of f) ds)

  pub taken_back_is :
      (d : ℕ) →
      packet_of (stepped_for f (Answers.told (back (torus s) (backward s) (kept s) (packet_of f) d))).packet ≡ (back (torus s) (backward s) (kept s) (packet_of f) d).packet
  unfolding stepped_for Answers.told
  taken_back_is d = packet_kept f (back (torus s) (backward s) (kept s) (packet_of f) d).packet (back_same s (packet_of f) d)

-- A form with a number is that refusal; without one it says what its kind and vias say.
refused_as : (n : ℕ) (a : Answer) → (n ≡ 0 → ⊥) → Outcome.Refused (refusal n) ≡ told_as 0 (answered n a)
unfolding told_as answered
refused_as zero a h = absurd (h refl)
refused_as (suc n) a h = refl

pub refused_in : (D : ℕ) (f : RouteForm) → (f.number ≡ 0 → ⊥) → Outcome.Refused (refusal f.number) ≡ outcome_in D f
unfolding outcome_in
refused_in D f h = refused_as f.number _ h

pub said_in : (D : ℕ) (f : RouteForm) → f.number ≡ 0 → told_as 0 (said_by (entry_in D f)) ≡ outcome_in D f
unfolding outcome_in answered
said_in D f h = ap (λ n. told_as 0 (answered n (said_by (entry_in D f)))) (sym h)

-- The packet made of a route that a call gave is the new packet of that route.
pub new_is :
    (far : ℕ → ℕ → ℕ) (s : Shape) (S D : ℕ) (c : Choice) → AdmitsIn s S D c →
    packet_of (made_for (packet_in S D (outcome_in D (route_for (told far S (Given c)))))) ≡ new_packet S c
unfolding packet_of made_for packet_in new_packet packet_with legs_to outcome_in answered route_for told told_as heard entry_for said_by mode_by vias_of modes_of kind_of bits_of
new_is far s S D c a = admitted_legs (λ c. packet_of (made_for (packet_in S D (outcome_in D (route_for (told far S (Given c)))))) ≡ new_packet S c) s S D one (λ v m n _. two v m n) (λ v u m n o _. three v u m n o) c a
  where
    one : (m : Mode) → packet_of (made_for (packet_in S D (outcome_in D (route_for (told far S (Given (leg D m ∷ []))))))) ≡ new_packet S (leg D m ∷ [])
    one Adaptive = refl
    one Deterministic = refl

    two : (v : ℕ) (m n : Mode) → packet_of (made_for (packet_in S D (outcome_in D (route_for (told far S (Given (leg v m ∷ leg D n ∷ []))))))) ≡ new_packet S (leg v m ∷ leg D n ∷ [])
    two v Adaptive Adaptive = refl
    two v Adaptive Deterministic = refl
    two v Deterministic Adaptive = refl
    two v Deterministic Deterministic = refl

    three :
        (v u : ℕ) (m n o : Mode) →
        packet_of (made_for (packet_in S D (outcome_in D (route_for (told far S (Given (leg v m ∷ leg u n ∷ leg D o ∷ []))))))) ≡ new_packet S (leg v m ∷ leg u n ∷ leg D o ∷ [])
    three v u Adaptive Adaptive Adaptive = refl
    three v u Adaptive Adaptive Deterministic = refl
    three v u Adaptive Deterministic Adaptive = refl
    three v u Adaptive Deterministic Deterministic = refl
    three v u Deterministic Adaptive Adaptive = refl
    three v u Deterministic Adaptive Deterministic = refl
    three v u Deterministic Deterministic Adaptive = refl
    three v u Deterministic Deterministic Deterministic = refl

-- Of a refusal it is declined by every call: 5 or 6 of the shape, else 14.
pub new_refused : (s : Shape) (S D : ℕ) (e : Refusal) → packet_error s (packet_in S D (Outcome.Refused e)) ≡ (shape_error s then wrong_packet)
unfolding packet_in packet_with packet_error bad_packet
new_refused s S D e = refl
