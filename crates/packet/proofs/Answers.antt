-- The answers' numbers are those of the step and the walk.
use Prim.Native.Nat.{ℕ, ◌≤◌}
use mathlib.Core.Path.{◌≡◌, ap, ◌∙◌}
use mathlib.Core.List.{List, [], ◌∷◌}
use lib.ListN.{length}
use Rattle.std.specs.Prelude.{Result, Ok, Err}
use Rattle.numbers.specs.declared.Refusal.{Refusal}
use Rattle.numbers.specs.Refusals.{answer_number}
use Rattle.numbers.proofs.Refusals.{answer-0, answer-number}
use Rattle.theory.specs.Packet as T
use Rattle.theory.proofs.Cases.{test}
use Rattle.theory.proofs.Steps.{walk_most}
use Rattle.shape.specs.declared.shape.Shape.{Shape}
use Rattle.machine.specs.Torus.{torus}
use Rattle.packet.specs.declared.packet.Packet.{Packet}
use Rattle.packet.specs.declared.stepper.Stepped.{Stepped}
use Rattle.packet.specs.declared.stepper.Walked.{Walked}
use Rattle.packet.specs.Packet.{stored}
use Rattle.packet.specs.Answers.{ending_number, ended_as, told, told_walk}
use Rattle.packet.specs.Steps.{stepped, Gives}

-- What a call hands back, with its number.
gives_told : (q : Packet) (w : T.Stepped Packet) (r : Result Packet Refusal) → Gives q w r → (stepped q r ≡ told w) × (answer_number (stepped q r).answer ≡ w.number)
unfolding told
gives_told q w (Ok p) g = (rw (g.packet, ← g.number, answer-0 (tt {0})), g.number)
gives_told q w (Err e) g = (rw (g.packet, ← g.number, answer-number e (tt {0})), g.number)

pub step_told : (q : Packet) (w : T.Stepped Packet) (r : Result Packet Refusal) (p : Stepped) → Gives q w r → p ≡ stepped q r → (p ≡ told w) × (answer_number p.answer ≡ w.number)
step_told q w r p g e = rw e (gives_told q w r g)

-- A walk that no check declines ends otherwise.
goes_number : (s : Shape) (q : Packet) (ds : List ℕ) → let w = T.goes (torus s) (stored s) q ds in ending_number (ended_as w.ending) ≡ T.walk_number w.ending
unfolding T.goes
goes_number s q [] = test (T.arrived (torus s) (stored s) q) (λ t. rw t) (λ t. rw t)
goes_number s q (d ∷ ds) =
    test (T.arrived (torus s) (stored s) q) (λ t. rw t)
    (λ t. test (T.may_go (torus s) (stored s) q d) (λ u. rw (t, u) (goes_number s ((stored s).hop q d) ds)) (λ u. rw (t, u)))

-- What a walk answers, with its number and its bound.
pub walk_told :
    (s : Shape) (q : Packet) (ds : List ℕ) (r : Walked) → let w = T.walk (torus s) (stored s) q ds in
    (w ≡ T.goes (torus s) (stored s) q ds) → r ≡ told_walk w → (r ≡ told_walk w) × ((ending_number r.ending ≡ T.walk_number w.ending) × (r.hops ≤ length ds))
unfolding told_walk
walk_told s q ds r k e =
    let w = T.walk (torus s) (stored s) q ds in
    let hops : r.hops ≡ w.hops = ap (λ x. x.hops) e in
    (e, (ap (λ x. ending_number x.ending) e ∙ rw k (goes_number s q ds), rw hops (walk_most (torus s) (stored s) q ds)))
