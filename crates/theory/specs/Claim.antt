-- The claim about a list of step and walk calls: one record, for the whole list.
use Rattle.std.specs.Prelude.{ℕ, ◌+◌, ◌<◌, ◌≤◌, ◌≡◌, ◌↔◌, Bool, true, cond, List, [], ◌∷◌}
use Rattle.numbers.specs.Numbers.{not_allowed}
use Rattle.theory.specs.Machine.{Machine, hops_of, end_of}
use Rattle.theory.specs.Clear.{Sound, lead}
use Rattle.theory.specs.Run.{Call, Step, Walk, Run, count, start, takes, called, ran}
use Rattle.theory.specs.Packet.{Packets, may_go, arrived, step, walk, after, after_all}

module _ {Leg P : Type 0} (M : Machine Leg) (K : Packets Leg P) where
  -- A step is declined, with 15, exactly when its direction is not taken, and a walk reports the hops that it adds.
  abbrev pub Tells : P → Run Leg → Call → Type 0
  Tells q r (Step d) = (step M K q d).number ≡ cond (takes M r d) 0 not_allowed
  Tells q r (Walk ds) = count (called M r (Walk ds)) ≡ count r + (walk M K q ds).hops

  -- So does each call of a list. Each later call gets the packet as the last call returned or left it.
  abbrev pub Told : P → Run Leg → List Call → Type 0
  Told q r [] = Unit {0}
  Told q r (c ∷ cs) = Tells q r c × Told (after M K q c) (called M r c) cs

  module _ (sound : ℕ → ℕ → Bool) (source : ℕ) (route : List Leg) where
    -- Of a packet q and the run r of its hops. same_place: the packet's node is the place of the run.
    -- crossed: each hop taken crosses a sound link. led: the packet is where the hops lead. within: they are never more than the route's hops.
    -- not_stuck: while fewer some direction is allowed. when_arrived, at_end: it has arrived, at the destination, exactly when they are that many.
    pub record Holds (q : P) (r : Run Leg) : Type 0 where
      pub same_place : K.node q ≡ r.place
      pub crossed : Sound M sound source r.taken
      pub led : K.node q ≡ lead M source r.taken
      pub within : count r ≤ hops_of M source route
      pub not_stuck : count r < hops_of M source route → (d : ℕ) × (d < M.ways) × (may_go M K q d ≡ true)
      pub when_arrived : (arrived M K q ≡ true) ↔ (count r ≡ hops_of M source route)
      pub at_end : count r ≡ hops_of M source route → K.node q ≡ end_of M source route

    -- told: every call tells the truth about the run. holds: after the calls, all of the above.
    pub record Claim (new : P) (calls : List Call) : Type 0 where
      pub told : Told new (start M source route) calls
      pub holds : Holds (after_all M K new calls) (ran M (start M source route) calls)
