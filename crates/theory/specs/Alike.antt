-- Two machines that differ in the directions that a leg allows: when a leg has the same walks in both, and when calls are answered alike.
use Rattle.std.specs.Prelude.{ℕ, ◌≡◌, ◌↔◌, Bool, List, [], ◌∷◌}
use Rattle.theory.specs.Machine.{Machine}
use Rattle.theory.specs.Clear.{Allows}
use Rattle.theory.specs.Run.{Call, Step, Walk, start, ran}
use Rattle.theory.specs.Packet.{Packets, step, walk, after, after_all}

-- The machine with other directions allowed.
abbrev pub allowing : {Leg : Type 0} → Machine Leg → (Leg → ℕ → ℕ → Bool) → Machine Leg
allowing M allowed = record { size = M.size; ways = M.ways; next = M.next; hops = M.hops; target = M.target; allowed = allowed }

module _ {Leg : Type 0} (M N : Machine Leg) where
  -- The leg l has the same walks from p in both.
  abbrev pub SameWalks : Leg → ℕ → Type 0
  SameWalks l p = (ds : List ℕ) → Allows M l p ds ↔ Allows N l p ds

  -- So has each leg of a route from p, from its own start.
  abbrev pub SameLegs : ℕ → List Leg → Type 0
  SameLegs p [] = Unit {0}
  SameLegs p (l ∷ ls) = SameWalks l p × SameLegs (M.target l) ls

  module _ {P : Type 0} (K : Packets Leg P) where
    -- A call is answered alike: the packet, the number, the hops and the ending are the same.
    abbrev pub SameAnswer : P → Call → Type 0
    SameAnswer q (Step d) = step M K q d ≡ step N K q d
    SameAnswer q (Walk ds) = walk M K q ds ≡ walk N K q ds

    -- So is each call of a list. Each later call gets the packet as the last call returned or left it.
    abbrev pub SameAnswers : P → List Call → Type 0
    SameAnswers q [] = Unit {0}
    SameAnswers q (c ∷ cs) = SameAnswer q c × SameAnswers (after M K q c) cs

    -- A list of calls from a new packet of a route runs alike: each call is answered alike, the packet is the same afterwards, and so is the run, its hops
    -- among it.
    pub record RunsAlike (source : ℕ) (route : List Leg) (new : P) (calls : List Call) : Type 0 where
      pub answers : SameAnswers new calls
      pub packet : after_all M K new calls ≡ after_all N K new calls
      pub run : ran M (start M source route) calls ≡ ran N (start N source route) calls
