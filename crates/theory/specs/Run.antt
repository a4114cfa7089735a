-- 'Runs': a list of step and walk calls, and the place, the legs left and the hops taken, worked out from the route and the directions offered,
-- never from a packet or an answer.
use Rattle.std.specs.Prelude.{ℕ, Bool, cond, List, [], ◌∷◌, ◌++◌, length}
use Rattle.theory.specs.Machine.{Machine, dropped, allows}

-- A step offers its direction; a walk offers its bytes in turn.
pub data Call : Type 0 where
  Step : ℕ → Call
  Walk : List ℕ → Call

-- The directions taken are the hops of a run.
pub record Run (Leg : Type 0) : Type 0 where
  pub place : ℕ
  pub legs : List Leg
  pub taken : List ℕ

module _ {Leg : Type 0} where
  -- The hop count.
  abbrev pub count : Run Leg → ℕ
  count r = length r.taken

  module _ (M : Machine Leg) where
    -- The front leg is dropped while its target is the place.
    unfoldable pub at : ℕ → List Leg → List ℕ → Run Leg
    at p ls ds = record { place = p; legs = dropped M.target p ls; taken = ds }

    -- They start as the source, the route's legs and 0.
    abbrev pub start : ℕ → List Leg → Run Leg
    start source route = at source route []

    -- A direction is taken if the front leg's mode allows it from the place; with no leg left no direction is taken.
    abbrev pub takes : Run Leg → ℕ → Bool
    takes r d = allows M r.place r.legs d

    -- The place moves over that link and the count rises by one.
    unfoldable pub moved : Run Leg → ℕ → Run Leg
    moved r d = at (M.next r.place d) r.legs (r.taken ++ (d ∷ []))

    -- Directions offered in turn, up to the first not taken. Otherwise nothing changes.
    unfoldable pub offered : Run Leg → List ℕ → Run Leg
    offered r [] = r
    offered r (d ∷ ds) = cond (takes r d) (offered (moved r d) ds) r

    unfoldable pub called : Run Leg → Call → Run Leg
    called r (Step d) = offered r (d ∷ [])
    called r (Walk ds) = offered r ds

    unfoldable pub ran : Run Leg → List Call → Run Leg
    ran r [] = r
    ran r (c ∷ cs) = ran (called r c) cs
