-- The claim about a list of calls in which hops are taken back too: of the hops that stand, those taken back struck out.
use Rattle.std.specs.Prelude.{ℕ, suc, ◌≡◌, ◌↔◌, Bool, true, List, [], ◌∷◌, ◌++◌}
use Rattle.numbers.specs.Numbers.{not_back}
use Rattle.theory.specs.Machine.{Machine}
use Rattle.theory.specs.Run.{Call, Run, count, start, takes, moved, called}
use Rattle.theory.specs.Packet.{after}
use Rattle.theory.specs.Claim.{Tells, Holds}
use Rattle.theory.specs.Marks.{Marks, marked}
use Rattle.theory.specs.Back.{Backward, back}

-- A step or a walk, or a hop taken back, given its direction.
pub data AnyCall : Type 0 where
  Forth : Call → AnyCall
  Back : ℕ → AnyCall

module _ {Leg : Type 0} (M : Machine Leg) where
  -- The directions ds are taken in turn from the run r on, which is then t.
  abbrev pub TakesAll : Run Leg → List ℕ → Run Leg → Type 0
  TakesAll r [] t = r ≡ t
  TakesAll r (d ∷ ds) t = (takes M r d ≡ true) × TakesAll (moved M r d) ds t

  -- b is a run of the route before r by the hop d: all its hops are taken, from the start on, then d is taken, and leads to the place and the legs left of r.
  pub record RunBefore (source : ℕ) (route : List Leg) (r : Run Leg) (d : ℕ) (b : Run Leg) : Type 0 where
    pub taken : TakesAll (start M source route) b.taken b
    pub allowed : takes M b d ≡ true
    pub place : (moved M b d).place ≡ r.place
    pub legs : (moved M b d).legs ≡ r.legs

module _ {Leg P : Type 0} (M : Machine Leg) (B : Backward Leg) (K : Marks Leg P) (sound : ℕ → ℕ → Bool) (source : ℕ) (route : List Leg) where
  -- A hop taken back, of a packet q and the run r of the hops that stand. granted: it is granted exactly if some run of the route is before r by that hop.
  -- refused: else it is 18, which leaves the packet. fewer: one hop fewer stands then. struck: where d is the last hop that stands, the others are such a
  -- run: that hop is struck out.
  pub record TellsBack (q : P) (r : Run Leg) (d : ℕ) : Type 0 where
    pub granted : ((back M B K q d).number ≡ 0) ↔ ((b : Run Leg) × RunBefore M source route r d b)
    pub refused : ((back M B K q d).number ≡ 0 → ⊥) → back M B K q d ≡ record { packet = q; number = not_back }
    pub fewer : (b : Run Leg) → RunBefore M source route r d b → count r ≡ suc (count b)
    pub struck : (ds : List ℕ) → r.taken ≡ ds ++ (d ∷ []) → (b : Run Leg) × (b.taken ≡ ds) × RunBefore M source route r d b

  -- Every call tells the truth about the hops that stand, and after the calls all of demand 3 holds of them. A direction that is not that of the last hop may be
  -- granted too, where other hops of the route lead here by it: then it holds of whichever hops of the route lead to the packet before.
  abbrev pub BackClaim : P → Run Leg → List AnyCall → Type 0
  BackClaim q r [] = Holds M (marked M K) sound source route q r
  BackClaim q r (Forth c ∷ cs) = Tells M (marked M K) q r c × BackClaim (after M (marked M K) q c) (called M r c) cs
  BackClaim q r (Back d ∷ cs) =
      TellsBack q r d
      × ((b : Run Leg) → RunBefore M source route r d b → BackClaim (back M B K q d).packet b cs)
      × (((b : Run Leg) → RunBefore M source route r d b → ⊥) → BackClaim (back M B K q d).packet r cs)
