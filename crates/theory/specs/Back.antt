-- 'Taking a hop back', for any machine: in the document's words, and as it is computed.
use Rattle.std.specs.Prelude.{ℕ, zero, suc, ◌<◌, ◌≡◌, ◌↔◌, Bool, true, cond, List, [], ◌∷◌, ◌++◌, drop, eqb}
use Rattle.std.proofs.Math.Option.{Option, none, some}
use Rattle.numbers.specs.Numbers.{not_back}
use Rattle.theory.specs.Machine.{Machine}
use Rattle.theory.specs.Clear.{Allows, lead}
use Rattle.theory.specs.Packet.{Stepped, may_go, step}
use Rattle.theory.specs.Marks.{Marks, passed, begins, hop, marked, new_of, Goes, Reached}

module _ {Leg P : Type 0} (M : Machine Leg) (K : Marks Leg P) where
  -- An allowed walk from the packet's source ends at q by the hop d.
  abbrev pub EndsBy : P → ℕ → Type 0
  EndsBy q d = (ds : List ℕ) × Goes M K (new_of M K q) (ds ++ (d ∷ [])) q

  -- e is a packet before q: allowed hops, or none, reach it from its source, and an allowed step in direction d gives q.
  pub record Before (q : P) (d : ℕ) (e : P) : Type 0 where
    pub reached : Reached M K e
    pub allowed : may_go M (marked M K) e d ≡ true
    pub gives : hop M K e d ≡ q

  -- o is the packet before q, the only one; and none, which is 18, exactly where there is no such walk.
  pub record TakenBack (q : P) (d : ℕ) (o : Option P) : Type 0 where
    pub granted : (e : P) → (o ≡ some e) ↔ Before q d e
    pub only : (e f : P) → Before q d e → Before q d f → e ≡ f
    pub refused : (o ≡ none) ↔ (EndsBy q d → ⊥)

-- ---- as it is computed: the last hop came from the neighbour against its direction, on a leg that is known from the mark

-- Some walk that the leg l allows from a crosses the link that leaves u in direction d.
pub record Crosses {Leg : Type 0} (M : Machine Leg) (l : Leg) (a u d : ℕ) : Type 0 where
  pub walk : List ℕ
  pub allowed : Allows M l a walk
  pub leads : lead M a walk ≡ u
  pub onward : M.allowed l u d ≡ true

-- What a machine tells of hops taken back. `against p d`: the neighbour of p against the direction d. `crosses l a u d`: the test for Crosses.
pub record Backward (Leg : Type 0) : Type 0 where
  pub against : ℕ → ℕ → ℕ
  pub crosses : Leg → ℕ → ℕ → ℕ → Bool

-- What they have to meet.
pub record BackLaws {Leg : Type 0} (M : Machine Leg) (B : Backward Leg) : Type 0 where
  pub inside : (p d : ℕ) → p < M.size → B.against p d < M.size
  pub home : (l : Leg) (p d : ℕ) → p < M.size → M.target l < M.size → M.allowed l p d ≡ true → B.against (M.next p d) d ≡ p
  pub forth : (l : Leg) (p d : ℕ) → p < M.size → M.target l < M.size → M.allowed l (B.against p d) d ≡ true → M.next (B.against p d) d ≡ p
  pub crossed : (l : Leg) (a u d : ℕ) → a < M.size → u < M.size → M.target l < M.size → (B.crosses l a u d ≡ true) ↔ Crosses M l a u d

-- The number of the leg that the last hop to p was made on: the current one, unless it begins at p; then the nearest before it that does not.
unfoldable pub last_leg : (ℕ → ℕ) → ℕ → ℕ → Option ℕ
last_leg begin p zero = cond (eqb (begin zero) p) none (some zero)
last_leg begin p (suc m) =
    let before = last_leg begin p m in
    cond (eqb (begin (suc m)) p) before (some (suc m))

module _ {Leg P : Type 0} (M : Machine Leg) (B : Backward Leg) (K : Marks Leg P) where
  -- Where leg number i of the packet's route begins.
  abbrev pub begin : P → ℕ → ℕ
  begin q = begins M.target (K.source q) (K.route q)

  -- The packet before, on leg number i, where the legs from i on are these.
  abbrev pub back_on : P → ℕ → ℕ → List Leg → Option P
  back_on q d i [] = none
  back_on q d i (l ∷ ls) =
      let u = B.against (K.node q) d in
      cond (B.crosses l (begin q i) u d) (some (K.put q u i)) none

  abbrev pub back_from : P → ℕ → Option ℕ → Option P
  back_from q d none = none
  back_from q d (some i) = back_on q d i (drop i (K.route q))

  -- The mark is judged as it stands: on a leg whose target is the present node it was stored by no hop.
  unfoldable pub take_back : P → ℕ → Option P
  take_back q d =
      cond (eqb (passed M.target (K.node q) (drop (K.mark q) (K.route q))) 0)
      (back_from q d (last_leg (begin q) (K.node q) (K.mark q)))
      none

  -- The call: the checks of a step, then 18. A refusal leaves the packet as it was.
  abbrev pub back_answer : P → Option P → Stepped P
  back_answer q none = record { packet = q; number = not_back }
  back_answer q (some e) = record { packet = e; number = 0 }

  unfoldable pub back : P → ℕ → Stepped P
  back q d = cond (eqb (K.check q) 0) (back_answer q (take_back q d)) (record { packet = q; number = K.check q })

  -- undone: from a packet that allowed hops, or none, reach from a new one at its source, an allowed step and then its direction taken back give the first
  -- packet. redone: taking back, where granted, then stepping gives the later one. refused: 18 exactly where no allowed walk from the packet's source ends
  -- at this packet by that hop. otherwise: a packet that passes the checks gets no other refusal.
  pub record Undoing : Type 0 where
    pub undone : (q : P) (d : ℕ) → Reached M K q → (step M (marked M K) q d).number ≡ 0 → back (step M (marked M K) q d).packet d ≡ record { packet = q; number = 0 }
    pub redone : (q e : P) (d : ℕ) → back q d ≡ record { packet = e; number = 0 } → step M (marked M K) e d ≡ record { packet = q; number = 0 }
    pub refused : (q : P) (d : ℕ) → K.check q ≡ 0 → (back q d ≡ record { packet = q; number = not_back }) ↔ (EndsBy M K q d → ⊥)
    pub otherwise : (q : P) (d : ℕ) → K.check q ≡ 0 → ((back q d).number ≡ 0 → ⊥) → back q d ≡ record { packet = q; number = not_back }
