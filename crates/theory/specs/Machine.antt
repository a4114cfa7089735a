-- A machine as routes and packets see it; its laws; and of a route its hops, its destination and the legs left.
use Rattle.std.specs.Prelude.{ℕ, suc, ◌+◌, ◌<◌, ◌≡◌, Bool, true, false, cond, List, [], ◌∷◌, eqb}

-- Nodes are the numbers below size, directions those below ways. `next p d` is where the link that leaves p in direction d leads, `hops p t` the
-- hops from p to t, `target l` where the leg l ends, and `allowed l p d` whether the leg's mode allows the direction d at p.
pub record Machine (Leg : Type 0) : Type 0 where
  pub size : ℕ
  pub ways : ℕ
  pub next : ℕ → ℕ → ℕ
  pub hops : ℕ → ℕ → ℕ
  pub target : Leg → ℕ
  pub allowed : Leg → ℕ → ℕ → Bool

-- Of the legs of a route from p: where they end; and the sum of their lengths, where `far p t` is the length of a leg from p to t.
module _ {Leg : Type 0} (target : Leg → ℕ) where
  unfoldable pub end_by : ℕ → List Leg → ℕ
  end_by p [] = p
  end_by p (l ∷ ls) = end_by (target l) ls

  unfoldable pub sum_by : (ℕ → ℕ → ℕ) → ℕ → List Leg → ℕ
  sum_by far p [] = 0
  sum_by far p (l ∷ ls) = far p (target l) + sum_by far (target l) ls

module _ {Leg : Type 0} (M : Machine Leg) where
  -- What a machine has to meet, of legs to a node and places that are nodes: an allowed direction is a direction, leads to a node and lowers the hops
  -- left by exactly one; no hops are left at the target and there alone; before the target some direction is allowed.
  pub record Laws : Type 0 where
    pub named : (l : Leg) (p d : ℕ) → p < M.size → M.target l < M.size → M.allowed l p d ≡ true → d < M.ways
    pub inside : (l : Leg) (p d : ℕ) → p < M.size → M.target l < M.size → M.allowed l p d ≡ true → M.next p d < M.size
    pub nearer : (l : Leg) (p d : ℕ) → p < M.size → M.target l < M.size → M.allowed l p d ≡ true → M.hops p (M.target l) ≡ suc (M.hops (M.next p d) (M.target l))
    pub there : (p : ℕ) → p < M.size → M.hops p p ≡ 0
    pub here : (p t : ℕ) → p < M.size → t < M.size → M.hops p t ≡ 0 → t ≡ p
    pub onward : (l : Leg) (p : ℕ) → p < M.size → M.target l < M.size → (M.target l ≡ p → ⊥) → (d : ℕ) × (d < M.ways) × (M.allowed l p d ≡ true)

  -- The targets of a route's legs are nodes.
  abbrev pub Inside : List Leg → Type 0
  Inside [] = Unit {0}
  Inside (l ∷ ls) = (M.target l < M.size) × Inside ls

  -- The hops of a route from p, and where it ends.
  abbrev pub hops_of : ℕ → List Leg → ℕ
  hops_of p ls = sum_by M.target M.hops p ls

  abbrev pub end_of : ℕ → List Leg → ℕ
  end_of p ls = end_by M.target p ls

  -- The front leg's mode allows d at p. With no leg left no direction is allowed.
  unfoldable pub allows : ℕ → List Leg → ℕ → Bool
  allows p [] d = false
  allows p (l ∷ ls) d = M.allowed l p d

-- The front leg is dropped while its target is p; a leg behind it waits its turn.
unfoldable pub dropped : {Leg : Type 0} → (Leg → ℕ) → ℕ → List Leg → List Leg
dropped target p [] = []
dropped target p (l ∷ ls) = cond (eqb (target l) p) (dropped target p ls) (l ∷ ls)
