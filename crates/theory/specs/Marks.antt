-- 'The packet keeps its source and whole route, with a mark on the current leg', for any machine and any way of storing it.
use Rattle.std.specs.Prelude.{ℕ, zero, suc, ◌+◌, ◌<◌, ◌≤◌, ◌≡◌, true, cond, List, [], ◌∷◌, length, drop, eqb}
use Rattle.theory.specs.Machine.{Machine, Inside}
use Rattle.theory.specs.Packet.{Packets, may_go}

-- Of a packet its source, its whole route, its present node and its mark, which is the number of the current leg, from 0 on, and the count of the legs just
-- past the last one. `put q n m` is q with the node n and the mark m, and all else as it is. `check q`: the checks that a call makes of q first, 0 or a number.
pub record Marks (Leg P : Type 0) : Type 0 where
  pub source : P → ℕ
  pub route : P → List Leg
  pub node : P → ℕ
  pub mark : P → ℕ
  pub put : P → ℕ → ℕ → P
  pub check : P → ℕ

-- What the storage has to meet.
pub record MarkLaws {Leg P : Type 0} (K : Marks Leg P) : Type 0 where
  pub source_put : (q : P) (n m : ℕ) → K.source (K.put q n m) ≡ K.source q
  pub route_put : (q : P) (n m : ℕ) → K.route (K.put q n m) ≡ K.route q
  pub node_put : (q : P) (n m : ℕ) → K.node (K.put q n m) ≡ n
  pub mark_put : (q : P) (n m : ℕ) → K.mark (K.put q n m) ≡ m
  pub put_put : (q : P) (n m n' m' : ℕ) → K.put (K.put q n m) n' m' ≡ K.put q n' m'
  pub put_same : (q : P) → K.put q (K.node q) (K.mark q) ≡ q

module _ {Leg : Type 0} (target : Leg → ℕ) where
  -- How many legs are dropped at p, as `dropped` drops them.
  unfoldable pub passed : ℕ → List Leg → ℕ
  passed p [] = 0
  passed p (l ∷ ls) =
      let more = passed p ls in
      cond (eqb (target l) p) (suc more) 0

  -- The mark m with the drops at p stored.
  abbrev pub settle : List Leg → ℕ → ℕ → ℕ
  settle route p m = m + passed p (drop m route)

  -- Where leg number i of a route from p begins: at p, or where the leg before it ends. Past the last leg: where the route ends.
  unfoldable pub begins : ℕ → List Leg → ℕ → ℕ
  begins p [] i = p
  begins p (l ∷ ls) zero = p
  begins p (l ∷ ls) (suc i) = begins (target l) ls i

module _ {Leg P : Type 0} (M : Machine Leg) (K : Marks Leg P) where
  -- The legs left are those from the mark on. Only a hop stores the drops, before it and again after it.
  unfoldable pub hop : P → ℕ → P
  hop q d =
      let r = K.route q in
      let n = M.next (K.node q) d in
      K.put q n (settle M.target r n (settle M.target r (K.node q) (K.mark q)))

  abbrev pub marked : Packets Leg P
  marked = record { node = K.node; legs = λ q. drop (K.mark q) (K.route q); check = K.check; hop = hop }

  -- The new packet of q's source and route: at its source, with the mark on its first leg still to travel.
  unfoldable pub new_of : P → P
  new_of q = K.put q (K.source q) (settle M.target (K.route q) (K.source q) 0)

  -- q is a new packet of the route from the source. `Good q`: q is well stored.
  pub record New (Good : P → Type 0) (source : ℕ) (route : List Leg) (q : P) : Type 0 where
    pub good : Good q
    pub from : K.source q ≡ source
    pub with : K.route q ≡ route
    pub new : new_of q ≡ q

  -- What 14 leaves: every node that the packet names is a node, travelled legs included, and the mark is at most just past the last leg.
  pub record Formed (q : P) : Type 0 where
    pub source : K.source q < M.size
    pub node : K.node q < M.size
    pub route : Inside M (K.route q)
    pub mark : K.mark q ≤ length (K.route q)

  -- Those and no others pass the checks. `Good` does not look at the node and the mark.
  pub record CheckLaws (Good : P → Type 0) : Type 0 where
    pub good_put : (q : P) (n m : ℕ) → Good q → Good (K.put q n m)
    pub passes : (q : P) → Good q → Formed q → K.check q ≡ 0
    pub good : (q : P) → K.check q ≡ 0 → Good q
    pub formed : (q : P) → K.check q ≡ 0 → Formed q

  -- The allowed walk ds leads from q to e.
  abbrev pub Goes : P → List ℕ → P → Type 0
  Goes q [] e = q ≡ e
  Goes q (d ∷ ds) e = (may_go M marked q d ≡ true) × Goes (hop q d) ds e

  -- Allowed hops, or none, reach q from a new packet at its source.
  abbrev pub Reached : P → Type 0
  Reached q = (ds : List ℕ) × Goes (new_of q) ds q
