-- 'The packet': how packets are judged, the step and the walk, for any machine and any way of storing a packet.
use Rattle.std.specs.Prelude.{ℕ, suc, ◌<◌, ◌≡◌, Bool, true, false, cond, List, [], ◌∷◌, eqb}
use Rattle.numbers.specs.Numbers.{not_allowed}
use Rattle.theory.specs.Machine.{Machine, Inside, dropped, allows}
use Rattle.theory.specs.Run.{Call, Step, Walk}

-- A packet's present node and legs left; the checks that a call makes of it first, 0 or a number; and the packet after a hop.
pub record Packets (Leg P : Type 0) : Type 0 where
  pub node : P → ℕ
  pub legs : P → List Leg
  pub check : P → ℕ
  pub hop : P → ℕ → P

-- What a step, or taking a hop back, answers: the packet, and the number of the refusal or 0.
pub record Stepped (P : Type 0) : Type 0 where
  pub packet : P
  pub number : ℕ

-- A walk ends arrived, on a direction not allowed, with its bytes used up, or is declined by its checks.
pub data Ending : Type 0 where
  Arrived : Ending
  NotAllowed : Ending
  UsedUp : Ending
  Declined : ℕ → Ending

-- A walk's number: 15 for a direction not allowed, that of the checks where they decline it, else 0.
abbrev pub walk_number : Ending → ℕ
walk_number Arrived = 0
walk_number NotAllowed = not_allowed
walk_number UsedUp = 0
walk_number (Declined e) = e

-- The walk reports the hops it has taken with the packet and the ending.
pub record Walked (P : Type 0) : Type 0 where
  pub packet : P
  pub hops : ℕ
  pub ending : Ending

abbrev pub is_none : {A : Type 0} → List A → Bool
is_none [] = true
is_none (x ∷ xs) = false

module _ {Leg P : Type 0} (M : Machine Leg) (K : Packets Leg P) where
  -- Every packet is judged after the drops.
  abbrev pub judged : P → List Leg
  judged q = dropped M.target (K.node q) (K.legs q)

  abbrev pub may_go : P → ℕ → Bool
  may_go q d = allows M (K.node q) (judged q) d

  -- With no leg left the packet has arrived.
  abbrev pub arrived : P → Bool
  arrived q = is_none (judged q)

  -- What the storage has to meet. Of any packet: a hop leads over its link, and stores the drops, before it and again after it.
  pub record HopLaws : Type 0 where
    pub node_hop : (q : P) (d : ℕ) → K.node (K.hop q d) ≡ M.next (K.node q) d
    pub legs_hop : (q : P) (d : ℕ) → K.legs (K.hop q d) ≡ dropped M.target (M.next (K.node q) d) (judged q)

  -- Of packets that are well stored: so they are after a hop, and no check declines one whose nodes are all nodes of the machine.
  pub record PacketLaws (Good : P → Type 0) : Type 0 where
    pub hops : HopLaws
    pub good_hop : (q : P) (d : ℕ) → Good q → Good (K.hop q d)
    pub good_check : (q : P) → Good q → K.node q < M.size → Inside M (K.legs q) → K.check q ≡ 0

  -- A step returns the packet after one allowed hop. A refusal leaves the packet as it was.
  unfoldable pub tried : P → ℕ → Stepped P
  tried q d = cond (may_go q d) (record { packet = K.hop q d; number = 0 }) (record { packet = q; number = not_allowed })

  unfoldable pub step : P → ℕ → Stepped P
  step q d = cond (eqb (K.check q) 0) (tried q d) (record { packet = q; number = K.check q })

  abbrev pub halt : P → Ending → Walked P
  halt q e = record { packet = q; hops = 0; ending = e }

  abbrev pub further : Walked P → Walked P
  further w = record { packet = w.packet; hops = suc w.hops; ending = w.ending }

  -- One hop a byte. It ends with the first that holds: arrived; a direction not allowed; bytes used up.
  unfoldable pub goes : P → List ℕ → Walked P
  goes q [] = cond (arrived q) (halt q Arrived) (halt q UsedUp)
  goes q (d ∷ ds) = cond (arrived q) (halt q Arrived) (cond (may_go q d) (further (goes (K.hop q d) ds)) (halt q NotAllowed))

  unfoldable pub walk : P → List ℕ → Walked P
  walk q ds = cond (eqb (K.check q) 0) (goes q ds) (halt q (Declined (K.check q)))

  -- The packet as a call returned or left it, and after a list of calls.
  unfoldable pub after : P → Call → P
  after q (Step d) = (step q d).packet
  after q (Walk ds) = (walk q ds).packet

  unfoldable pub after_all : P → List Call → P
  after_all q [] = q
  after_all q (c ∷ cs) = after_all (after q c) cs
