-- The packet that `new_packet` makes is a new packet of its legs.
use Prim.Native.Nat.{ℕ, suc, ◌+◌, ◌-◌, ◌≤◌}
use native.Mathlib.Omega.{arith}
use mathlib.Core.Path.{◌≡◌, refl, ap}
use mathlib.Core.List.{List, [], ◌∷◌, ◌++◌, append_assoc}
use lib.ListN.{length, get_or, replicate, length-append}
use lib.Seq.{get_or-append_seam}
use Rattle.theory.specs.Marks.{new_of, New}
use Rattle.shape.specs.declared.shape.Shape.{Shape}
use Rattle.machine.specs.declared.leg.Leg.{Leg}
use Rattle.machine.specs.declared.leg.Mode.{Mode}
use Rattle.machine.specs.Torus.{leg, torus}
use Rattle.packet.specs.declared.packet.Packet.{Packet}
use Rattle.packet.specs.declared.route.Route.{Route}
use Rattle.packet.specs.Packet.{most_legs, no_leg, legs_from, put, packet_with, kept, WellStored}
use Rattle.packet.specs.New.{legs_to, first_or, array_with, new_packet, source_packet}
use Rattle.packet.specs.Steps.{settled}

-- The legs of an array behind others.
from_append : (xs ls ys : List Leg) → legs_from (xs ++ (ls ++ ys)) (length xs) (length ls) ≡ ls
unfolding legs_from
from_append xs [] ys = refl
from_append xs (l ∷ ls) ys =
    let at : length (xs ++ (l ∷ [])) ≡ suc (length xs) = rw (length-append xs (l ∷ [])) (omega arith) in
    let here : get_or (xs ++ (l ∷ (ls ++ ys))) (length xs) no_leg ≡ l = get_or-append_seam xs l (ls ++ ys) no_leg in
    let behind : legs_from (xs ++ (l ∷ (ls ++ ys))) (suc (length xs)) (length ls) ≡ ls = rw (← at, ← append_assoc xs (l ∷ []) (ls ++ ys)) (from_append (xs ++ (l ∷ [])) ls ys) in
    cc

route_new : (ls : List Leg) → legs_from (array_with ls) 0 (length ls) ≡ ls
route_new ls = from_append [] ls (replicate (most_legs - length ls) (first_or ls))

zero_more : (n : ℕ) → 0 + n ≡ n
zero_more n = omega arith

pub new_is : (s : Shape) (S : ℕ) (ls : List Leg) → length ls ≤ most_legs → New (torus s) (kept s) WellStored S ls (new_packet S ls)
unfolding new_packet packet_with new_of
new_is s S ls few = record {
  good = few;
  from = refl;
  with = route_new ls;
  new = ap (put (new_packet S ls) S) (rw (route_new ls) (zero_more _));
}

-- As the code makes it: the drops at the source are stored.
pub settled_new : (S : ℕ) (ls : List Leg) → settled (source_packet S ls) ≡ new_packet S ls
unfolding settled source_packet new_packet packet_with
settled_new S ls = ap (put (new_packet S ls) S) (rw (route_new ls) (zero_more _))

pub source_few : (S D : ℕ) (r : Route) (q : Packet) → q ≡ source_packet S (legs_to D r) → q.count ≤ most_legs
unfolding source_packet packet_with legs_to
source_few S D (Route.Direct m) q e = rw e (omega arith)
source_few S D (Route.Via v m n) q e = rw e (omega arith)
source_few S D (Route.Vias v w m n o) q e = rw e (omega arith)

-- By the cases of a route.
module _ (S D : ℕ) (r : Route) (q : Packet) where
  pub source_direct : (m : Mode) (l : Leg) → r ≡ Route.Direct m → l ≡ leg D m → q ≡ packet_with S S (l ∷ l ∷ l ∷ []) 1 0 → q ≡ source_packet S (legs_to D r)
  unfolding source_packet legs_to
  source_direct m l e el eq = rw (eq, e, el)

  pub source_via : (v : ℕ) (m n : Mode) (l k : Leg) → r ≡ Route.Via v m n → l ≡ leg v m → k ≡ leg D n → q ≡ packet_with S S (l ∷ k ∷ l ∷ []) 2 0 → q ≡ source_packet S (legs_to D r)
  unfolding source_packet legs_to
  source_via v m n l k e el ek eq = rw (eq, e, el, ek)

  pub source_vias :
      (v w : ℕ) (m n o : Mode) (l k j : Leg) → r ≡ Route.Vias v w m n o → l ≡ leg v m → k ≡ leg w n → j ≡ leg D o →
      q ≡ packet_with S S (l ∷ k ∷ j ∷ []) 3 0 → q ≡ source_packet S (legs_to D r)
  unfolding source_packet legs_to
  source_vias v w m n o l k j e el ek ej eq = rw (eq, e, el, ek, ej)
