-- A run, board by board.
use Prim.Native.Nat.{ℕ, suc, ◌+◌, ◌-◌, ◌≤◌, ◌<◌}
use native.Mathlib.Numerals.{add-one}
use native.Mathlib.Omega.{arith}
use mathlib.Core.Path.{◌≡◌, refl, sym, ap, ◌∙◌}
use mathlib.Core.List.{List, [], ◌++◌, append_assoc, append-nil}
use lib.ListN.{length, take, drop, length-append, length-drop, take-append-drop, drop_of_length-le}
use lib.Seq.{length-take-le, take_all, take-append_seam, drop-append_seam, drop-drop}
use Rattle.plan.specs.Checks.{large}
use Rattle.planned_sheet.specs.Sheet.{planned_sheet}
use Rattle.std.specs.Prelude.{Option, Some, None, IfSome}
use Rattle.planner.specs.declared.run.Run.{Run}
use Rattle.planner.specs.Run.{run_sheets, run_next, joined, boards, run_bytes, run_of, run_after, RunMade}
use Rattle.planner.specs.Known.{Work}
use Rattle.planner.specs.Steps.{Boarded}
use Rattle.planner.proofs.ByBoard.{Dead, Fits, Full, by_board}

some_same : (m n : ℕ) → ◌≡◌ {A = Option ℕ} (Some m) (Some n) → m ≡ n
some_same m n e = cc

none_some : (m : ℕ) → ◌≡◌ {A = Option ℕ} None (Some m) → ⊥
none_some m e = let z : ◌≡◌ {A = ℕ} 0 1 = cc in omega arith

-- The first `size` bytes of t are the sheets of the boards before `next`
pub record Running (p : List ℕ) (from all : ℕ) (o t : List ℕ) (size next : ℕ) : Type 0 where
  pub within : size ≤ length o
  pub long : length t ≡ length o
  pub bytes : joined (run_sheets p from (all - from) (length o)) ≡ take size t ++ joined (run_sheets p next (all - next) (length o - size))
  pub later : run_next p from (all - from) (length o) ≡ run_next p next (all - next) (length o - size)
  pub rest : drop size t ≡ drop size o

module _ (p : List ℕ) (from all : ℕ) (o : List ℕ) where
  pub begin : Running p from all o o 0 from
  begin =
      let z : length o - 0 ≡ length o = omega arith in
      record { within = omega arith; long = refl; bytes = rw z; later = rw z; rest = refl }

  module _ (t : List ℕ) (size next : ℕ) (g : Running p from all o t size next) where
    pub room_left : length (drop size t) ≡ length o - size
    room_left = length-drop size t ∙ ap (λ n. n - size) g.long

    pub parts : (u : List ℕ) → u ≡ drop size t → take size t ++ u ≡ t
    parts u e = rw e (take-append-drop size t)

    -- A run ends where no sheet more is written.
    module _ (e : all ≡ boards p) where
      pub ended :
          joined (run_sheets p next (all - next) (length o - size)) ≡ [] → run_next p next (all - next) (length o - size) ≡ next →
          (◌≡◌ {A = Run} (record { size = size; next = next }) (run_of p from (length o))) × (t ≡ run_after p from o)
      unfolding run_of run_after run_bytes
      ended none here =
          let b : run_bytes p from (length o) ≡ take size t = rw (sym e) (g.bytes ∙ ap (λ x. take size t ++ x) none ∙ append-nil (take size t)) in
          let n : length (take size t) ≡ size = length-take-le size t (omega (arith, g.within, g.long)) in
          let m : run_next p from (boards p - from) (length o) ≡ next = rw (sym e) (g.later ∙ here) in
          (rw (b, n, m), rw (b, n, sym g.rest) (sym (take-append-drop size t)))

    -- A board's turn, with what is left of the lent bytes.
    module _ (l : next < all) (r : Option ℕ) (u : List ℕ) (b : Boarded p next (drop size t) r u) where
      abbrev sheet : List ℕ
      sheet = planned_sheet large p next

      abbrev n : ℕ
      n = all - suc next

      abbrev room : ℕ
      room = length o - size

      one_more : all - next ≡ suc n
      one_more = omega arith

      dead_onward : (m : ℕ) → r ≡ Some m → Dead p next n room → Running p from all o (take size t ++ u) (size + m) (suc next)
      dead_onward m is d =
          let k = b.dead d.dead in
          let same : take size t ++ u ≡ t = parts u k.1 in
          let at : size + m ≡ size = omega (arith, some_same m 0 (sym is ∙ k.0)) in
          rw (same, at)
          (record {
            within = g.within;
            long = g.long;
            bytes = rw (one_more, d.sheets) at g.bytes;
            later = rw (one_more, d.next) at g.later;
            rest = g.rest;
          })

      fits_onward : (m : ℕ) → r ≡ Some m → Fits p next n room → Running p from all o (take size t ++ u) (size + m) (suc next)
      unfolding joined
      fits_onward m is f =
          let k = b.fits f.sound (omega (arith, room_left, f.enough)) in
          let em : m ≡ length sheet = some_same m (length sheet) (sym is ∙ k.0) in
          let m' : length (take size t) ≡ size = length-take-le size t (omega (arith, g.within, g.long)) in
          let front : List ℕ = take size t ++ sheet in
          let behind : List ℕ = drop (length sheet) (drop size t) in
          let long : length front ≡ size + length sheet = length-append (take size t) sheet ∙ omega arith in
          let split : take size t ++ u ≡ front ++ behind = ap (λ x. take size t ++ x) k.1 ∙ sym (append_assoc (take size t) sheet behind) in
          let first : take (size + length sheet) (front ++ behind) ≡ front = ap (λ i. take i (front ++ behind)) (sym long) ∙ take-append_seam front behind in
          let left : room - length sheet ≡ length o - (size + length sheet) = omega arith in
          rw (em, split)
          (record {
            within = omega (arith, g.within, f.enough);
            long = length-append front behind ∙ omega (arith, long, length-drop (length sheet) (drop size t), room_left, g.within, f.enough);
            bytes = (rw (one_more, f.sheets, left) at g.bytes) ∙ sym (append_assoc (take size t) sheet _) ∙ rw first;
            later = rw (one_more, f.next, left) at g.later;
            rest =
                ap (λ i. drop i (front ++ behind)) (sym long)
                ∙ drop-append_seam front behind
                ∙ ap (drop (length sheet)) g.rest
                ∙ drop-drop (length sheet) size o;
          })

      onward : (m : ℕ) → r ≡ Some m → Running p from all o (take size t ++ u) (size + m) (suc next)
      onward m is = by_board p next n room (dead_onward m is) (fits_onward m is) (λ f. absurd (none_some m (sym (b.full f.sound (omega (arith, room_left, f.short))).0 ∙ is)))

      stop :
          r ≡ None → all ≡ boards p →
          (◌≡◌ {A = Run} (record { size = size; next = next }) (run_of p from (length o))) × (take size t ++ u ≡ run_after p from o) × (length (take size t ++ u) ≡ length o)
      unfolding joined
      stop off e =
          by_board p next n room
          (λ d. absurd (none_some 0 (sym off ∙ (b.dead d.dead).0)))
          (λ f. absurd (none_some _ (sym off ∙ (b.fits f.sound (omega (arith, room_left, f.enough))).0)))
          (λ f.
          let same = parts u (b.full f.sound (omega (arith, room_left, f.short))).1 in
          let w = ended e (rw (one_more, f.sheets)) (rw (one_more, f.next)) in
          (w.0, same ∙ w.1, ap length same ∙ g.long))

    -- The same of the part of t from `size` on.
    module _ (l : next < all) (r : Option ℕ) (u : List ℕ) (b : Boarded p next (take (length t - size) (drop size t)) r u) where
      abbrev whole : List ℕ
      whole = take size t ++ (u ++ drop (length t - size) (drop size t))

      tail : Boarded p next (drop size t) r u
      tail = rw (take_all (length t - size) (drop size t) (omega (arith, length-drop size t))) at b

      put : whole ≡ take size t ++ u
      put =
          let none : drop (length t - size) (drop size t) ≡ [] = drop_of_length-le (drop size t) {i = length t - size} (omega (arith, length-drop size t)) in
          rw none (ap (λ x. take size t ++ x) (append-nil u))

      pub turned : (m : ℕ) → r ≡ Some m → Running p from all o whole (size + m) (next + 1)
      turned m is = rw (put, add-one next) (onward l r u tail m is)

      pub stopped :
          r ≡ None → all ≡ boards p →
          (◌≡◌ {A = Run} (record { size = size; next = next }) (run_of p from (length o))) × (whole ≡ run_after p from o) × (length whole ≡ length o)
      stopped off e = rw put (stop l r u tail off e)

    pub all_done : all ≤ next → all ≡ boards p → (◌≡◌ {A = Run} (record { size = size; next = next }) (run_of p from (length o))) × (t ≡ run_after p from o)
    unfolding joined run_sheets run_next
    all_done l e = let z : all - next ≡ 0 = omega arith in ended e (rw z) (rw z)

-- ---- what holds at a turn, whatever the workspace has
pub record RunSoFar (p work : List ℕ) (from all : ℕ) (o t : List ℕ) (size next : ℕ) : Type 0 where
  pub within : size ≤ length o
  pub long : length t ≡ length o
  pub running : Work p work → Running p from all o t size next

module _ (p work : List ℕ) (from all : ℕ) (o : List ℕ) where
  pub run_begin : RunSoFar p work from all o o 0 from
  run_begin = record { within = omega arith; long = refl; running = λ _. begin p from all o }

  module _ (t : List ℕ) (size next : ℕ) (g : RunSoFar p work from all o t size next) where
    module _ (l : next < all) (r : Option ℕ) (u : List ℕ) (fits : IfSome r (λ m. m ≤ length (take (length t - size) (drop size t)))) (same : length u ≡ length (take (length t - size) (drop size t)))
        (b : Work p work → Boarded p next (take (length t - size) (drop size t)) r u) where
      abbrev part : ℕ
      part = length (take (length t - size) (drop size t))

      part_is : part ≡ length o - size
      part_is = omega (arith, ap length (take_all (length t - size) (drop size t) (omega (arith, length-drop size t))), length-drop size t, g.long)

      pub run_long : length (take size t ++ (u ++ drop (length t - size) (drop size t))) ≡ length o
      run_long =
          let front : length (take size t) ≡ size = length-take-le size t (omega (arith, g.within, g.long)) in
          let none : drop (length t - size) (drop size t) ≡ [] = drop_of_length-le (drop size t) {i = length t - size} (omega (arith, length-drop size t)) in
          rw none (length-append (take size t) (u ++ []) ∙ omega (arith, front, ap length (append-nil u), same, part_is, g.within))

      pub run_turned : (m : ℕ) → r ≡ Some m → RunSoFar p work from all o (take size t ++ (u ++ drop (length t - size) (drop size t))) (size + m) (next + 1)
      run_turned m is =
          let few : m ≤ length (take (length t - size) (drop size t)) = rw is at fits in
          record { within = omega (arith, few, part_is, g.within); long = run_long; running = λ w. turned p from all o t size next (g.running w) l r u (b w) m is }

      pub run_full : r ≡ None → all ≡ boards p → (Work p work → RunMade p from o (record { size = size; next = next }) (take size t ++ (u ++ drop (length t - size) (drop size t))))
      run_full off e w = let k = stopped p from all o t size next (g.running w) l r u (b w) off e in record { run = k.0; bytes = k.1 }

    pub run_done : all ≡ next → all ≡ boards p → (Work p work → RunMade p from o (record { size = size; next = all }) t)
    run_done l e w = let k = all_done p from all o t size next (g.running w) (omega arith) e in record { run = ap (λ (n : ℕ). record { size = size; next = n }) l ∙ k.0; bytes = k.1 }
