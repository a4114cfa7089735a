-- W's route sheet for source 0 as version 1 had it, and sheets of a ring of 4.
use Rattle.std.specs.Prelude.{ℕ, List, [], ◌∷◌, ◌≡◌}
use Rattle.plan.specs.Checks.{large}
use Rattle.plan.specs.Worked.{W}
use Rattle.conversion.specs.Converting.{keep_error, lost_entry}

-- Document 01's 47 bytes.
abbrev pub old_w : List ℕ
old_w =
    1 ∷ 0 ∷ 44 ∷ 0 ∷ 0 ∷ 0 ∷ 8
    ∷ 0 ∷ 1 ∷ 3 ∷ 0 ∷ 4
    ∷ 0 ∷ 2 ∷ 2 ∷ 0 ∷ 3
    ∷ 0 ∷ 5 ∷ 2 ∷ 0 ∷ 4
    ∷ 0 ∷ 6 ∷ 2 ∷ 0 ∷ 3
    ∷ 0 ∷ 9 ∷ 2 ∷ 0 ∷ 4
    ∷ 0 ∷ 10 ∷ 2 ∷ 0 ∷ 3
    ∷ 0 ∷ 13 ∷ 2 ∷ 0 ∷ 12
    ∷ 0 ∷ 14 ∷ 2 ∷ 0 ∷ 3
    ∷ []

-- A ring of 4 without faults; the sheet from S with one entry; and the one from 3 with deterministic legs to 0 and to 1.
abbrev pub ring : List ℕ
ring = 1 ∷ 0 ∷ 6 ∷ 4 ∷ 1 ∷ 1 ∷ 1 ∷ 0 ∷ 0 ∷ []

abbrev pub one_entry : ℕ → ℕ → ℕ → ℕ → List ℕ
one_entry S D kind via = 1 ∷ 0 ∷ 9 ∷ 0 ∷ S ∷ 0 ∷ 1 ∷ 0 ∷ D ∷ kind ∷ 0 ∷ via ∷ []

abbrev pub two_entries : List ℕ
two_entries = 1 ∷ 0 ∷ 14 ∷ 0 ∷ 3 ∷ 0 ∷ 2 ∷ 0 ∷ 0 ∷ 1 ∷ 0 ∷ 0 ∷ 0 ∷ 1 ∷ 1 ∷ 0 ∷ 0 ∷ []

-- From 3 to 1 is half the ring from an odd place, from 2 to 0 from an even one.
pub record Worked : Type 0 where
  pub w_kept : keep_error large W old_w ≡ 0
  pub odd_lost : keep_error large ring (one_entry 3 1 1 0) ≡ 17
  pub even_kept : keep_error large ring (one_entry 2 0 1 0) ≡ 0
  -- Leg two is judged from its via: 0 to 1, and 3 to 1.
  pub from_via_kept : keep_error large ring (one_entry 3 1 5 0) ≡ 0
  pub from_via_lost : keep_error large ring (one_entry 0 1 3 3) ≡ 17
  pub adaptive_kept : keep_error large ring (one_entry 0 1 2 3) ≡ 0
  pub dead_kept : keep_error large ring (one_entry 3 1 10 0) ≡ 0
  pub none_lost : keep_error large ring (one_entry 3 1 11 0) ≡ 17
  pub named : lost_entry large ring two_entries ≡ 1
