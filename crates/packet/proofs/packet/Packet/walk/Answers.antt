use mathlib.Core.Path.{sym}
use Rattle.packet.proofs.Walks.{walk_refused, walk_is}
use Rattle.packet.proofs.Answers.{walk_told}
use Rattle.packet.proofs.Stored.{fine_of}
use Rattle.packet.proofs.packet.Packet.walk.Goals as goal

all_3 : {A B C : Type 0} → A × (B × C) → record { value : A; ending_value : B; hops_in_bounds : C }
all_3 p = record { value = p.0; ending_value = p.1.0; hops_in_bounds = p.1.1 }

pub walk_on-requires : goal.walk_on-requires
walk_on-requires c = fine_of _ _ (sym c.in-Ok.ensures)

pub returns-in-Ok : goal.returns-in-Ok
returns-in-Ok c = let is = walk_is _ _ _ (fine_of _ _ (sym c.in-Ok.ensures)) in all_3 (walk_told _ _ _ _ is (rw is c.walk_on.ensures))

pub returns-in-Err : goal.returns-in-Err
returns-in-Err c = all_3 (walk_refused _ _ _ _ c.in-Err.ensures)
