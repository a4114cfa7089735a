use native.Mathlib.Omega.{arith}
use Rattle.all_sheets.proofs.Enough.{input_run}
use Rattle.all_sheets.proofs.input.run_of_input.Goals as goal

all_3 : {A B C : Type 0} → A × (B × C) → record { run_written : A; by_index : B; value : C }
all_3 p = record { run_written = p.0; by_index = p.1.0; value = p.1.1 }

pub returns : goal.returns
returns c = all_3 (input_run _ _ _ _ _ _ _ _ (omega arith) (omega arith) (omega arith) c.front.ensures.result_value c.write_more.ensures)
