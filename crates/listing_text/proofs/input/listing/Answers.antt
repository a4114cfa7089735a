use native.Mathlib.Omega.{arith}
use Rattle.listing_text.proofs.Reading.{listed}
use Rattle.listing_text.proofs.input.listing.Goals as goal

all_3 : {A B C : Type 0} → A × (B × C) → record { value : A; text_after : B; by_index : C }
all_3 p = record { value = p.0; text_after = p.1.0; by_index = p.1.1 }

pub returns : goal.returns
returns c = all_3 (listed _ _ _ _ _ _ c.front.ensures.result_value (c.listing_text.ensures.value, c.listing_text.ensures.out_after) (omega arith) (omega arith) _ c.unwrap_or.ensures)
