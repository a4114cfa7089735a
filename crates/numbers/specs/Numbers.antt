-- 'When a call declines': the number of each cause, in the document's words and order.
use Rattle.std.specs.Prelude.{ℕ}

-- Plan sheet under 9 bytes, of version 2 under 12.
abbrev pub plan_short : ℕ
plan_short = 1

-- Plan version neither 1 nor 2.
abbrev pub plan_version_unknown : ℕ
plan_version_unknown = 2

-- Fault count above 256.
abbrev pub many_faults : ℕ
many_faults = 3

-- Length field not the bytes that follow, or not 6 + 3 × count, of version 2 not 9 + 3 × count.
abbrev pub wrong_length : ℕ
wrong_length = 4

-- An extent outside 1 to 16.
abbrev pub extent_outside : ℕ
extent_outside = 5

-- Wrap on an extent below 3, or a spare wrap bit set.
abbrev pub wrong_wrap : ℕ
wrong_wrap = 6

-- A fault's node, kind or link does not exist.
abbrev pub no_such_fault : ℕ
no_such_fault = 7

-- A fault not above the one before.
abbrev pub fault_not_above : ℕ
fault_not_above = 8

-- A node number outside the plan.
abbrev pub node_outside : ℕ
node_outside = 9

-- A dead source or destination.
abbrev pub dead_end : ℕ
dead_end = 10

-- No clear choice.
abbrev pub no_clear_choice : ℕ
no_clear_choice = 11

-- Output shorter than the sheet.
abbrev pub output_short : ℕ
output_short = 12

-- Route sheet not of the layout, a node outside the plan, or a via equal to an end.
abbrev pub wrong_route_sheet : ℕ
wrong_route_sheet = 13

-- Packet naming a node outside the shape, or with over three legs; or a mark further than just past the last leg.
abbrev pub wrong_packet : ℕ
wrong_packet = 14

-- Direction not allowed, or above 5.
abbrev pub not_allowed : ℕ
not_allowed = 15

-- A weight outside 1 to 8.
abbrev pub weight_outside : ℕ
weight_outside = 16

-- An entry that cannot be kept.
abbrev pub entry_not_kept : ℕ
entry_not_kept = 17

-- No allowed walk from the packet's source ends at this packet by that hop, a direction above 5 included.
abbrev pub not_back : ℕ
not_back = 18
