-- The code's own steps.
use Rattle.std.specs.Prelude.{ℕ, ◌+◌, ◌*◌, List, set}
use Rattle.sheet.specs.Bytes.{upper_byte, lower_byte}
use Rattle.plan.specs.declared.layout.Fault.{Fault}

-- The bytes of a sheet with fault number i put in its place behind the head.
abbrev pub put_fault : ℕ → List ℕ → ℕ → Fault → List ℕ
put_fault head s i f =
    let at = head + 3 * i in
    set (set (set s at (upper_byte f.node)) (at + 1) (lower_byte f.node)) (at + 2) f.kind
