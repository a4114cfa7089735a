use Rattle.conversion.proofs.Judging.{convert_refused, convert_lost, convert_long, convert_kept}
use Rattle.conversion.proofs.converting.convert.Goals as goal

pub put_converted-requires : goal.put_converted-requires
put_converted-requires c = convert_long _ _ _ c.args.out.now _ c.in-Ok.ensures

pub returns-in-Ok : goal.returns-in-Ok
returns-in-Ok c =
    let p = c.put_converted.ensures in
    let a = convert_kept _ _ _ _ _ c.in-Ok.ensures _ _ (record { value = p.value; number = p.number; out_after = p.out_after }) in
    record { written_value = a.put.value; number = a.put.number; result_value = a.entry; out_after = a.put.out_after }

pub returns-in-Err-Refused : goal.returns-in-Err-Refused
returns-in-Err-Refused c = let a = convert_refused _ _ _ c.args.out.now _ (rw c.in-Err-Refused.field-0-is at c.in-Err-Refused.ensures) in record { written_value = a.put.value; number = a.put.number; result_value = a.entry; out_after = a.put.out_after }

pub returns-in-Err-Lost : goal.returns-in-Err-Lost
returns-in-Err-Lost c = let a = convert_lost _ _ _ c.args.out.now _ (rw c.in-Err-Lost.field-0-is at c.in-Err-Lost.ensures) in record { written_value = a.put.value; number = a.put.number; result_value = a.entry; out_after = a.put.out_after }
