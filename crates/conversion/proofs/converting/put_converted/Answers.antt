use Rattle.numbers.proofs.Refusals.{exit}
use Rattle.conversion.proofs.Bytes.{put_refused, put_bytes}
use Rattle.conversion.proofs.converting.put_converted.Goals as goal

pub returns-in_err-size : goal.returns-in_err-size
returns-in_err-size c = rw (exit _ _ c.from_residual.ensures.1) (put_refused _ _ c.requires _ c.put_sheet.ensures.out_after _ c.in_err-size.ensures.number)

pub returns : goal.returns
returns c = put_bytes _ _ c.requires _ c.put_sheet.ensures.out_after _ c.in_ok-size.ensures.value c.in_ok-size.ensures.number _ c.put_byte.ensures
