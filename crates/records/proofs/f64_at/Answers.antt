use Rattle.wire.proofs.AcceptLaws.{not_nan}
use Rattle.records.proofs.f64_at.Goals as goal

pub float_from_bits-result : goal.float_from_bits-result
float_from_bits-result c = not_nan _ c.if-b-gt9218868437227405312.false
