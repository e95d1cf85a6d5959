-- How many bytes a record of a table has: what `Record` asks of each. Assumes nothing.
use Rattle.std.specs.Prelude.{◌≡◌, length}
use Rattle.std.proofs.Common.{length-append}
use Rattle.wire.proofs.BytesLaws.{bytes_length}
use Rattle.board.specs.declared.DrawnTap.{DrawnTap}
use Rattle.answer.specs.Answer.{Spot, point_bytes, spot_bytes, tap_bytes}

pub spot_length : (n : Spot) → length (spot_bytes n) ≡ 20
unfolding spot_bytes point_bytes
spot_length n = simp (length-append, bytes_length)

pub tap_length : (t : DrawnTap) → length (tap_bytes t) ≡ 20
unfolding tap_bytes point_bytes
tap_length t = simp (length-append, bytes_length)
