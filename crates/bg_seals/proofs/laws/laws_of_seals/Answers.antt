use Rattle.bg_seals.proofs.Sealing.{length-hmac, length-tag, one_packet}
use Rattle.bg_seals.proofs.laws.laws_of_seals.Goals as goal

pub returns : goal.returns
returns c = record { keys = λ secret id party. length-hmac secret _; tags = length-tag; one = one_packet }
