use Rattle.bg_turns.proofs.Bits.Places.{off_by_held}
use Rattle.bg_turns.proofs.masks.Masks.is_off.Goals as goal

pub returns : goal.returns
returns c r is are = off_by_held c.args.self r is are
