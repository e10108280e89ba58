use Rattle.std.proofs.Common.{refl}
use Rattle.bg_states.specs.May.{may_text}
use Rattle.bg_states.proofs.may.put_may.Goals as goal

pub returns : goal.returns
returns c = (may_text c.offered.result, (c.offered.result, c.offered.ensures, refl), c.in_ok-put_list.ensures)
