use Rattle.bg_table.proofs.Grown.{adds_alone}
use Rattle.bg_table.proofs.turn_refusals.turn_refusal_text.Goals as goal

pub returns : goal.returns
returns c = adds_alone _ _ _ c.new-out.ensures.items c.in_ok-put_turn_refusal.ensures
