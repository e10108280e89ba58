use Rattle.bg_table.proofs.Grown.{adds_alone}
use Rattle.bg_table.proofs.refusals.refusal_text.Goals as goal

pub returns : goal.returns
returns c =
    let why = adds_alone _ _ _ c.new-out.ensures.items c.in_ok-put_why.ensures in
    (c.put_why.new.out.items, c.offered-offers.result, why, c.offered-offers.ensures, rw c.actor.ensures at c.in_ok-put_prompt.ensures)
