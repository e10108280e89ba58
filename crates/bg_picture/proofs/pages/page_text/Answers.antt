use Rattle.bg_picture.proofs.Listed.{whole_page}
use Rattle.bg_picture.proofs.pages.page_text.Goals as goal

pub returns : goal.returns
returns c =
    whole_page _ c.args.numbering c.args.seconds c.args.log.now c.standing.result _ _ _ _ _
    c.standing.ensures.stands c.new-out.ensures.items c.in_ok-put_start.ensures
    (rw c.start_of.ensures at c.in_ok-put_game_start.ensures) c.in_ok-put_entries.ensures c.in_ok-put_end.ensures
