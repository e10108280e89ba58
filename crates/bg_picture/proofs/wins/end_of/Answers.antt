use Rattle.std.proofs.Common.{◌≡◌, true, rules}
use Rattle.bg_picture.specs.Wins.{has_ended}
use Rattle.bg_picture.proofs.Ends.{end_stands}
use Rattle.bg_picture.proofs.wins.end_of.Goals as goal

pub unwrap-standing-requires : goal.unwrap-standing-requires
unwrap-standing-requires c =
    let t = c.args.next.now in
    let ended : has_ended t.phase ≡ true = first_of (search rules, cc) in
    c.from_parts.ensures.some.1 (rw (c.length.ensures.value, c.rules.ensures, c.board_after-board.ensures, c.phase-2.ensures, c.cube.ensures, c.score.ensures, c.crawford.ensures, c.game.ensures)
    (end_stands c.args.standing.now c.args.entry.now t c.requires ended c.keeps_its_laws.ensures c.length.ensures.standing))
