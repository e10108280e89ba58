use Rattle.bg_text.specs.Boards.BoardText.{game_part, score_part, cube_part, crawford_mark}
use Rattle.bg_text.proofs.Judged.LineLists.{four_parts}
use Rattle.bg_text.proofs.board_texts.put_header.Goals as goal

pub returns : goal.returns
returns c =
    let s = c.args.standing.now in
    four_parts (game_part s) (score_part s) (cube_part s.cube) (crawford_mark s.crawford) _ _ _ _ _ _
    c.in_ok-put_game.ensures c.in_ok-put_score.ensures (rw c.cube.ensures at c.in_ok-put_cube.ensures)
    (rw (c.crawford_mark.ensures, c.crawford.ensures) at c.in_ok-put_text.ensures) c.in_ok-put_text-2.ensures
