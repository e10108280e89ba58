use Rattle.bg_text.specs.Boards.BoardText.{board_text, header_line, numbers_line, cells_line, aside_line, phase_line, upper_points, lower_points}
use Rattle.bg_text.proofs.Judged.LineLists.{seven_lines}
use Rattle.bg_text.proofs.board_texts.board_text.Goals as goal

pub returns : goal.returns
unfolding board_text
returns c =
    let s = c.args.standing.now in
    seven_lines (header_line s) (numbers_line upper_points) (cells_line s.board upper_points) (cells_line s.board lower_points) (numbers_line lower_points) (aside_line s.board) (phase_line s)
    _ _ _ _ _ _ _ _ c.new-out.ensures.items c.in_ok-put_header.ensures c.in_ok-put_numbers.ensures
    (rw c.board-board.ensures at c.in_ok-put_cells.ensures) (rw c.board-board.ensures at c.in_ok-put_cells-2.ensures) c.in_ok-put_numbers-2.ensures
    (rw c.board-board.ensures at c.in_ok-put_aside.ensures) c.in_ok-put_phase_line.ensures
