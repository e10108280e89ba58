use Rattle.bg_mat.proofs.OfReading.HeadingLemmas.{game_words, no_game_number, no_game_word}
use Rattle.bg_mat.proofs.rows.headings.read_game.Goals as goal

pub returns-in_default : goal.returns-in_default
returns-in_default c = no_game_word c.args.line.now (rw c.in_default.is at c.skip_word.ensures)

pub returns-in_default-split_word : goal.returns-in_default-split_word
returns-in_default-split_word c =
    no_game_number c.args.line.now c.in-Some.behind.now c.in-Some.ensures
    (rw c.in_default-split_word.is at c.split_word.ensures)

pub returns-in_default-read_game_number : goal.returns-in_default-read_game_number
returns-in_default-read_game_number c = λ n h.
    (rw c.in_default-read_game_number.is at c.read_game_number.ensures) n
    (game_words c.args.line.now c.in-Some.behind.now c.in-Some-split_word.number.now c.in-Some-split_word.rest.now n
    c.in-Some.ensures c.in-Some-split_word.ensures h).0

pub returns-else-is_blank_text : goal.returns-else-is_blank_text
returns-else-is_blank_text c = λ n h.
    let blank = (game_words c.args.line.now c.in-Some.behind.now c.in-Some-split_word.number.now c.in-Some-split_word.rest.now n
    c.in-Some.ensures c.in-Some-split_word.ensures h).1 in
    let t = c.is_blank_text.ensures.1 blank in
    absurd (cc (t, c.if-is_blank_text.false))

pub returns-then-is_blank_text : goal.returns-then-is_blank_text
returns-then-is_blank_text c = (
  c.in-Some.behind.now,
  c.in-Some-split_word.number.now,
  c.in-Some-split_word.rest.now,
  c.in-Some.ensures,
  c.in-Some-split_word.ensures,
  c.in-Some-read_game_number.ensures,
  c.is_blank_text.ensures.0 c.if-is_blank_text.true,
)
