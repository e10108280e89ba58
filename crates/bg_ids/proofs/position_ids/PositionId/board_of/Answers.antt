use Rattle.std.proofs.Common.{◌≡◌, ap, ◌∙◌}
use Rattle.bg_ids.proofs.Read.{position_ten, position_read}
use Rattle.bg_ids.specs.PositionIds.{position_text}
use Rattle.bg_ids.proofs.position_ids.PositionId.board_of.Goals as goal

pub returns-in_default-clause-only : goal.returns-in_default-clause-only
returns-in_default-clause-only c = λ b is e. absurd (c.in_default.ensures.none (position_ten b c.args.on_roll c.args.text.now e))

pub returns-in_default-read_board-clause-only : goal.returns-in_default-read_board-clause-only
returns-in_default-read_board-clause-only c = λ b is e.
    let read = position_read b c.args.on_roll c.args.text.now _ is e c.in-Some.ensures.some in
    absurd (c.in_default-read_board.not-Some b (c.read_board.ensures b read.0 is (c.as_slice.ensures.value ∙ read.1)))

pub returns-in_default-read_board-clause-fault : goal.returns-in_default-read_board-clause-fault
returns-in_default-read_board-clause-fault c =
    let has = c.in-Some.ensures.some in (
      (has.0, has.1),
      λ b is e.
          let read = position_read b c.args.on_roll c.args.text.now _ is e has in
          c.in_default-read_board.not-Some b (c.read_board.ensures b read.0 is (c.as_slice.ensures.value ∙ read.1)),
    )

pub returns-then-has_text-clause-only : goal.returns-then-has_text-clause-only
returns-then-has_text-clause-only c = λ b is e.
    let read = position_read b c.args.on_roll c.args.text.now _ is e c.in-Some.ensures.some in
    let found = c.read_board.ensures b read.0 is (c.as_slice.ensures.value ∙ read.1) in
    let same : c.in-Some-read_board.board ≡ b = cc (c.in-Some-read_board.is, found) in
    cc same

pub returns-else-has_text-clause-only : goal.returns-else-has_text-clause-only
returns-else-has_text-clause-only c = λ b is e.
    let read = position_read b c.args.on_roll c.args.text.now _ is e c.in-Some.ensures.some in
    let found = c.read_board.ensures b read.0 is (c.as_slice.ensures.value ∙ read.1) in
    let same : b ≡ c.in-Some-read_board.board = cc (c.in-Some-read_board.is, found) in
    absurd (cc (c.if-has_text.ensures.1 (e ∙ ap (λ x. position_text x c.args.on_roll) same)))

pub returns-else-has_text-clause-fault : goal.returns-else-has_text-clause-fault
returns-else-has_text-clause-fault c =
    let has = c.in-Some.ensures.some in (
      (has.0, has.1),
      λ b is e.
          let read = position_read b c.args.on_roll c.args.text.now _ is e has in
          let found = c.read_board.ensures b read.0 is (c.as_slice.ensures.value ∙ read.1) in
          let same : b ≡ c.in-Some-read_board.board = cc (c.in-Some-read_board.is, found) in
          absurd (cc (c.if-has_text.ensures.1 (e ∙ ap (λ x. position_text x c.args.on_roll) same))),
    )
