use Rattle.std.proofs.Common.{sym, ◌∙◌}
use Rattle.bg_text.proofs.Spelling.Splits.{one_piece, first_piece}
use Rattle.bg_text.proofs.entries.words.Pieces.next_piece.Goals as goal

pub returns-in-Some : goal.returns-in-Some
returns-in-Some c =
    sym c.self.view_is ∙ rw c.if-self.false (first_piece _ _ _ _ c.in-Some.ensures.0 c.in-Some.ensures.1)

pub returns-in-None : goal.returns-in-None
returns-in-None c = sym c.self.view_is ∙ rw c.if-self.false (one_piece _ _ c.in-None.ensures)
