use Rattle.std.proofs.Common.{length, ◌≤◌}
use Rattle.bg_text.specs.Entries.Words.{words_of}
use Rattle.bg_text.specs.Entries.Pairs.{turn_or}
use Rattle.bg_text.proofs.Spelling.Moves.{IsReadSoFar}
use Rattle.bg_text.proofs.entries.pairs.read_turn.Given as goal

abbrev pub invariant-loop-word : goal.invariant-loop-word
invariant-loop-word l = IsReadSoFar (words_of l.fn.pairs) l.words (turn_or l.fault l.turn) × (length l.turn ≤ 4)

abbrev pub decreases-loop-word : goal.decreases-loop-word
decreases-loop-word l = length l.words
