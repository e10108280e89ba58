-- Worked texts, by the definitions alone.
use Rattle.std.proofs.Common.{◌≡◌, ℕ, false, Some, None, List, [], ◌∷◌, ◌++◌, refl, inr, arith}
use Rattle.std.specs.Prelude.{codes}
use Rattle.std.specs.Fmt.{digits}
use Rattle.bg_board.specs.Position.{start_position}
use Rattle.bg_board.specs.declared.players.Player.TheVariants.{X, O}
use Rattle.bg_board.specs.declared.dice.Die.TheVariants.{One, Three}
use Rattle.bg_match.specs.Actor.{passes, passes_in}
use Rattle.bg_match.specs.Terms.{Terms, terms_of}
use Rattle.bg_match.specs.declared.limits.Rules.TheVariants as rules
use Rattle.bg_match.specs.State.{State, start_of}
use Rattle.bg_match.specs.Follows.{Follows}
use Rattle.bg_match.specs.declared.levels.Level.TheVariants.{Gammon}
use Rattle.bg_match.specs.declared.phases.Phase.TheVariants as phase
use Rattle.bg_match.specs.declared.actions.Action.TheVariants as action
use Rattle.bg_match.specs.declared.entries.Entry.TheVariants as entry
use Rattle.bg_text.specs.Boards.BoardText.{upper_points, lower_points, header_line, numbers_line, cells_line, aside_line, phase_text, board_text}
use Rattle.bg_text.specs.Entries.EntryText.{entry_text, action_text}
use Rattle.bg_text.specs.Judge.Judging.{IsJudgement, lines_of}
use Rattle.bg_text.specs.declared.faults.LineFault.TheVariants as fault
use Rattle.bg_text.specs.declared.judging.verdicts.Verdict.TheVariants.{Fine, Refused}
use Rattle.bg_text.proofs.Judged.FineTranscripts.{transcripts_are_fine}

-- a match to so many points, by the first rules
abbrev to_points : ℕ → Terms
to_points points = terms_of points rules.One

-- the lines of the board at the start
header_at_the_start : header_line (start_of (to_points 5)) ≡ codes "length 5 game 1 score 0-0 cube 1 middle"
unfolding digits
header_at_the_start = refl

header_of_one_point : header_line (start_of (to_points 1)) ≡ codes "length 1 game 1 score 0-0 cube 1 middle crawford"
unfolding digits
header_of_one_point = refl

numbers_above : numbers_line upper_points ≡ codes "  13  14  15  16  17  18  19  20  21  22  23  24"
unfolding digits
numbers_above = refl

cells_above : cells_line start_position upper_points ≡ codes "  X5   .   .   .  O3   .  O5   .   .   .   .  X2"
unfolding digits
cells_above = refl

cells_below : cells_line start_position lower_points ≡ codes "  O5   .   .   .  X3   .  X5   .   .   .   .  O2"
unfolding digits
cells_below = refl

numbers_below : numbers_line lower_points ≡ codes "  12  11  10   9   8   7   6   5   4   3   2   1"
unfolding digits
numbers_below = refl

aside_at_the_start : aside_line start_position ≡ codes "bar X 0 O 0 off X 0 O 0"
unfolding digits
aside_at_the_start = refl

phase_of_an_offer : phase_text (phase.Resigned O Gammon None) false ≡ codes "O resigns gammon"
phase_of_an_offer = refl

-- the lines of entries
opening_line : entry_text None (entry.Opening Three One) ≡ codes "open 3 1"
unfolding digits
opening_line = refl

-- a step from the bar, and one off
move_line : entry_text (Some X) (entry.Moved (record { from = 25; to = 22 } ∷ record { from = 3; to = 0 } ∷ [])) ≡ codes "X move bar-22 3-off"
unfolding digits
move_line = refl

no_step_line : entry_text (Some O) (entry.Moved []) ≡ codes "O move"
no_step_line = refl

offer_line : entry_text (Some O) (entry.Resigned Gammon) ≡ codes "O resign gammon"
offer_line = refl

-- a roll has no dice as an action
roll_text : action_text action.Roll ≡ codes "roll"
roll_text = refl

-- the lines of an input: a line feed at the end opens no further line, and two in a row have an
-- empty line between them
lines_split : lines_of (codes "ab\n\nc\n") ≡ codes "ab" ∷ [] ∷ codes "c" ∷ []
lines_split = refl

-- nothing is no length line
nothing_judged : IsJudgement [] (codes "refused at line 1: not a length line\n") (Refused 1)
unfolding digits
nothing_judged = inr (omega arith, record { why = fault.NotALengthLine; fault = tt; printed = refl; first = refl })

-- a match of one point after its opening
abbrev opened : State
opened = record (start_of (to_points 1)) { phase = phase.ToMove X (record { first = Three; second = One }) }

abbrev opened_text : List ℕ
opened_text =
    codes "length 1 game 1 score 0-0 cube 1 middle crawford\n"
    ++ codes "  13  14  15  16  17  18  19  20  21  22  23  24\n"
    ++ codes "  X5   .   .   .  O3   .  O5   .   .   .   .  X2\n"
    ++ codes "  O5   .   .   .  X3   .  X5   .   .   .   .  O2\n"
    ++ codes "  12  11  10   9   8   7   6   5   4   3   2   1\n"
    ++ codes "bar X 0 O 0 off X 0 O 0\n"
    ++ codes "X to move 3 1\n"
    ++ codes "ok 1\n"

opening_judged : IsJudgement (codes "length 1\nopen 3 1\n") opened_text (Fine 1)
unfolding digits board_text passes passes_in
opening_judged =
    let first : Follows (start_of (to_points 1)) (entry.Opening Three One) opened = (refl, omega arith, refl) in
    (transcripts_are_fine (to_points 1) (entry.Opening Three One ∷ []) opened (codes "length 1\nopen 3 1\n") opened_text (Fine 1)
    (omega arith, omega arith) (omega arith) (opened, first, refl)
    (codes "open 3 1" ∷ [], opened, (refl, opened, first, refl), refl)).1 (refl, refl)
