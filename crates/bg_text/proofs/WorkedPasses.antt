-- Worked texts of the second rules, by the definitions alone.
use Rattle.std.proofs.Common.{◌≡◌, Some, None, [], ◌∷◌, ◌++◌, refl, arith}
use Rattle.std.specs.Prelude.{codes}
use Rattle.std.specs.Fmt.{digits}
use Rattle.bg_board.specs.Position.{Position}
use Rattle.bg_board.specs.declared.players.Player.TheVariants.{X, O}
use Rattle.bg_board.specs.declared.dice.Die.TheVariants.{Two as two, Six}
use Rattle.bg_turns.specs.HasStep.{has_step}
use Rattle.bg_turns.specs.declared.throws.Dice.{Dice}
use Rattle.bg_match.specs.Actor.{passes, passes_in}
use Rattle.bg_match.specs.Follows.{Follows}
use Rattle.bg_match.specs.State.{State, start_of}
use Rattle.bg_match.specs.Terms.{Terms, terms_of}
use Rattle.bg_match.specs.declared.entries.Entry.TheVariants as entry
use Rattle.bg_match.specs.declared.entries.EntryFault.TheVariants.{WrongPhase}
use Rattle.bg_match.specs.declared.limits.Rules.TheVariants.{One, Two}
use Rattle.bg_match.specs.declared.phases.Phase.TheVariants as phase
use Rattle.bg_text.specs.Boards.BoardText.{header_line, phase_line, board_text}
use Rattle.bg_text.specs.Entries.EntryText.{entry_text}
use Rattle.bg_text.specs.Judge.Judging.{IsLineFault}
use Rattle.bg_text.specs.Boards.Transcript.{length_line}
use Rattle.bg_text.specs.declared.faults.LineFault.TheVariants as fault

pass_line : entry_text None entry.Passed ≡ codes "pass"
pass_line = refl

-- line 1 names the second rules alone
first_rules : length_line (terms_of 7 One) ≡ codes "length 7"
unfolding digits
first_rules = refl

second_rules : length_line (terms_of 7 Two) ≡ codes "length 7 rules 2"
unfolding digits
second_rules = refl

header_of_second_rules : header_line (start_of (terms_of 1 Two)) ≡ codes "length 1 rules 2 game 1 score 0-0 cube 1 middle crawford"
unfolding digits
header_of_second_rules = refl

-- X has one on the bar, and O's five on his point 6 keep a six out

abbrev shut_out : Position
shut_out = record {
  x = 0 ∷ 0 ∷ 0 ∷ 0 ∷ 0 ∷ 0 ∷ 4 ∷ 0 ∷ 3 ∷ 0 ∷ 0 ∷ 1 ∷ 0 ∷ 4 ∷ 0 ∷ 0 ∷ 0 ∷ 0 ∷ 0 ∷ 0 ∷ 0 ∷ 0 ∷ 0 ∷ 0 ∷ 2 ∷ 1 ∷ [];
  o = 0 ∷ 0 ∷ 0 ∷ 0 ∷ 0 ∷ 0 ∷ 5 ∷ 0 ∷ 3 ∷ 0 ∷ 1 ∷ 0 ∷ 0 ∷ 4 ∷ 0 ∷ 0 ∷ 0 ∷ 0 ∷ 0 ∷ 0 ∷ 1 ∷ 0 ∷ 0 ∷ 0 ∷ 1 ∷ 0 ∷ [];
}

abbrev six_six : Dice
six_six = record { first = Six; second = Six }

abbrev to_pass : Terms → State
to_pass terms = record (start_of terms) { board = shut_out; phase = phase.ToMove X six_six }

pass_drawn : board_text (to_pass (terms_of 1 Two)) ≡
    codes "length 1 rules 2 game 1 score 0-0 cube 1 middle crawford\n"
    ++ codes "  13  14  15  16  17  18  19  20  21  22  23  24\n"
    ++ codes "  X4   .  O1   .  O3   .  O5   .   .   .   .  X2\n"
    ++ codes "  O4  X1   .   .  X3   .  X4  O1   .   .   .  O1\n"
    ++ codes "  12  11  10   9   8   7   6   5   4   3   2   1\n"
    ++ codes "bar X 1 O 0 off X 0 O 0\n"
    ++ codes "X to pass 6 6\n"
unfolding digits board_text passes passes_in has_step
pass_drawn = refl

-- by the first rules X is to move, and so he is with dice by which he has a step
move_by_first_rules : phase_line (to_pass (terms_of 1 One)) ≡ codes "X to move 6 6"
unfolding digits passes passes_in
move_by_first_rules = refl

move_with_a_step : phase_line (record (to_pass (terms_of 1 Two)) { phase = phase.ToMove X (record { first = Six; second = two }) }) ≡ codes "X to move 6 2"
unfolding digits passes passes_in has_step
move_with_a_step = refl

-- a pass follows, and the line of another entry is refused for its phase, whoever it names
pass_follows : Follows (to_pass (terms_of 1 Two)) entry.Passed (record (to_pass (terms_of 1 Two)) { phase = phase.ToAct O })
unfolding passes passes_in has_step
pass_follows = (X, six_six, refl, refl, refl)

refused_of_x : IsLineFault (fault.Entry WrongPhase) 5 (to_pass (terms_of 1 Two)) (codes "X move")
unfolding passes passes_in has_step
refused_of_x = (
  Some X,
  entry.Moved [],
  (λ none. absurd cc, λ own. absurd own),
  record { few = omega arith; each = tt },
  refl,
  λ wrong. absurd cc,
  (omega arith, (λ p over. cc, refl)),
)

refused_of_o : IsLineFault (fault.Entry WrongPhase) 5 (to_pass (terms_of 1 Two)) (codes "O accept")
unfolding passes passes_in has_step
refused_of_o = (Some O, entry.Accepted, (λ none. absurd cc, λ own. absurd own), tt, refl, λ wrong. absurd cc, (omega arith, (λ p over. cc, refl)))
