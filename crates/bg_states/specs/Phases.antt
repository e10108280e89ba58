-- What is to happen next.
use Rattle.std.specs.Prelude.{ℕ, Option, Some, None, List, [], ◌∷◌, ◌++◌, codes}
use Rattle.bg_board.specs.Die.{pips}
use Rattle.bg_board.specs.declared.players.Player.{Player}
use Rattle.bg_match.specs.Actor.{actor_of, seat_of}
use Rattle.bg_match.specs.State.{State}
use Rattle.bg_match.specs.declared.phases.Phase.{Phase}
use Rattle.bg_match.specs.declared.phases.Phase.TheVariants.{Over, Resigned, ToMove}
use Rattle.bg_text.specs.Boards.BoardText.{phase_line}
use Rattle.bg_turns.specs.declared.throws.Dice.{Dice}
use Rattle.bg_states.specs.Headings.{owner_letter}
use Rattle.bg_states.specs.Lists.{numbers_text}

-- the dice that are to be moved
abbrev pub dice_in : Phase → Option Dice
dice_in (ToMove player dice) = Some dice
dice_in (Resigned player level dice) = dice
dice_in _ = None

abbrev pub dice_text : Option Dice → List ℕ
dice_text None = numbers_text []
dice_text (Some dice) = numbers_text (pips dice.first ∷ pips dice.second ∷ [])

-- who has won the match
abbrev pub winner_in : Phase → Option Player
winner_in (Over player) = Some player
winner_in _ = None

-- as in ,"phase":"X to move 3 1","turn":"X
unfoldable pub words_text : State → List ℕ
words_text s =
    codes ",\"phase\":\"" ++ phase_line s ++ codes "\",\"turn\":\"" ++ owner_letter (seat_of (actor_of s))

-- as in ","dice":[3,1],"winner":""
unfoldable pub throw_text : Phase → List ℕ
throw_text phase =
    codes "\",\"dice\":" ++ dice_text (dice_in phase) ++ codes ",\"winner\":\"" ++ owner_letter (winner_in phase)
    ++ codes "\""

unfoldable pub phase_text : State → List ℕ
phase_text s = words_text s ++ throw_text s.phase
