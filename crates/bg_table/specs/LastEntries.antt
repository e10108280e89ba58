-- What a player did last.
use Rattle.std.specs.Prelude.{◌≡◌, ◌≢◌, ◌⊎◌, ℕ, ◌+◌, ◌-◌, ◌<◌, ◌≤◌, Some, List, [], ◌++◌, length, take, codes}
use Rattle.std.specs.Fmt.{decimal}
use Rattle.bg_board.specs.FromTo.{FromTo}
use Rattle.bg_board.specs.Position.{Position}
use Rattle.bg_board.specs.declared.players.Player.{Player}
use Rattle.bg_turns.specs.Dice.{first_pips, second_pips}
use Rattle.bg_turns.specs.declared.throws.Dice.{Dice}
use Rattle.bg_match.specs.Match.{Log, SeatAfter, StandsAt, at_number}
use Rattle.bg_match.specs.State.{State}
use Rattle.bg_match.specs.declared.entries.Entry.{Entry}
use Rattle.bg_match.specs.declared.entries.Entry.TheVariants.{Rolled, Moved, Passed}
use Rattle.bg_text.specs.Boards.BoardText.{line_text}
use Rattle.bg_text.specs.Entries.EntryText.{entry_text, letter}
use Rattle.bg_table.specs.TurnLists.{marked_steps}

-- the entry of this number, from 1, is the player's
abbrev pub IsMadeBy : Log → ℕ → Player → Type 0
IsMadeBy log number player =
    (1 ≤ number) × (number ≤ length log.entries) × SeatAfter log.terms (take (number - 1) log.entries) (Some player)

-- the entry of this number is the player's, and no later one is
pub record IsLastOf (log : Log) (player : Player) (number : ℕ) : Type 0 where
  pub made : IsMadeBy log number player
  pub latest : (later : ℕ) → number < later → IsMadeBy log later player → ⊥

-- no entry is the player's
abbrev pub HasMadeNone : Log → Player → Type 0
HasMadeNone log player = (number : ℕ) → IsMadeBy log number player → ⊥

-- the entry of this number is a roll of these dice
abbrev pub IsRoll : Log → ℕ → Dice → Type 0
IsRoll log number dice = at_number log.entries number ≡ Some (Rolled dice)

-- it is no roll
abbrev pub IsNoRoll : Log → ℕ → Type 0
IsNoRoll log number = (dice : Dice) → IsRoll log number dice → ⊥

-- no entry between these two numbers is a roll
abbrev pub HasNoRoll : Log → ℕ → ℕ → Type 0
HasNoRoll log first last = (number : ℕ) → first < number → number < last → IsNoRoll log number

-- the last roll before the entry of this number was one of these dice
pub record IsLastRoll (log : Log) (number : ℕ) (dice : Dice) : Type 0 where
  pub roll : ℕ
  pub earlier : roll < number
  pub rolled : IsRoll log roll dice
  pub latest : HasNoRoll log roll number

-- the entry of this number shows that the player could not move these dice: it is the roll, and the
-- next entry passes the turn, or it is a move without a step, after the roll
abbrev pub CouldNotMove : Log → ℕ → Dice → Type 0
CouldNotMove log number dice =
    (IsRoll log number dice × (at_number log.entries (number + 1) ≡ Some Passed))
    ⊎ ((at_number log.entries number ≡ Some (Moved [])) × IsLastRoll log number dice)

-- it shows no such thing
abbrev pub CouldMove : Log → ℕ → Type 0
CouldMove log number = (dice : Dice) → CouldNotMove log number dice → ⊥

unfoldable pub thrown_words : Dice → List ℕ
thrown_words dice = decimal (first_pips dice) ++ codes " " ++ decimal (second_pips dice)

-- as in "O rolled 6 6 and could not move"
unfoldable pub not_moved_words : Player → Dice → List ℕ
not_moved_words player dice = letter player ++ codes " rolled " ++ thrown_words dice ++ codes " and could not move"

-- the steps that a player moved on a position, with marks behind those that hit. The points are in
-- his own numbers: as in "O move 24-22* 24-18 (as O counts)"
unfoldable pub move_words : Position → Player → List FromTo → List ℕ
move_words b player turn =
    letter player ++ codes " move" ++ marked_steps b player turn ++ codes " (as " ++ letter player ++ codes " counts)"

-- what a player did on a position
abbrev pub entry_words : Position → Player → Entry → List ℕ
entry_words b player (Moved turn) = move_words b player turn
entry_words b player e = entry_text (Some player) e

-- before the entry of this number the match stood so
abbrev pub StandsBefore : Log → ℕ → State → Type 0
StandsBefore log number s = StandsAt log.terms (take (number - 1) log.entries) s

-- the words are those of the entry of this number, which the player made
abbrev pub IsEntryOf : Log → Player → ℕ → List ℕ → Type 0
IsEntryOf log player number words =
    (e : Entry) × (s : State) × (at_number log.entries number ≡ Some e) × StandsBefore log number s
    × (words ≡ entry_words s.board player e)

-- the entry of this number was made in the game that is played now
abbrev pub IsOfThisGame : Log → ℕ → Type 0
IsOfThisGame log number =
    (s t : State) × StandsBefore log number s × StandsAt log.terms log.entries t × (s.game ≡ t.game)

-- it was made in a game that has ended
abbrev pub IsOfEarlierGame : Log → ℕ → Type 0
IsOfEarlierGame log number =
    (s t : State) × StandsBefore log number s × StandsAt log.terms log.entries t × (s.game ≢ t.game)

-- the words say what the player did by the entry of this number, or that he could not move
abbrev pub TellsEntry : Log → Player → ℕ → List ℕ → Type 0
TellsEntry log player number words =
    ((dice : Dice) × CouldNotMove log number dice × (words ≡ not_moved_words player dice))
    ⊎ (CouldMove log number × IsEntryOf log player number words)

-- as in "last: O move 24-22 24-18 (as O counts)"
abbrev pub last_line : List ℕ → List ℕ
last_line words = codes "last: " ++ words

-- the text grows by the line of the player's last entry, if he has made one in this game
abbrev pub AddsLastLine : Log → Player → List ℕ → List ℕ → Type 0
AddsLastLine log player old new =
    (HasMadeNone log player × (new ≡ old))
    ⊎ (((number : ℕ) × IsLastOf log player number × IsOfEarlierGame log number × (new ≡ old))
    ⊎ ((number : ℕ) × (words : List ℕ) × IsLastOf log player number × IsOfThisGame log number
    × TellsEntry log player number words × (new ≡ old ++ line_text (last_line words))))
