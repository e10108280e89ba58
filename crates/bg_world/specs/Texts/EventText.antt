-- The line of an event, and what is wrong with a line that is no event's.
use Rattle.std.specs.Prelude.{◌≡◌, ◌⊎◌, ℕ, ◌<◌, ◌≤◌, List, [], ◌∷◌, length, IsTrue, codes}
use Rattle.std.specs.Fmt.{decimal}
use Rattle.std.specs.List.{AllByRecursion}
use Rattle.std.specs.Str.{all_ascii_digits}
use Rattle.bg_board.specs.FromTo.{FromTo}
use Rattle.bg_board.specs.declared.players.Player.{Player}
use Rattle.bg_turns.specs.Turn.{IsDownward}
use Rattle.bg_match.specs.Entry.{IsAction}
use Rattle.bg_match.specs.declared.actions.Action.TheVariants as action
use Rattle.bg_text.specs.Entries.EntryText.{letter, action_words}
use Rattle.bg_text.specs.Entries.EntryShape.{IsActionShape, MovesDownward}
use Rattle.bg_text.specs.Entries.Words.{words_of, spaced}
use Rattle.bg_text.specs.declared.faults.TextFault.{TextFault}
use Rattle.bg_text.specs.declared.faults.TextFault.TheVariants.{NotALine, BadNumber, TooManySteps}
use Rattle.bg_protocol.specs.declared.events.Event.{Event}
use Rattle.bg_protocol.specs.declared.events.Event.TheVariants as event

-- ---- the line

-- what an event's line says: which event it is, and its numbers; or the player and his action
abbrev pub event_words : Event → List (List ℕ)
event_words (event.Due word) = codes "due" ∷ decimal word ∷ []
event_words (event.Take party pick word) = codes "take" ∷ decimal party ∷ decimal pick ∷ decimal word ∷ []
event_words (event.Choose player a) = codes "choose" ∷ letter player ∷ action_words a
event_words (event.Save party) = codes "save" ∷ decimal party ∷ []
event_words (event.Tick party) = codes "tick" ∷ decimal party ∷ []
event_words (event.Restart party) = codes "restart" ∷ decimal party ∷ []

abbrev pub event_text : Event → List ℕ
event_text e = spaced (event_words e)

abbrev pub greatest_party : ℕ
greatest_party = 255

-- of a random word, and of a pick
abbrev pub greatest_word : ℕ
greatest_word = 4294967295

-- the numbers of the event are in their ranges; a move may have more than four steps, and each
-- leads down
abbrev pub HasRightNumbers : Event → Type 0
HasRightNumbers (event.Due word) = word ≤ greatest_word
HasRightNumbers (event.Take party pick word) =
    (party ≤ greatest_party) × (pick ≤ greatest_word) × (word ≤ greatest_word)
HasRightNumbers (event.Choose player a) = MovesDownward a
HasRightNumbers (event.Save party) = party ≤ greatest_party
HasRightNumbers (event.Tick party) = party ≤ greatest_party
HasRightNumbers (event.Restart party) = party ≤ greatest_party

abbrev pub IsEvent : Event → Type 0
IsEvent (event.Choose player a) = IsAction a
IsEvent e = HasRightNumbers e

-- one line is the line of one event
abbrev pub EventTextsDiffer : Type 0
EventTextsDiffer = (a b : Event) → IsEvent a → IsEvent b → event_text a ≡ event_text b → a ≡ b

-- ---- the shapes of lines

-- one to ten digits
pub record IsLongNumeral (word : List ℕ) : Type 0 where
  pub digits : IsTrue (all_ascii_digits word)
  pub some : 1 ≤ length word
  pub ten : length word ≤ 10

-- a word, and so many numerals
pub record IsNumbersShape (word : List ℕ) (count : ℕ) (words : List (List ℕ)) : Type 0 where
  pub numerals : List (List ℕ)
  pub spelled : words ≡ word ∷ numerals
  pub many : length numerals ≡ count
  pub each : AllByRecursion IsLongNumeral numerals

-- a player, and what has the shape of his action
pub record IsChoiceShape (words : List (List ℕ)) : Type 0 where
  pub player : Player
  pub rest : List (List ℕ)
  pub spelled : words ≡ codes "choose" ∷ letter player ∷ rest
  pub choice : IsActionShape rest

abbrev pub IsEventShape : List (List ℕ) → Type 0
IsEventShape words =
    IsNumbersShape (codes "due") 1 words
    ⊎ (IsNumbersShape (codes "take") 3 words
    ⊎ (IsChoiceShape words
    ⊎ (IsNumbersShape (codes "save") 1 words
    ⊎ (IsNumbersShape (codes "tick") 1 words
    ⊎ IsNumbersShape (codes "restart") 1 words))))

-- ---- faults

-- the fault names the first of three tests that the line fails: its shape, its numbers, the count
-- of its steps
abbrev pub IsEventTextFault : TextFault → List ℕ → Type 0
IsEventTextFault NotALine line = IsEventShape (words_of line) → ⊥
IsEventTextFault BadNumber line =
    IsEventShape (words_of line) × ((e : Event) → HasRightNumbers e → line ≡ event_text e → ⊥)
IsEventTextFault TooManySteps line =
    (player : Player) × (steps : List FromTo) × (line ≡ event_text (event.Choose player (action.Move steps)))
    × AllByRecursion IsDownward steps × (4 < length steps)
