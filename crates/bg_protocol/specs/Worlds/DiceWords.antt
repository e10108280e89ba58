-- Which words the dice of a match come from.
use Rattle.std.specs.Prelude.{◌≡◌, ℕ, Some, List, All, Contains}
use Rattle.bg_turns.specs.Dice.{dice_of}
use Rattle.bg_turns.specs.declared.throws.Dice.{Dice}
use Rattle.bg_match.specs.declared.entries.Entry.{Entry}
use Rattle.bg_match.specs.declared.entries.Entry.TheVariants.{Opening, Rolled}
use Rattle.bg_protocol.specs.declared.events.Event.{Event}
use Rattle.bg_protocol.specs.declared.events.Event.TheVariants as events

-- the event hands in this word
abbrev pub IsWordOf : Event → ℕ → Type 0
IsWordOf (events.Due word) w = w ≡ word
IsWordOf (events.Take party pick word) w = w ≡ word
IsWordOf _ w = ⊥

-- one of the events hands in this word
abbrev pub HandsIn : List Event → ℕ → Type 0
HandsIn events word = (event : Event) × Contains events event × IsWordOf event word

-- the dice are those of such a word
abbrev pub AreDiceOf : (ℕ → Type 0) → Dice → Type 0
AreDiceOf IsWord dice = (word : ℕ) × IsWord word × (dice_of word ≡ Some dice)

-- the dice of an opening, and of a roll, are those of such a word
abbrev pub ShowsWord : (ℕ → Type 0) → Entry → Type 0
ShowsWord IsWord (Opening x o) = AreDiceOf IsWord (record { first = x; second = o })
ShowsWord IsWord (Rolled dice) = AreDiceOf IsWord dice
ShowsWord IsWord _ = Unit {0}

-- the dice of each opening and of each roll are those of a word that one of the events handed in
abbrev pub ShowsWordsOf : List Event → List Entry → Type 0
ShowsWordsOf events log = All (ShowsWord (HandsIn events)) log
