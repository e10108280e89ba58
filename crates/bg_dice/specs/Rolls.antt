-- Which dice a secret has for the entries of a match.
use Rattle.std.specs.Prelude.{◌≡◌, ◌≢◌, ◌==◌, ◌&&◌, ℕ, ◌+◌, ◌<◌, List, Bool, true, false, IsTrue, Option, Some, None}
use Rattle.bg_auto.specs.Words.{attempts, keyed_dice_word}
use Rattle.bg_match.specs.declared.entries.Entry.{Entry}
use Rattle.bg_match.specs.declared.entries.Entry.TheVariants as entries
use Rattle.bg_turns.specs.Dice.{dice_of, first_pips, second_pips}
use Rattle.bg_turns.specs.declared.throws.Dice.{Dice}
use Rattle.bg_dice.specs.declared.rolls.Drawn.{Drawn}
use Rattle.bg_dice.specs.declared.rulings.Ruling.{Ruling}
use Rattle.bg_dice.specs.declared.rulings.Ruling.TheVariants as rulings

-- the dice that a secret has for the entry behind so many others, at an attempt, from 0: those of
-- its random word
abbrev pub dice_at : List ℕ → ℕ → ℕ → Option Dice
dice_at secret before attempt = dice_of (keyed_dice_word secret (before + 1) attempt)

-- the rules pass over an attempt that has no dice, or equal ones where a game opens
abbrev pub is_passed_over : Bool → Option Dice → Bool
is_passed_over opens None = true
is_passed_over opens (Some dice) = opens && (first_pips dice == second_pips dice)

-- The dice of the entry behind so many others are those of the first attempt that the rules don't
-- pass over.
pub record IsDrawnBehind (secret : List ℕ) (before : ℕ) (opens : Bool) (drawn : Drawn) : Type 0 where
  pub within : drawn.attempt < attempts
  pub has : dice_at secret before drawn.attempt ≡ Some drawn.dice
  pub taken : is_passed_over opens (Some drawn.dice) ≡ false
  pub first : (earlier : ℕ) → earlier < drawn.attempt → IsTrue (is_passed_over opens (dice_at secret before earlier))

-- the rules pass over each attempt
abbrev pub AreAllPassedOver : List ℕ → ℕ → Bool → Type 0
AreAllPassedOver secret before opens =
    (attempt : ℕ) → attempt < attempts → IsTrue (is_passed_over opens (dice_at secret before attempt))

-- the dice of an entry, in the order in which it names them
abbrev pub dice_in : Entry → Option Dice
dice_in (entries.Opening x o) = Some (record { first = x; second = o })
dice_in (entries.Rolled dice) = Some dice
dice_in _ = None

-- the entry opens a game
abbrev pub opens_game : Entry → Bool
opens_game (entries.Opening x o) = true
opens_game _ = false

-- the entry has the dice of the secret at this attempt
pub record HasOwnDice (secret : List ℕ) (before : ℕ) (entry : Entry) (drawn : Drawn) : Type 0 where
  pub dice : dice_in entry ≡ Some drawn.dice
  pub is_drawn : IsDrawnBehind secret before (opens_game entry) drawn

-- this is what a secret says of the entry behind so many others
abbrev pub IsRuling : List ℕ → ℕ → Entry → Ruling → Type 0
IsRuling secret before entry rulings.NoDice = dice_in entry ≡ None
IsRuling secret before entry (rulings.Own attempt) =
    (drawn : Drawn) × (drawn.attempt ≡ attempt) × HasOwnDice secret before entry drawn
IsRuling secret before entry (rulings.Other (Some drawn)) =
    (dice : Dice) × (dice_in entry ≡ Some dice) × (drawn.dice ≢ dice)
    × IsDrawnBehind secret before (opens_game entry) drawn
IsRuling secret before entry (rulings.Other None) = AreAllPassedOver secret before (opens_game entry)
