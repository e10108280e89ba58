-- What holds of the texts that saves write: each is proved.
use Rattle.std.specs.Prelude.{◌≡◌, ℕ, ◌<◌, ◌^◌, List, Option}
use Rattle.bg_match.specs.Match.{Log, IsLog}
use Rattle.bg_match.specs.declared.actions.Action.{Action}
use Rattle.bg_wire.specs.Saved.SavedText.{SavedParts, IsSavable, IsSavedText, IsWrittenText, parts_with}

-- what may be saved of a record has a text that is written
abbrev pub HaveWrittenText : Type 0
HaveWrittenText = (party save : ℕ) (claim : Option (ℕ × Action)) (log : Log) → log.id < 2 ^ 64 → IsLog log
    → IsSavable (parts_with party save claim log)
    → (text : List ℕ) × IsWrittenText (parts_with party save claim log) text

-- and one alone
abbrev pub HaveOneWrittenText : Type 0
HaveOneWrittenText =
    (p : SavedParts) (text other : List ℕ) → IsWrittenText p text → IsWrittenText p other → text ≡ other

-- a text that is written is a saved text, of the same value
abbrev pub WrittenAreSaved : Type 0
WrittenAreSaved = (p : SavedParts) (text : List ℕ) → IsWrittenText p text → IsSavedText p text
