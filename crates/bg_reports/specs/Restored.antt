-- What two saved files of a party restore, and its transcript.
use Rattle.std.specs.Prelude.{◌≡◌, ℕ, List, Option, None, Some, MatchOption}
use Rattle.std.specs.Global.{Vec}
use Rattle.bg_text.specs.Boards.Transcript.{IsTranscript}
use Rattle.bg_wire.specs.Saved.Restoring.{SlotsRestore}
use Rattle.bg_wire.specs.Saved.SavedText.{SavedParts}

-- the transcript of a saved match, and none where there is no match
abbrev pub IsTranscriptIn : Option SavedParts → Option (Vec ℕ) → Type 0
IsTranscriptIn None text = text ≡ None
IsTranscriptIn (Some saved) text = MatchOption text ⊥ (λ written. IsTranscript saved.terms saved.entries written.items)

-- the transcript of what two files restore
abbrev pub IsRestoredTranscript : List ℕ → List ℕ → Option (Vec ℕ) → Type 0
IsRestoredTranscript file0 file1 text =
    (restored : Option SavedParts) × SlotsRestore file0 file1 restored × IsTranscriptIn restored text
