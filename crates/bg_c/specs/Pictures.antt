-- Pictures and pages of transcripts.
use Rattle.std.specs.Prelude.{◌≡◌, ◌==◌, ◌≤◌, ℕ, List, Option, Some, None, Result, Err, MatchOption, IsUtf8, if◌then◌else◌}
use Rattle.std.specs.Global.{Vec}
use Rattle.bg_match.specs.Match.{Log, StandsAt}
use Rattle.bg_match.specs.State.{State}
use Rattle.bg_picture.specs.Numberings.{reader_of}
use Rattle.bg_picture.specs.Pages.{IsPage, Words}
use Rattle.bg_picture.specs.Pictures.{picture_text}
use Rattle.bg_picture.specs.declared.numberings.Numbering.{Numbering}
use Rattle.bg_picture.specs.declared.numberings.Numbering.TheVariants.{X, Mover}
use Rattle.bg_c.specs.MatchFiles.{MakesOfTranscript}
use Rattle.bg_c.specs.declared.statuses.Status.{Status}
use Rattle.bg_c.specs.declared.statuses.Status.TheVariants.{BadArgument}

-- in whose numbers the points are named, by its number
abbrev pub numbering_numbered : ℕ → Option Numbering
numbering_numbered number = if number == 0 then Some Mover else if number == 1 then Some X else None

-- the picture of where the record leads
abbrev pub IsPictureOf : Numbering → Log → List ℕ → Type 0
IsPictureOf numbering log text =
    (s : State) × StandsAt log.terms log.entries s × (text ≡ picture_text s (reader_of numbering s.phase))

-- the numbering is looked at first
abbrev pub MakesPicture : List ℕ → ℕ → Result (Vec ℕ) Status → Type 0
MakesPicture transcript numbering made =
    MatchOption (numbering_numbered numbering) (made ≡ Err BadArgument)
    (λ by. MakesOfTranscript (IsPictureOf by) transcript made)

-- the page of a record
abbrev pub IsPageOf : Words → Numbering → ℕ → Log → List ℕ → Type 0
IsPageOf words numbering seconds log text = IsPage words numbering seconds log.terms log.entries text

-- the title and both names are texts, and there may be so many seconds
pub record MayStand (words : Words) (seconds : ℕ) : Type 0 where
  pub title : IsUtf8 words.title
  pub x : IsUtf8 words.x
  pub o : IsUtf8 words.o
  pub few : seconds ≤ 65535

-- these are looked at next
pub record MakesNumbered
    (transcript : List ℕ) (words : Words) (numbering : Numbering) (seconds : ℕ) (made : Result (Vec ℕ) Status)
    : Type 0 where
  pub page : MayStand words seconds → MakesOfTranscript (IsPageOf words numbering seconds) transcript made
  pub none : (MayStand words seconds → ⊥) → made ≡ Err BadArgument

abbrev pub MakesPage : List ℕ → Words → ℕ → ℕ → Result (Vec ℕ) Status → Type 0
MakesPage transcript words numbering seconds made =
    MatchOption (numbering_numbered numbering) (made ≡ Err BadArgument)
    (λ by. MakesNumbered transcript words by seconds made)
