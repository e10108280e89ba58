-- What is given where a text about a match is asked for.
use Rattle.std.specs.Prelude.{◌≡◌, ◌<◌, ℕ, List, length}
use Rattle.bg_mat.specs.Files.{Exports}
use Rattle.bg_match.specs.Match.{Log, StandsAt}
use Rattle.bg_match.specs.State.{State}
use Rattle.bg_picture.specs.Numberings.{reader_of}
use Rattle.bg_picture.specs.Pictures.{picture_text}
use Rattle.bg_picture.specs.declared.numberings.Numbering.TheVariants.{X as numbers_of_x}
use Rattle.bg_states.specs.StateTexts.{IsStateText}
use Rattle.bg_text.specs.Boards.Transcript.{IsTranscript}
use Rattle.bg_site.specs.declared.files.Asked.{Asked}
use Rattle.bg_site.specs.declared.files.Asked.TheVariants as asked
use Rattle.bg_site.specs.declared.files.Given.{Given}
use Rattle.bg_site.specs.declared.files.Given.TheVariants as given

-- The text is the one about the match of this record that was asked for. Of an earlier state
-- nothing is said.
abbrev pub IsTextOf : Log → Asked → List ℕ → Type 0
IsTextOf log (asked.State seat) text = IsStateText log seat text
IsTextOf log (asked.StateAfter count) text = Unit {0}
IsTextOf log asked.Transcript text = IsTranscript log.terms log.entries text
IsTextOf log asked.Mat text = Exports log text
IsTextOf log asked.Picture text =
    (s : State) × StandsAt log.terms log.entries s × (text ≡ picture_text s (reader_of numbers_of_x s.phase))

-- this is given of the match of this record: such a text, or none, where it has fewer entries than
-- were asked for
abbrev pub IsGivenOf : Log → Asked → Given → Type 0
IsGivenOf log asked (given.Text text) = IsTextOf log asked text.items
IsGivenOf log (asked.StateAfter count) given.Missing = length log.entries < count
IsGivenOf log asked given.Missing = ⊥
IsGivenOf log asked given.Unreadable = Unit {0}
