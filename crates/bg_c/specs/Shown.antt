-- What a party may show: the entries that are told, and where the match stands after them.
use Rattle.std.specs.Prelude.{◌≡◌, ℕ, List, length, replicate, take, Result, Ok, Err}
use Rattle.std.specs.Global.{Vec}
use Rattle.bg_match.specs.Match.{Log, StandsAt}
use Rattle.bg_match.specs.State.{State}
use Rattle.bg_parties.specs.Calls.{claim_of, log_of}
use Rattle.bg_party.specs.Claims.{claim_number}
use Rattle.bg_text.specs.Boards.Transcript.{IsTranscript}
use Rattle.bg_c.specs.Handle.{Held}
use Rattle.bg_c.specs.PartyCalls.{count_told}
use Rattle.bg_c.specs.Standings.{standing_fields}
use Rattle.bg_c.specs.declared.parties.shown.ShownFields.{ShownFields}
use Rattle.bg_c.specs.declared.statuses.Status.{Status}
use Rattle.bg_c.specs.declared.statuses.Status.TheVariants.{Memory}

-- how many entries are told and how many are held, the number of the last claim, and the standing
-- after those that are told
abbrev pub shown_fields : Held → State → ShownFields
shown_fields party s = record {
  entries = count_told party;
  held = length (log_of party.core).entries;
  claim = claim_number (claim_of party.core);
  reserved = replicate 5 0;
  standing = standing_fields s;
}

-- the first entries of a record, so many, lead to s, and the text is their transcript
abbrev pub ShowsFirst : Log → ℕ → State → List ℕ → Type 0
ShowsFirst log count s text =
    StandsAt log.terms (take count log.entries) s × IsTranscript log.terms (take count log.entries) text

-- what a party may show, beside the transcript of the entries that are told; or there was no memory
-- for it
abbrev pub MakesShown : Held → Result (ShownFields × Vec ℕ) Status → Type 0
MakesShown party (Ok made) =
    (s : State) × ShowsFirst (log_of party.core) (count_told party) s made.1.items × (made.0 ≡ shown_fields party s)
MakesShown party (Err why) = why ≡ Memory
