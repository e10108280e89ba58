-- What a record tells in a match file, from its first entry to its last.
use Rattle.std.specs.Prelude.{◌≡◌, Option, List}
use Rattle.bg_match.specs.Match.{Log}
use Rattle.bg_match.specs.State.{State}
use Rattle.bg_match.specs.declared.entries.Entry.{Entry}
use Rattle.bg_mat.specs.Files.{kept_entries, start_place}
use Rattle.bg_mat.specs.Telling.{Place}
use Rattle.bg_mat.specs.Tellings.{AreOfItems, IsInOrder, TellsEntry, TellsWin, items_of_tellings, with_telling}
use Rattle.bg_mat.specs.declared.awaiting.Awaited.{Awaited}
use Rattle.bg_mat.specs.declared.awaiting.Awaited.TheVariants as awaited
use Rattle.bg_mat.specs.declared.tellings.Telling.{Telling}

-- an entry that leads from s to t adds what it tells, and the win that it leads to
abbrev pub AddsEntry : State → Entry → State → List Telling → List Telling → Type 0
AddsEntry s e t old new =
    (told won : Option Telling) × TellsEntry s e told × TellsWin s t won
    × (new ≡ with_telling (with_telling old told) won)

-- what a record tells leads through the entries that a match file keeps
pub record TellsRecord (log : Log) (tellings : List Telling) : Type 0 where
  pub place : Place
  pub there : Awaited
  pub leads : AreOfItems (start_place log.terms) (items_of_tellings tellings) (kept_entries log.entries) place
  pub order : IsInOrder awaited.Game tellings there
