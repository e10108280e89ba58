-- How the lines of games are read.
use Rattle.std.specs.Prelude.{◌≡◌, ℕ, Bool, List, ◌++◌}
use Rattle.bg_match.specs.Match.{Log, IsLog}
use Rattle.bg_match.specs.declared.entries.Entry.{Entry}
use Rattle.bg_mat.specs.Files.{TellsAwaited, TellsLines, is_within_game, numbered}
use Rattle.bg_mat.specs.Replaying.{GoesOnBy, pending_items, place_of}
use Rattle.bg_mat.specs.Telling.{AreTold, Item, Place, Told}
use Rattle.bg_mat.specs.declared.awaiting.Awaited.{Awaited}
use Rattle.bg_mat.specs.declared.awaiting.Awaited.TheVariants as awaited
use Rattle.bg_mat.specs.declared.playing.Replay.{Replay}

-- a line of this number adds what it tells where this is awaited, and what may follow it
abbrev pub AddsLine : Awaited → List ℕ → ℕ → Replay → Replay → Awaited → Type 0
AddsLine here line n old new next =
    (items : List Item) × TellsAwaited here line items next × GoesOnBy old new (numbered n items)

-- the lines of games, of which the first has the number n, end within a game or not
abbrev pub EndsGames : ℕ → List (List ℕ) → Bool → Type 0
EndsGames n lines within =
    (told : List Told) × (there : Awaited) × TellsLines awaited.Game n lines told there
    × (within ≡ is_within_game there)

-- from a replay on, the lines of games, of which the first has the number n, are read as this
-- record and these numbers of lines
pub record ReadsGames (from : Replay) (n : ℕ) (lines : List (List ℕ)) (log : Log) (numbers : List ℕ) : Type 0 where
  pub told : List Told
  pub entries : List Entry
  pub own : List ℕ
  pub there : Awaited
  pub place : Place
  pub file : TellsLines awaited.Game n lines told there
  pub leads : AreTold (place_of from) (pending_items from.pending ++ told) entries own place
  pub grown : log ≡ record from.log { entries = from.log.entries ++ entries; spare = log.spare }
  pub numbered : numbers ≡ from.lines.items ++ own
  pub legal : IsLog log
