-- What reading an input takes from a source, and what writing a text gives to a sink.
use Rattle.std.specs.Prelude.{◌≡◌, ℕ, ◌+◌, ◌≤◌, List, ◌++◌, length, take, IfSome}
use Rattle.std.specs.Io.KnownBytes.{Appends}
use Rattle.bg_streams.specs.declared.devices.Source.{Ghosts as SourceGhosts}
use Rattle.bg_streams.specs.declared.devices.Sink.{Ghosts as SinkGhosts}

-- what is read of some bytes: all of them, but no more than one over the limit
abbrev pub IsReadOf : ℕ → List ℕ → List ℕ → Type 0
IsReadOf most input bytes = input ≡ take (most + 1) bytes

-- the source gave the input: all up to its end, or one byte over the limit
pub record ReadsInput {S : Type 0} (most : ℕ) (source : SourceGhosts S) (before after : S) (input : List ℕ)
    : Type 0 where
  pub given : source.given after ≡ source.given before ++ input
  pub few : length input ≤ most + 1
  pub ended : length input ≤ most → source.ends after ≡ source.ends before + 1
  pub known : IfSome (source.remaining before) (IsReadOf most input)

-- the text was written to the sink, behind what was written before, and flushed once, so that all
-- of it is taken
pub record WritesText {T : Type 0} (sink : SinkGhosts T) (before after : T) (text : List ℕ) : Type 0 where
  pub written : sink.written after ≡ sink.written before ++ text
  pub taken : sink.taken after ≡ sink.written before ++ text
  pub flushes : sink.flushes after ≡ sink.flushes before + 1
  pub known : Appends (sink.contents before) (sink.contents after) text
