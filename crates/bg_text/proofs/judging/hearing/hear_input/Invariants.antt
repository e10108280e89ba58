use Rattle.std.proofs.Common.{◌≡◌, ◌≤◌, ◌+◌, ◌++◌, ℕ, List, length}
use Rattle.std.specs.Io.KnownBytes.{Consumes}
use Rattle.bg_text.specs.Judge.Hearing.{HasHeard}
use Rattle.bg_text.specs.Limits.{most_bytes}
use Rattle.bg_text.proofs.judging.hearing.hear_input.Given as goal

-- what was given and what was read of the known bytes, a byte at least with each read, and no read
-- failed; all of it was told
abbrev pub invariant-loop-left : goal.invariant-loop-left
invariant-loop-left g l = record {
  input : List ℕ;
  read : Consumes (g.S.Source.remaining l.initial.source) (g.S.Source.remaining l.source) input;
  given : g.S.Source.given l.source ≡ g.S.Source.given l.initial.source ++ input;
  ends : g.S.Source.ends l.source ≡ g.S.Source.ends l.initial.source;
  reads : g.S.Source.reads l.source ≤ g.S.Source.reads l.initial.source + length input;
  within : length input + l.left ≡ most_bytes + 1;
  failures : g.S.Source.failures l.source ≡ g.S.Source.failures l.initial.source;
  heard : HasHeard input l.judge.heard l.judge.unended.items;
}

abbrev pub decreases-loop-left : goal.decreases-loop-left
decreases-loop-left g l = l.left
