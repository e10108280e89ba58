use Rattle.std.proofs.Common.{◌≡◌, ◌≤◌, ◌+◌, ◌-◌, ◌++◌, vec_len}
use Rattle.std.specs.Io.KnownBytes.{Consumes}
use Rattle.bg_streams.proofs.transfers.read_input.Given as goal

-- what was given and what was read of the known bytes, a byte at least with each read, and no read
-- failed
abbrev pub invariant-loop-chunk : goal.invariant-loop-chunk
invariant-loop-chunk g l = record {
  read : Consumes (g.S.Source.remaining l.initial.source) (g.S.Source.remaining l.source) l.input.items;
  given : g.S.Source.given l.source ≡ g.S.Source.given l.initial.source ++ l.input.items;
  ends : g.S.Source.ends l.source ≡ g.S.Source.ends l.initial.source;
  reads : g.S.Source.reads l.source ≤ g.S.Source.reads l.initial.source + vec_len l.input;
  within : vec_len l.input ≤ l.most + 1;
  failures : g.S.Source.failures l.source ≡ g.S.Source.failures l.initial.source;
}

abbrev pub decreases-loop-chunk : goal.decreases-loop-chunk
decreases-loop-chunk g l = l.most + 1 - vec_len l.input
