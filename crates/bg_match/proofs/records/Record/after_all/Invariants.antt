use Rattle.std.proofs.Common.{◌≡◌, ◌+◌, ◌≤◌, ◌++◌, length, take}
use Rattle.bg_match.specs.Limits.{most_entries}
use Rattle.bg_match.specs.Match.{StandsAt}
use Rattle.bg_match.proofs.records.Record.after_all.Given as goal

abbrev pub invariant-loop-entry : goal.invariant-loop-entry
invariant-loop-entry l = record {
  number : l.number ≡ length l.self.entries + l.entry-index;
  few : l.number ≤ most_entries;
  stands : StandsAt l.self.terms (l.self.entries ++ take l.entry-index l.entries) l.standing;
}
