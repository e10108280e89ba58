use Rattle.std.proofs.Common.{◌≡◌, ◌+◌, ◌++◌, take}
use Rattle.bg_match.specs.Match.{IsLog}
use Rattle.bg_match.proofs.records.Record.extend_into_room.Given as goal

abbrev pub invariant-loop-entry : goal.invariant-loop-entry
invariant-loop-entry l = record {
  same : l.self ≡ record (l.fn.self) {
    entries = l.fn.self.entries ++ take l.entry-index l.entries;
    spare = l.self.spare;
  };
  room : l.self.spare + l.entry-index ≡ l.fn.self.spare;
  log : IsLog l.self;
}
