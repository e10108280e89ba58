use Rattle.std.proofs.Common.{◌≡◌, vec_len}
use Rattle.bg_protocol.specs.Worlds.Starts.{fresh_watchers}
use Rattle.bg_protocol.proofs.nodes.watchers.Watchers.fresh.Given as goal

abbrev pub invariant-loop-index : goal.invariant-loop-index
invariant-loop-index l = record {
  value : (l.nodes).items ≡ fresh_watchers l.id l.terms l.index;
  many : vec_len l.nodes ≡ l.index;
}
