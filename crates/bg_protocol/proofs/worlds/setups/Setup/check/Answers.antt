use Rattle.std.proofs.Common.{arith, rules}
use Rattle.bg_protocol.proofs.worlds.setups.Setup.check.Goals as goal

pub returns : goal.returns
returns c = record {
  id_fits = omega arith;
  length_in_range = search rules;
  few = omega (arith, c.if-self-gt-MOST_WATCHERS.false);
}
