use Rattle.std.proofs.Common.{arith}
use Rattle.bg_turns.proofs.Bits.ByBytes.{list_small, list_bits}
use Rattle.bg_turns.proofs.masks.eights.reaching.Goals as goal

pub overflow_add-sums : goal.overflow_add-sums
overflow_add-sums c =
    let small = list_small c.args.counts c.args.added c.requires.few c.requires.added in
    rw (c.from_le_bytes.ensures, c.from.ensures) (omega (arith, small))

pub returns : goal.returns
returns c i below =
    rw (c.from_le_bytes.ensures, c.from.ensures) (list_bits c.args.counts c.args.added c.requires.few c.requires.added i below)
