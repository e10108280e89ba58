use Rattle.std.proofs.Common.{◌+◌, arith, refl, sym}
use Rattle.bg_table.proofs.Earlier.{follows, stands_on, there_is}
use Rattle.bg_table.proofs.earlier_standings.standing_before.Goals as goal

pub loop-played-init : goal.loop-played-init
loop-played-init c = rw (c.start-standing.ensures, c.length.ensures.value, c.rules.ensures) refl

pub unwrap-entry-requires : goal.unwrap-entry-requires
unwrap-entry-requires c =
    there_is c.args.log.now.entries (c.loop-played.played + 1) c.entry.result (omega arith) (omega (arith, c.requires.last)) c.entry.ensures

pub standing_after-standing-requires : goal.standing_after-standing-requires
standing_after-standing-requires c =
    follows c.args.log.now.terms c.args.log.now.entries c.loop-played.played c.loop-played.standing c.unwrap-entry.result.now
    c.length.ensures.log.legal (sym (rw c.unwrap-entry.ensures at c.entry.ensures)) c.loop-played.invariant

pub loop-played-preserved : goal.loop-played-preserved
loop-played-preserved c =
    stands_on c.args.log.now.terms c.args.log.now.entries c.loop-played.played c.loop-played.standing _ c.unwrap-entry.result.now
    c.length.ensures.log.legal (sym (rw c.unwrap-entry.ensures at c.entry.ensures)) c.loop-played.invariant c.standing_after-standing.ensures
