use Rattle.std.proofs.Common.{◌≡◌, length, drop, get_or, arith, ap}
use Rattle.std.proofs.lemmas.List.{length-drop}
use Rattle.bg_ids.proofs.Points.{next_of_side, read_next, slice_behind}
use Rattle.bg_ids.proofs.reading.read_side.Goals as goal

pub returns-in_err-count-clause-side : goal.returns-in_err-count-clause-side
returns-in_err-count-clause-side c = λ counts rest l s e.
    let next = next_of_side _ _ _ _ _ _ _ c.loop-test.true c.loop.invariant.read l s e in
    absurd (cc (c.in_err-count.ensures.point _ _ next.few next.behind))

pub returns-in_err-off-clause-side : goal.returns-in_err-off-clause-side
returns-in_err-off-clause-side c = λ counts rest l s e.
    let next = next_of_side _ _ _ _ _ _ _ c.loop-test.true c.loop.invariant.read l s e in
    let same : c.in_ok-count.count ≡ get_or (drop 1 counts) c.loop.counter 0 = cc (c.in_ok-count.ensures.point _ _ next.few next.behind) in
    absurd (omega (arith, same, next.left, c.in_err-off.ensures))

pub loop-preserved : goal.loop-preserved
loop-preserved c = record {
  read = read_next _ _ _ _ _ _ _ _ _ c.loop-test.true c.loop.invariant.read c.in_ok-count.ensures.point c.in_ok-off.ensures c.from.ensures c.push.ensures.items;
  within = omega (arith, c.in_ok-count.ensures.room, ap length (slice_behind c.args.bits.now c.loop.used), length-drop c.loop.used c.args.bits.now, c.from.ensures);
  len = omega (arith, c.push.ensures.len, c.loop.invariant.len);
}
