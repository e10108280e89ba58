use Rattle.std.proofs.Common.{arith, rules, refl, ap, ◌∙◌, ◌≡◌, ◌<◌, ◌+◌, ◌≤◌, Ok, length, length-take, append-nil}
use Rattle.bg_streams.proofs.KnownBytes.{read_to_end, read_to_limit}
use Rattle.bg_streams.proofs.transfers.read_input.Goals as goal

pub returns-then-count-eq0-clause-read : goal.returns-then-count-eq0-clause-read
returns-then-count-eq0-clause-read g c =
    let was : c.read.result ≡ Ok c.in_ok-count.count = search (rules, c.in_ok-count.was, c.in_ok-count.ensures.cases) in
    let so_far = c.loop-chunk.invariant in
    let none = rw (was, c.if-count-eq0.true) at c.read.ensures.bytes in
    let given = rw (was, c.if-count-eq0.true) at c.read.ensures.given in
    let ends = rw (was, c.if-count-eq0.true) at c.read.ensures.ends in
    let part = length-take c.min-room.result c.loop-chunk.chunk in
    let room : 0 < length c.read.new.buffer =
    omega (arith, part, c.min-room.array_long, c.read.auto.buffer, c.min-room.ensures, c.len-in-loop-chunk.ensures, c.loop-chunk-test.true, c.len.ensures) in
    let few : length c.loop-chunk.input.items ≤ c.args.most + 1 = omega (arith, c.loop-chunk.input.ok.0, so_far.within) in
    record {
      given = given ∙ append-nil _ ∙ so_far.given;
      few = few;
      ended = λ short. ends.0 refl room ∙ ap (λ n. n + 1) so_far.ends;
      known = read_to_end _ _ _ _ _ so_far.read none.0 (none.1 refl room) few;
    }

pub returns-clause-read : goal.returns-clause-read
returns-clause-read g c =
    let so_far = c.loop-chunk.invariant in
    let all : length c.loop-chunk.input.items ≡ c.args.most + 1 = omega (arith, c.loop-chunk.input.ok.0, so_far.within, c.loop-chunk-test.false, c.len.ensures) in
    record {
      given = so_far.given;
      few = omega (arith, all);
      ended = λ short. absurd (omega (arith, all, short));
      known = read_to_limit _ _ _ _ so_far.read all;
    }
