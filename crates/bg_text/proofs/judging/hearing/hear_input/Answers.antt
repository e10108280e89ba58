use Rattle.std.proofs.Common.{◌≡◌, ◌≤◌, ◌<◌, ◌+◌, ◌++◌, ◌∙◌, Ok, length, take, length-take, length-append, append-nil, append_assoc, arith, rules, refl, sym, ap}
use Rattle.bg_text.specs.Limits.{most_bytes}
use Rattle.bg_streams.proofs.KnownBytes.{read_to_end, read_to_limit}
use Rattle.bg_text.proofs.Judged.HeardBytes.{consumes_on}
use Rattle.bg_text.proofs.judging.hearing.hear_input.Goals as goal

pub loop-left-preserved : goal.loop-left-preserved
loop-left-preserved g c =
    let was : c.read.result ≡ Ok c.in_ok-count.count = search (rules, c.in_ok-count.was, c.in_ok-count.ensures.cases) in
    let done : c.tell.result ≡ Ok c.in_ok-map_err.field-0 = search (rules, c.in_ok-map_err.was, c.in_ok-map_err.ensures.cases) in
    let so_far = c.loop-left.invariant in
    let part = take c.in_ok-count.count c.read.new.buffer in
    let bound = rw was at c.read.ensures.bound in
    let bytes = rw was at c.read.ensures.bytes in
    let given = rw was at c.read.ensures.given in
    let ends = rw was at c.read.ensures.ends in
    let same = rw was at c.read.ensures.cause in
    let tells = rw done at c.tell.ensures in
    let some : 0 < c.in_ok-count.count = omega (arith, c.if-count-eq0.false) in
    let long : length part ≡ c.in_ok-count.count = sym bound.1 in
    let sum = length-append so_far.input part in
    let room : length c.read.new.buffer ≤ c.loop-left.left =
    omega (arith, length-take c.min-room.result c.loop-left.chunk, c.read.auto.buffer, c.min-room.ensures) in
    record {
      input = so_far.input ++ part;
      read = consumes_on _ _ _ so_far.input part so_far.read bytes.0;
      given = given ∙ ap (λ xs. xs ++ part) so_far.given ∙ append_assoc _ so_far.input part;
      ends = ends.1 some ∙ so_far.ends;
      reads = omega (arith, so_far.reads, c.read.ensures.reads, long, sum, some);
      within = omega (arith, so_far.within, long, sum, bound.0, room);
      failures = same ∙ so_far.failures;
      heard = tells so_far.input so_far.heard;
    }

pub returns-then-count-eq0-clause-heard : goal.returns-then-count-eq0-clause-heard
returns-then-count-eq0-clause-heard g c =
    let was : c.read.result ≡ Ok c.in_ok-count.count = search (rules, c.in_ok-count.was, c.in_ok-count.ensures.cases) in
    let so_far = c.loop-left.invariant in
    let none = rw (was, c.if-count-eq0.true) at c.read.ensures.bytes in
    let given = rw (was, c.if-count-eq0.true) at c.read.ensures.given in
    let ends = rw (was, c.if-count-eq0.true) at c.read.ensures.ends in
    let part = length-take c.min-room.result c.loop-left.chunk in
    let room : 0 < length c.read.new.buffer =
    omega (arith, part, c.min-room.array_long, c.read.auto.buffer, c.min-room.ensures, c.loop-left-test.true) in
    let few : length so_far.input ≤ most_bytes = omega (arith, so_far.within, c.loop-left-test.true) in (
      so_far.input,
      record {
        given = given ∙ append-nil _ ∙ so_far.given;
        few = omega (arith, few);
        ended = λ short. ends.0 refl room ∙ ap (λ n. n + 1) so_far.ends;
        known = read_to_end most_bytes _ _ _ _ so_far.read none.0 (none.1 refl room) (omega (arith, few));
      },
      (few, so_far.heard),
    )

pub returns-clause-heard : goal.returns-clause-heard
returns-clause-heard g c =
    let so_far = c.loop-left.invariant in
    let all : length so_far.input ≡ most_bytes + 1 = omega (arith, so_far.within, c.loop-left-test.false) in (
      so_far.input,
      record {
        given = so_far.given;
        few = omega (arith, all);
        ended = λ short. absurd (omega (arith, all, short));
        known = read_to_limit most_bytes _ _ _ so_far.read all;
      },
      omega (arith, all),
    )
