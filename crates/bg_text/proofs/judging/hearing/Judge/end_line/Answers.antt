use Rattle.std.proofs.Common.{◌≡◌, [], arith}
use Rattle.std.proofs.lemmas.Bool.Decides.{nat_tests}
use Rattle.std.proofs.lemmas.List.{nil_from_length}
use Rattle.bg_text.proofs.Judged.HeardBytes.{line_heard}
use Rattle.bg_text.proofs.judging.hearing.Judge.end_line.Goals as goal

pub returns-then-is_empty : goal.returns-then-is_empty
returns-then-is_empty c whole none told heard =
    let nothing : c.args.self.now.unended.items ≡ [] =
    nil_from_length c.args.self.now.unended.items (grind (arith, nat_tests, c.if-is_empty.ensures, c.args.self.now.unended.ok.0)) in
    rw nothing
    (line_heard told c.args.self.now.heard [] (rw nothing at heard) c.args.bytes.now c.hear.new.self none whole (c.hear.ensures none))

pub returns : goal.returns
returns c whole none told heard =
    let hears = rw (c.deref.ensures.value, c.in_ok-extend_from_slice.ensures.items) at (c.hear-2.ensures none) in
    rw c.clear.ensures.items
    (line_heard told c.args.self.now.heard c.args.self.now.unended.items heard c.args.bytes.now c.hear-2.new.self none whole hears)
