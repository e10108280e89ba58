use Rattle.std.proofs.Common.{◌≡◌, [], ◌<◌, None, length, sym, arith}
use Rattle.std.proofs.lemmas.Bool.Decides.{nat_tests}
use Rattle.std.proofs.lemmas.List.{nil_from_length}
use Rattle.bg_text.proofs.Judged.HeardBytes.{all_answered, last_answered, none_of, some_of}
use Rattle.bg_text.proofs.judging.hearing.Judge.end.Goals.{then-is_some-via-then-is_some, then-is_some-via-else-is_some+then-is_empty}
use Rattle.bg_text.proofs.judging.hearing.Judge.end.Goals as goal

pub returns-then-is_some : goal.returns-then-is_some
returns-then-is_some c =
    let items = c.args.self.unended.items in
    let ended : c.args.self.heard.refusal ≡ None → items ≡ [] =
    elim c.then-is_some.branch [
      | then-is_some-via-then-is_some w ↦ λ none. absurd (some_of c.args.self.heard.refusal (sym w.if-is_some.ensures) none)
      | then-is_some-via-else-is_some+then-is_empty w ↦ λ none. nil_from_length items (grind (arith, nat_tests, w.if-is_empty.ensures, c.args.self.unended.ok.0))
    ] in
    all_answered c.judgement.result c.args.self.heard items ended c.judgement.ensures

pub returns : goal.returns
returns c =
    let items = c.args.self.unended.items in
    let none = none_of c.args.self.heard.refusal (sym c.if-is_some.ensures) in
    let some : 0 < length items = grind (arith, nat_tests, c.if-is_empty.ensures, c.args.self.unended.ok.0) in
    let hears = rw c.deref.ensures.value at (c.hear.ensures none) in
    last_answered c.judgement-2.result c.args.self.heard c.hear.new.self items none some hears c.judgement-2.ensures
