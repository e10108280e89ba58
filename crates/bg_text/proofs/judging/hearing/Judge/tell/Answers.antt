use Rattle.std.proofs.Common.{◌≡◌, [], ◌∷◌, ◌++◌, sym, ◌∙◌, ap, subst, append_assoc}
use Rattle.bg_text.specs.Judge.Hearing.{HasHeard}
use Rattle.bg_text.proofs.Judged.HeardBytes.{none_of, rest_unheard, some_of}
use Rattle.bg_text.proofs.judging.hearing.Judge.tell.Goals as goal

pub loop-rest-preserved : goal.loop-rest-preserved
loop-rest-preserved c =
    let so_far = c.loop-rest.invariant in
    let done = so_far.0 in
    let line = c.in-Some.ensures.line in
    let none = none_of c.loop-rest.self.heard.refusal c.loop-rest-test.ensures in (
      done ++ c.in-Some.line.now ++ 10 ∷ [],
      so_far.1 ∙ ap (λ rest. done ++ rest) line.1 ∙ simp append_assoc,
      λ told heard.
          subst (λ bytes. HasHeard bytes c.end_line.new.self.heard c.end_line.new.self.unended.items) (simp append_assoc)
          (c.in_ok-end_line.ensures line.0 none (told ++ done) (so_far.2 told heard)),
    )

pub returns : goal.returns
returns c told heard =
    let so_far = c.loop-rest.invariant in
    let some = some_of c.loop-rest.self.heard.refusal c.loop-rest-test.ensures in
    let whole : (told ++ so_far.0) ++ c.loop-rest.rest.now ≡ told ++ c.args.bytes.now =
    append_assoc told so_far.0 c.loop-rest.rest.now ∙ ap (λ bytes. told ++ bytes) (sym so_far.1) in
    subst (λ bytes. HasHeard bytes c.loop-rest.self.heard c.loop-rest.self.unended.items) whole
    (rest_unheard (told ++ so_far.0) c.loop-rest.self.heard c.loop-rest.self.unended.items (so_far.2 told heard) c.loop-rest.rest.now some)
