use Rattle.std.proofs.Common.{◌≡◌, ◌∙◌, [], ◌++◌, Some, ap, subst, sym}
use Rattle.std.proofs.lemmas.List.{append-nil}
use Rattle.bg_system.specs.NamedMatches.{IsNamedMatch, named_match_text}
use Rattle.bg_system.specs.declared.files.named_matches.NamedMatch.{NamedMatch}
use Rattle.bg_system.proofs.MatchTexts.{nothing_left}
use Rattle.bg_system.proofs.MatchedNames.{same_found_match}
use Rattle.bg_system.proofs.NameTexts.{end_is_past_names}
use Rattle.bg_system.proofs.files.named_matches.NamedMatch.parse.Goals as goal

pub returns-then-not-is_empty : goal.returns-then-not-is_empty
returns-then-not-is_empty c = λ file. (
  λ same. absurd (cc same),
  λ is.
      let found = c.in-Some.ensures.all file [] is.0 end_is_past_names (is.1 ∙ sym (append-nil (named_match_text file))) in
      let left = rw found.1 at c.if-not-is_empty.ensures in
      absurd (cc left),
)

pub returns : goal.returns
returns c = λ file. (
  λ same.
      let left = nothing_left c.in-Some.rest.now c.if-not-is_empty.ensures in
      let text = c.in-Some.ensures.only.1 ∙ ap (λ rest. named_match_text c.in-Some.file ++ rest) left
      ∙ append-nil (named_match_text c.in-Some.file) in
      subst (λ (f : NamedMatch). IsNamedMatch f × (c.args.text.now ≡ named_match_text f)) (same_found_match c.in-Some.file file same)
      (c.in-Some.ensures.only.0, text),
  λ is. ap Some (c.in-Some.ensures.all file [] is.0 end_is_past_names (is.1 ∙ sym (append-nil (named_match_text file)))).0,
)
