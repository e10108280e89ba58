use Rattle.std.proofs.Common.{◌≡◌, ◌∙◌, ℕ, List, [], ◌++◌, Some, ap, subst, sym}
use Rattle.std.proofs.lemmas.List.{append-nil}
use Rattle.bg_system.specs.MatchFiles.{IsMatchFile, match_text}
use Rattle.bg_system.specs.NameLines.{IsNames, names_text}
use Rattle.bg_system.specs.declared.files.match_files.MatchFile.{MatchFile}
use Rattle.bg_system.specs.declared.files.name_lines.Names.{Names}
use Rattle.bg_system.proofs.MatchTexts.{nothing_left, same_found}
use Rattle.bg_system.proofs.NameTexts.{end_is_past_names}
use Rattle.bg_system.proofs.files.match_files.MatchFile.parse.Goals as goal

pub returns-in_err-file : goal.returns-in_err-file
returns-in_err-file c = λ file. (
  λ same. absurd (cc (same, c.from_residual.ensures)),
  λ is. absurd (c.in_err-file.ensures.all file (names_text is.1.0) is.0 is.1.2),
)

pub returns-in_default : goal.returns-in_default
returns-in_default c = λ file. (
  λ same. absurd (cc same),
  λ is.
      let table = c.in_ok-file.ensures.all file (names_text is.1.0) is.0 is.1.2 in
      absurd (c.in_default.ensures.all is.1.0 [] is.1.1 end_is_past_names (table.1 ∙ sym (append-nil (names_text is.1.0)))),
)

pub returns-then-not-is_empty : goal.returns-then-not-is_empty
returns-then-not-is_empty c = λ file. (
  λ same. absurd (cc same),
  λ is.
      let table = c.in_ok-file.ensures.all file (names_text is.1.0) is.0 is.1.2 in
      let names = c.in-Some.ensures.all is.1.0 [] is.1.1 end_is_past_names (table.1 ∙ sym (append-nil (names_text is.1.0))) in
      let left = rw names.1 at c.if-not-is_empty.ensures in
      absurd (cc left),
)

pub returns : goal.returns
returns c = λ file. (
  λ same.
      let left = nothing_left c.in-Some.rest.now c.if-not-is_empty.ensures in
      let names : Names = c.in-Some.field-0-0 in
      let behind = c.in-Some.ensures.only.1 ∙ ap (λ (rest : List ℕ). names_text names ++ rest) left ∙ append-nil (names_text names) in
      let text = c.in_ok-file.ensures.only.1 ∙ ap (λ (rest : List ℕ). match_text c.in_ok-file.file ++ rest) behind in
      subst (λ (f : MatchFile). IsMatchFile f × ((n : Names) × IsNames n × (c.args.text.now ≡ match_text f ++ names_text n)))
      (same_found c.in_ok-file.file file same) (c.in_ok-file.ensures.only.0, (names, c.in-Some.ensures.only.0, text)),
  λ is. ap Some (c.in_ok-file.ensures.all file (names_text is.1.0) is.0 is.1.2).0,
)
