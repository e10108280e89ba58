use Rattle.std.proofs.Common.{◌≡◌, ◌∙◌, ℕ, ◌++◌, codes, sym, subst, arith}
use Rattle.bg_match.specs.Terms.{match_length, rules_of}
use Rattle.bg_system.specs.MatchFiles.{IsMatchFile, match_text}
use Rattle.bg_system.specs.Numbers.{BeginsWith, rules_number}
use Rattle.bg_system.specs.declared.files.match_files.MatchFile.{MatchFile}
use Rattle.bg_system.proofs.MatchTexts.{begins, behind_length, behind_number, behind_rules, joined, same_file, some_number}
use Rattle.bg_system.proofs.files.match_files.MatchFile.parse_front.Goals as goal

pub returns-in_err-id-clause-all : goal.returns-in_err-id-clause-all
returns-in_err-id-clause-all c = λ file rest fine is.
    let none =
    c.in_err-id.ensures.all file.id (behind_number file rest) (omega arith, omega (arith, fine.numbered)) (is ∙ begins file rest) in
    absurd none

pub returns-in_err-length-clause-all : goal.returns-in_err-length-clause-all
returns-in_err-length-clause-all c = λ file rest fine is.
    let number =
    c.in_ok-id.ensures.all file.id (behind_number file rest) (omega arith, omega (arith, fine.numbered)) (is ∙ begins file rest) in
    let played = fine.played in
    absurd (c.in_err-length.ensures.all (match_length file.terms) (behind_length file rest)
    (omega (arith, played.0, c.from-shortest.ensures), omega (arith, played.1, c.from-longest.ensures)) number.1)

pub returns-in_err-rules-clause-all : goal.returns-in_err-rules-clause-all
returns-in_err-rules-clause-all c = λ file rest fine is.
    let number =
    c.in_ok-id.ensures.all file.id (behind_number file rest) (omega arith, omega (arith, fine.numbered)) (is ∙ begins file rest) in
    let played = fine.played in
    let length = c.in_ok-length.ensures.all (match_length file.terms) (behind_length file rest)
    (omega (arith, played.0, c.from-shortest.ensures), omega (arith, played.1, c.from-longest.ensures)) number.1 in
    absurd (c.in_err-rules.ensures.all (rules_number (rules_of file.terms)) (behind_rules file rest) (some_number (rules_of file.terms)) length.1)

pub returns-in_err-port-clause-all : goal.returns-in_err-port-clause-all
returns-in_err-port-clause-all c = λ file rest fine is.
    let number =
    c.in_ok-id.ensures.all file.id (behind_number file rest) (omega arith, omega (arith, fine.numbered)) (is ∙ begins file rest) in
    let played = fine.played in
    let length = c.in_ok-length.ensures.all (match_length file.terms) (behind_length file rest)
    (omega (arith, played.0, c.from-shortest.ensures), omega (arith, played.1, c.from-longest.ensures)) number.1 in
    let rules = c.in_ok-rules.ensures.all (rules_number (rules_of file.terms)) (behind_rules file rest) (some_number (rules_of file.terms)) length.1 in
    let heard = fine.heard in
    absurd (c.in_err-port.ensures.all file.port rest
    (omega (arith, heard.0, c.from-lowest.ensures), omega (arith, heard.1, c.from-highest.ensures)) rules.1)

pub returns-clause-only : goal.returns-clause-only
returns-clause-only c =
    let rules = c.in_ok-rules.ensures.only.1 in
    let found : MatchFile = record {
      id = c.in_ok-id.id;
      terms = record { length = c.in_ok-length.length; rules = c.rules_of.result };
      port = c.in_ok-port.port;
    } in
    let is : IsMatchFile found = record {
      numbered = omega (arith, c.in_ok-id.ensures.only.0.1);
      played = (
        omega (arith, c.in_ok-length.ensures.only.0.0, c.from-shortest.ensures),
        omega (arith, c.in_ok-length.ensures.only.0.1, c.from-longest.ensures),
      );
      heard = (
        omega (arith, c.in_ok-port.ensures.only.0.0, c.from-lowest.ensures),
        omega (arith, c.in_ok-port.ensures.only.0.1, c.from-highest.ensures),
      );
    } in
    let text : c.args.text.now ≡ match_text found ++ c.in_ok-port.rest.now =
    joined found c.args.text.now c.in_ok-id.rest.now c.in_ok-length.rest.now c.in_ok-rules.rest.now c.in_ok-port.rest.now
    c.in_ok-id.ensures.only.1 c.in_ok-length.ensures.only.1
    (subst (λ (n : ℕ). BeginsWith c.in_ok-length.rest.now (codes "rules ") n 32 c.in_ok-rules.rest.now) (sym c.rules_of.ensures) rules)
    c.in_ok-port.ensures.only.1 in
    (is, text)

pub returns-clause-all : goal.returns-clause-all
returns-clause-all c = λ file rest fine is.
    let number =
    c.in_ok-id.ensures.all file.id (behind_number file rest) (omega arith, omega (arith, fine.numbered)) (is ∙ begins file rest) in
    let played = fine.played in
    let length = c.in_ok-length.ensures.all (match_length file.terms) (behind_length file rest)
    (omega (arith, played.0, c.from-shortest.ensures), omega (arith, played.1, c.from-longest.ensures)) number.1 in
    let rules = c.in_ok-rules.ensures.all (rules_number (rules_of file.terms)) (behind_rules file rest) (some_number (rules_of file.terms)) length.1 in
    let heard = fine.heard in
    let port = c.in_ok-port.ensures.all file.port rest
    (omega (arith, heard.0, c.from-lowest.ensures), omega (arith, heard.1, c.from-highest.ensures)) rules.1 in (
      same_file file c.in_ok-id.id c.in_ok-length.length c.in_ok-port.port c.rules_of.result number.0 length.0
          (c.rules_of.ensures ∙ rules.0) port.0,
      port.1,
    )
