use Rattle.std.proofs.Common.{◌≡◌, ◌∙◌, Some, ap, subst, arith}
use Rattle.bg_system.specs.KeyFiles.{IsKeyFile, key_file_text}
use Rattle.bg_system.specs.declared.files.key_files.KeyFile.{KeyFile}
use Rattle.bg_system.proofs.KeyTexts.{behind_match, behind_party, goes_on, is_match, is_past_names, key_joined, match_of, same_found_key, same_key_file}
use Rattle.bg_system.proofs.files.key_files.KeyFile.parse.Goals as goal

pub returns-in_default : goal.returns-in_default
returns-in_default c = λ file. (
  λ same. absurd (cc same),
  λ is. absurd (c.in_default.ensures.all (match_of file) (behind_match file) (is_match file is.0) (is_past_names file) (is.1 ∙ goes_on file)),
)

pub returns-in_err-party : goal.returns-in_err-party
returns-in_err-party c = λ file. (
  λ same. absurd (cc (same, c.from_residual.ensures)),
  λ is.
      let table = c.in-Some.ensures.all (match_of file) (behind_match file) (is_match file is.0) (is_past_names file) (is.1 ∙ goes_on file) in
      let of_party = is.0.of_party in
      absurd (c.in_err-party.ensures.all file.party (behind_party file)
      (omega (arith, of_party.0, c.from-least.ensures), omega (arith, of_party.1, c.from-most.ensures)) table.1),
)

pub returns-in_err-key_in : goal.returns-in_err-key_in
returns-in_err-key_in c = λ file. (
  λ same. absurd (cc (same, c.from_residual-in_err-key_in.ensures)),
  λ is.
      let table = c.in-Some.ensures.all (match_of file) (behind_match file) (is_match file is.0) (is_past_names file) (is.1 ∙ goes_on file) in
      let of_party = is.0.of_party in
      let party = c.in_ok-party.ensures.all file.party (behind_party file)
      (omega (arith, of_party.0, c.from-least.ensures), omega (arith, of_party.1, c.from-most.ensures)) table.1 in
      let key = c.in_err-key_in.ensures.all file.key is.0.whole is.0.bytes party.1 in
      absurd (cc key),
)

pub returns : goal.returns
returns c = λ file. (
  λ same.
      let found : KeyFile = record { table = c.in-Some.file.table; names = c.in-Some.file.names; party = c.in_ok-party.party; key = c.new-key.result } in
      let is : IsKeyFile found = record {
        of_match = c.in-Some.ensures.only.0.of_match;
        named = c.in-Some.ensures.only.0.named;
        of_party = (
          omega (arith, c.in_ok-party.ensures.only.0.0, c.from-least.ensures),
          omega (arith, c.in_ok-party.ensures.only.0.1, c.from-most.ensures),
        );
        whole = rw c.new-key.ensures search;
        bytes = rw c.new-key.ensures c.in_ok-key_in.ensures.bytes;
      } in
      let text : c.args.text.now ≡ key_file_text found =
      key_joined found c.args.text.now c.in-Some.rest.now c.in_ok-party.rest.now c.in-Some.ensures.only.1
      c.in_ok-party.ensures.only.1 (rw c.new-key.ensures c.in_ok-key_in.ensures.only) in
      subst (λ (f : KeyFile). IsKeyFile f × (c.args.text.now ≡ key_file_text f)) (same_found_key found file same) (is, text),
  λ is.
      let table = c.in-Some.ensures.all (match_of file) (behind_match file) (is_match file is.0) (is_past_names file) (is.1 ∙ goes_on file) in
      let of_party = is.0.of_party in
      let party = c.in_ok-party.ensures.all file.party (behind_party file)
      (omega (arith, of_party.0, c.from-least.ensures), omega (arith, of_party.1, c.from-most.ensures)) table.1 in
      let key = c.in_ok-key_in.ensures.all file.key is.0.whole is.0.bytes party.1 in
      ap Some (same_key_file file c.in-Some.file.table c.in-Some.file.names c.in_ok-party.party c.new-key.result table.0 party.0 (c.new-key.ensures ∙ cc key)),
)
