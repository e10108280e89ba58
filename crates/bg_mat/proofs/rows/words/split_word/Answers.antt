use Rattle.std.proofs.Common.{arith}
use Rattle.std.proofs.lemmas.Bool.Decides.{nat_tests}
use Rattle.std.proofs.Common.{◌<◌, length, append_assoc, ◌∙◌, ap, List, ℕ, ◌++◌}
use Rattle.bg_mat.proofs.OfReading.WordLemmas.{begins_word}
use Rattle.bg_mat.proofs.rows.words.split_word.Goals as goal

pub returns : goal.returns
returns c =
    let front = c.split_blanks.ensures in
    let cut = c.split_solid.ensures in
    let some : 0 < length c.split_blanks.result.1.now = grind (arith, nat_tests, c.if-is_empty.ensures) in
    record {
      blanks = c.split_blanks.result.0.now;
      blank = front.0;
      some = begins_word _ _ _ cut.1 some front.2 cut.2;
      solid = cut.0;
      ends = cut.2;
      spelled = rw append_assoc (front.1 ∙ ap (λ (t : List ℕ). c.split_blanks.result.0.now ++ t) cut.1);
    }
