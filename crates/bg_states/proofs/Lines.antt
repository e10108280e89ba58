-- The lines of the last entries, one by one.
use Rattle.std.proofs.Common.{◌≡◌, ℕ, suc, ◌+◌, Bool, false, List, ◌++◌, refl, sym, ◌∙◌, subst, append_assoc, add-one}
use Rattle.std.specs.Prelude.{codes}
use Rattle.bg_match.specs.Match.{Log}
use Rattle.bg_states.specs.LastLines.{AddsLines, AreLines, IsLineOf}
use Rattle.bg_states.specs.Lists.{comma_text}

-- a line, and those behind it, are added behind a comma or at the front
pub one_more : (log : Log) (number count before : ℕ) (first : Bool) (line rest : List ℕ)
    (old one two new : List ℕ) → count ≡ before + 1 → IsLineOf log number line
    → AreLines log (number + 1) before false rest → one ≡ old ++ comma_text first
    → two ≡ one ++ codes "\"" ++ line ++ codes "\"" → new ≡ two ++ rest
    → AddsLines log number count first old new
one_more log number count before first line rest old one two new more is_line lines comma quoted added =
    let text = comma_text first ++ codes "\"" ++ line ++ codes "\"" ++ rest in
    let all : AreLines log number (suc before) first text = (line, rest, is_line, lines, refl) in (
      text,
      subst (λ (n : ℕ). AreLines log number n first text) (sym (more ∙ add-one before)) all,
      rw (added, quoted, comma) (simp append_assoc),
    )
