-- A move's line, step by step.
use Rattle.std.specs.Prelude.{◌≡◌, ℕ, ◌+◌, ◌*◌, ◌<◌, ◌≤◌, List, [], ◌∷◌, ◌++◌, length, map, take, codes}
use Rattle.std.proofs.Common.{refl, sym, ◌∙◌, ap, arith, append_assoc, get_or}
use Rattle.std.proofs.lemmas.List.{take_more}
use Rattle.bg_board.specs.FromTo.{FromTo}
use Rattle.bg_text.specs.Entries.Words.{spaced}
use Rattle.bg_text.specs.Entries.EntryText.{step_text}
use Rattle.bg_text.proofs.Spelling.Moves.{map_push}

spaced_push : (first : List ℕ) (words : List (List ℕ)) (word : List ℕ) → spaced (first ∷ (words ++ word ∷ [])) ≡ spaced (first ∷ words) ++ 32 ∷ word
spaced_push first [] word = refl
spaced_push first (next ∷ words) word =
    ap (λ rest. first ++ 32 ∷ rest) (spaced_push next words word)
    ∙ sym (append_assoc first (32 ∷ spaced (next ∷ words)) (32 ∷ word))

-- the line has the first steps behind what it began with
pub record IsWritten (start line : List ℕ) (steps : List FromTo) (count : ℕ) : Type 0 where
  pub bytes : line ≡ start ++ spaced (codes "move" ∷ map step_text (take count steps))
  pub few : length line ≤ 6 + 8 * count

pub written_more : (start line new : List ℕ) (steps : List FromTo) (count : ℕ) (step : FromTo) → IsWritten start line steps count → count < length steps → step ≡ get_or steps count step → new ≡ line ++ 32 ∷ step_text step → length new ≤ length line + 8 → IsWritten start new steps (count + 1)
written_more start line new steps count step h within is goes few = record {
  bytes =
      goes
      ∙ (ap (λ front. front ++ 32 ∷ step_text step) h.bytes
      ∙ (append_assoc start (spaced (codes "move" ∷ map step_text (take count steps))) (32 ∷ step_text step)
      ∙ ap (λ rest. start ++ rest) (sym words)));
  few = omega (arith, h.few);
}
  where
    taken : take (count + 1) steps ≡ take count steps ++ step ∷ []
    taken = take_more steps count step within ∙ ap (λ s. take count steps ++ s ∷ []) (sym is)

    words : spaced (codes "move" ∷ map step_text (take (count + 1) steps)) ≡ spaced (codes "move" ∷ map step_text (take count steps)) ++ 32 ∷ step_text step
    words =
        ap (λ some. spaced (codes "move" ∷ some)) (ap (map step_text) taken ∙ map_push step_text (take count steps) step)
        ∙ spaced_push (codes "move") (map step_text (take count steps)) (step_text step)
