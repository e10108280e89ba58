-- What a text begins with.
use Rattle.std.specs.Prelude.{◌≡◌, ℕ, ◌+◌, true, false, List, ◌++◌, length, take, drop, nat_eq, Option, Some, None, MatchOption}
use Rattle.std.specs.Cmp.Lexicographic.{pointwise, same_text, other_text}
use Rattle.std.proofs.Common.{sym, ◌∙◌, ap}
use Rattle.std.proofs.lemmas.List.{take-append-drop}
use Rattle.std.proofs.Math.Seq.{take-append_seam}

pub match_weaker : {A : Type 0} (r : Option A) (P R : Type 0) (Q S : A → Type 0) → (P → R) → ((x : A) → Q x → S x) → MatchOption r P Q → MatchOption r R S
match_weaker None P R Q S f g h = f h
match_weaker (Some x) P R Q S f g h = g x h

pub begins : (line start rest : List ℕ) → (pointwise nat_eq (take (length start) line) start ≡ true) × (rest ≡ drop (length start) line) × (length rest + length start ≡ length line) → line ≡ start ++ rest
begins line start rest (h, e, n) =
    sym (take-append-drop (length start) line)
    ∙ (ap (λ front. front ++ drop (length start) line) (same_text (take (length start) line) start (sym h))
    ∙ ap (λ more. start ++ more) (sym e))

pub begins_not : (line start : List ℕ) → pointwise nat_eq (take (length start) line) start ≡ false → (rest : List ℕ) → line ≡ start ++ rest → ⊥
begins_not line start h rest e =
    other_text (take (length start) line) start (sym h) (ap (take (length start)) e ∙ take-append_seam start rest)
