-- Texts cut at a separator, and put together again.
use Rattle.std.specs.Prelude.{◌≡◌, ◌≢◌, ◌==◌, ℕ, false, List, [], ◌∷◌, ◌++◌}
use Rattle.std.specs.List.{slice_split, join_with_byte, All, AllByRecursion}
use Rattle.std.proofs.Common.{refl, sym, ◌∙◌, ap, arith, length}
use Rattle.std.proofs.lemmas.Bool.{ne_eqb, eq-eqb}
use Rattle.std.proofs.lemmas.List.Elements.{All-weaker}
use Rattle.std.proofs.lemmas.List.Splits.{slice_split_none, slice_split_at, join_with_byte-slice_split, length-slice_split}
use Rattle.bg_text.specs.Entries.Words.{words_of, spaced}

-- a text without the byte is one piece
pub one_piece : (c : ℕ) (text : List ℕ) → All (λ b. b ≢ c) text → slice_split (λ b. b == c) text ≡ text ∷ []
one_piece c text h = slice_split_none (λ b. b == c) text (All-weaker (λ b. b ≢ c) (λ b. (b == c) ≡ false) (λ b n. ne_eqb b c n) text h)

-- the first piece ends at the first such byte
pub first_piece : (c : ℕ) (text piece rest : List ℕ) → All (λ b. b ≢ c) piece → text ≡ piece ++ c ∷ rest → slice_split (λ b. b == c) text ≡ piece ∷ slice_split (λ b. b == c) rest
first_piece c text piece rest h e =
    ap (slice_split (λ b. b == c)) e
    ∙ slice_split_at (λ b. b == c) piece c rest
    (All-weaker (λ b. b ≢ c) (λ b. (b == c) ≡ false) (λ b n. ne_eqb b c n) piece h) (eq-eqb c c refl)

-- a text is its pieces with the byte between each two
pub pieces_joined : (c : ℕ) (text : List ℕ) (pieces : List (List ℕ)) → slice_split (λ b. b == c) text ≡ pieces → text ≡ join_with_byte c pieces
pieces_joined c text pieces e = sym (join_with_byte-slice_split c text) ∙ ap (join_with_byte c) e

-- two pieces
pub two_pieces : (c : ℕ) (text first second : List ℕ) → All (λ b. b ≢ c) first → All (λ b. b ≢ c) second → text ≡ first ++ c ∷ second → slice_split (λ b. b == c) text ≡ first ∷ second ∷ []
two_pieces c text first second h k e = first_piece c text first second h e ∙ ap (λ rest. first ∷ rest) (one_piece c second k)

pub words_not_nil : (line : List ℕ) → words_of line ≡ [] → ⊥
words_not_nil line e = omega (arith, length-slice_split (λ b. b == 32) line, ap length e)

-- a word has no space in it
abbrev pub IsWord : List ℕ → Type 0
IsWord word = All (λ b. b ≢ 32) word

-- words are the words of the line that they make
pub words_spaced : (first : List ℕ) (rest : List (List ℕ)) → IsWord first → AllByRecursion IsWord rest → words_of (spaced (first ∷ rest)) ≡ first ∷ rest
words_spaced first [] h k = one_piece 32 first h
words_spaced first (next ∷ rest) h k =
    first_piece 32 (spaced (first ∷ next ∷ rest)) first (spaced (next ∷ rest)) h refl
    ∙ ap (λ words. first ∷ words) (words_spaced next rest k.0 k.1)

-- a line is its words with a space between each two
pub line_spaced : (line : List ℕ) (words : List (List ℕ)) → words_of line ≡ words → line ≡ spaced words
line_spaced line words e = pieces_joined 32 line words e

-- equal lists of words have equal parts
pub same_first : (a b c d : List ℕ) → a ∷ b ∷ [] ≡ c ∷ d ∷ [] → a ≡ c
same_first a b c d e = cc

pub same_second : (a b c d : List ℕ) → a ∷ b ∷ [] ≡ c ∷ d ∷ [] → b ≡ d
same_second a b c d e = cc

pub same_rest : (u v : List ℕ) (a b : List (List ℕ)) → u ∷ a ≡ v ∷ b → a ≡ b
same_rest u v a b e = cc
