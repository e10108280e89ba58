-- The lines of transcripts are short, and have no line feed.
use Rattle.std.proofs.Common.{◌≡◌, ◌≢◌, ◌==◌, ◌⊎◌, ℕ, ◌+◌, ◌*◌, ◌<◌, ◌≤◌, Bool, true, false, if◌then◌else◌, List, [], ◌∷◌, ◌++◌, length, map, Option, Some, None, refl, ◌∙◌, ap, arith, length-append, inl, inr}
use Rattle.std.specs.Prelude.{codes}
use Rattle.std.specs.List.{All, AllByRecursion}
use Rattle.std.specs.Fmt.{decimal}
use Rattle.std.proofs.lemmas.Bool.{eqb-false, ne_eqb}
use Rattle.std.proofs.lemmas.List.Elements.{All-head, All-tail, All-cons, All-nil, All-append}
use Rattle.bg_board.specs.Die.{pips}
use Rattle.bg_board.specs.FromTo.{FromTo}
use Rattle.bg_board.specs.declared.dice.Die.{Die}
use Rattle.bg_board.specs.declared.players.Player.{Player}
use Rattle.bg_board.specs.declared.players.Player.TheVariants.{X, O}
use Rattle.bg_turns.specs.Turn.{IsDownward}
use Rattle.bg_match.specs.Actor.{actor_of, seat_of}
use Rattle.bg_match.specs.Entry.{IsEntry}
use Rattle.bg_match.specs.State.{State}
use Rattle.bg_match.specs.declared.entries.Entry.{Entry}
use Rattle.bg_match.specs.declared.entries.Entry.TheVariants as entry
use Rattle.bg_match.specs.declared.levels.Level.{Level}
use Rattle.bg_match.specs.declared.levels.Level.TheVariants.{Normal, Gammon, Backgammon}
use Rattle.bg_match.specs.Limits.{IsMatchLength}
use Rattle.bg_match.specs.Terms.{Terms, match_length, rules_of}
use Rattle.bg_match.specs.declared.limits.Rules.{Rules}
use Rattle.bg_match.specs.declared.limits.Rules.TheVariants.{One, Two}
use Rattle.bg_text.specs.Boards.TermsText.{rules_mark}
use Rattle.bg_match.proofs.Legal.{Follows_in_range}
use Rattle.bg_text.specs.Boards.BoardText.{line_text, lines_text}
use Rattle.bg_text.specs.Entries.EntryText.{letter, level_word, step_text, source_text, target_text, entry_words, entry_text}
use Rattle.bg_text.specs.Entries.EntryShape.{IsNumeral}
use Rattle.bg_text.specs.Entries.Words.{spaced}
use Rattle.bg_text.specs.Boards.Transcript.{AreLinesOf, length_line}
use Rattle.bg_text.specs.Judge.Judging.{lines_of}
use Rattle.bg_text.proofs.Spelling.EntryTexts.{pips_small}
use Rattle.bg_text.proofs.Spelling.PairTexts.{numeral_decimal, numeral_lacks, source_lacks, target_lacks, source_shape, target_shape}

-- no line feed stands in it
abbrev pub IsFeedless : List ℕ → Type 0
IsFeedless text = All (λ b. b ≢ 10) text

-- a short word without a line feed
abbrev pub IsShortWord : List ℕ → Type 0
IsShortWord word = IsFeedless word × (length word ≤ 10)

abbrev pub is_feedless : List ℕ → Bool
is_feedless [] = true
is_feedless (b ∷ word) = if b == 10 then false else is_feedless word

pub feedless_by_test : (word : List ℕ) → is_feedless word ≡ true → IsFeedless word
feedless_by_test [] h = All-nil (λ b. b ≢ 10)
feedless_by_test (b ∷ word) h =
    let parts : ((b == 10) ≡ false) × (is_feedless word ≡ true) = both (b == 10) (is_feedless word) h in
    All-cons (λ b. b ≢ 10) b word (eqb-false b 10 parts.0) (feedless_by_test word parts.1)
  where
    both : (p q : Bool) → (if p then false else q) ≡ true → (p ≡ false) × (q ≡ true)
    both true q h = absurd cc
    both false q h = (refl, h)

short_by_test : (word : List ℕ) → is_feedless word ≡ true → length word ≤ 10 → IsShortWord word
short_by_test word h few = (feedless_by_test word h, few)

numeral_short : (n : ℕ) → n < 100 → IsShortWord (decimal n)
numeral_short n below = (numeral_lacks 10 (decimal n) (omega arith) (numeral_decimal n below), omega (arith, (numeral_decimal n below).two))

source_short : (word : List ℕ) → (word ≡ codes "bar") ⊎ IsNumeral word → length word ≤ 3
source_short word (inl e) = rw e (omega arith)
source_short word (inr h) = omega (arith, h.two)

target_short : (word : List ℕ) → (word ≡ codes "off") ⊎ IsNumeral word → length word ≤ 3
target_short word (inl e) = rw e (omega arith)
target_short word (inr h) = omega (arith, h.two)

step_short : (step : FromTo) → IsDownward step → IsShortWord (step_text step)
step_short step h =
    let P : ℕ → Type 0 = λ b. b ≢ 10 in
    let low : step.to < step.from = h.lower in
    let high : step.from ≤ 25 = h.starts in
    let source = source_shape step.from high in
    let target = target_shape step.to (omega arith) in
    let first = length-append (source_text step.from) (codes "-") in
    let all = length-append (source_text step.from ++ codes "-") (target_text step.to) in
    let source_few = source_short (source_text step.from) source in
    let target_few = target_short (target_text step.to) target in (
      All-append P (source_text step.from ++ codes "-") (target_text step.to)
          (All-append P (source_text step.from) (codes "-") (source_lacks 10 (source_text step.from) (omega arith) source) (All-cons P 45 [] (omega arith) (All-nil P)))
          (target_lacks 10 (target_text step.to) (omega arith) target),
      omega (arith, first, all, source_few, target_few),
    )

step_fits : (step : FromTo) → IsDownward step → length (step_text step) ≤ 7
step_fits step h =
    let low : step.to < step.from = h.lower in
    let source_few = source_short (source_text step.from) (source_shape step.from h.starts) in
    let target_few = target_short (target_text step.to) (target_shape step.to (omega (arith, low, h.starts))) in
    let first = length-append (source_text step.from) (codes "-") in
    let all = length-append (source_text step.from ++ codes "-") (target_text step.to) in
    omega (arith, first, all, source_few, target_few)

steps_short : (steps : List FromTo) → AllByRecursion IsDownward steps → AllByRecursion IsShortWord (map step_text steps)
steps_short [] h = tt
steps_short (step ∷ steps) h = (step_short step h.0, steps_short steps h.1)

level_short : (level : Level) → IsShortWord (level_word level)
level_short Normal = short_by_test (codes "normal") refl (omega arith)
level_short Gammon = short_by_test (codes "gammon") refl (omega arith)
level_short Backgammon = short_by_test (codes "backgammon") refl (omega arith)

letter_short : (player : Player) → IsShortWord (letter player)
letter_short X = short_by_test (codes "X") refl (omega arith)
letter_short O = short_by_test (codes "O") refl (omega arith)

die_short : (die : Die) → IsShortWord (decimal (pips die))
die_short die = numeral_short (pips die) (pips_small die)

entry_short : (e : Entry) → IsEntry e → AllByRecursion IsShortWord (entry_words e)
entry_short (entry.Opening x o) h = (short_by_test (codes "open") refl (omega arith), (die_short x, (die_short o, tt)))
entry_short (entry.Rolled dice) h = (short_by_test (codes "roll") refl (omega arith), (die_short dice.first, (die_short dice.second, tt)))
entry_short entry.Doubled h = (short_by_test (codes "double") refl (omega arith), tt)
entry_short entry.Taken h = (short_by_test (codes "take") refl (omega arith), tt)
entry_short entry.Dropped h = (short_by_test (codes "drop") refl (omega arith), tt)
entry_short (entry.Moved steps) h = (short_by_test (codes "move") refl (omega arith), steps_short steps h.each)
entry_short (entry.Resigned level) h = (short_by_test (codes "resign") refl (omega arith), (level_short level, tt))
entry_short entry.Accepted h = (short_by_test (codes "accept") refl (omega arith), tt)
entry_short entry.Rejected h = (short_by_test (codes "reject") refl (omega arith), tt)
entry_short entry.Passed h = (short_by_test (codes "pass") refl (omega arith), tt)

spaced_feedless : (words : List (List ℕ)) → AllByRecursion IsShortWord words → IsFeedless (spaced words)
spaced_feedless [] h = All-nil (λ b. b ≢ 10)
spaced_feedless (word ∷ []) h = h.0.0
spaced_feedless (word ∷ next ∷ words) h =
    let P : ℕ → Type 0 = λ b. b ≢ 10 in
    All-append P word (32 ∷ spaced (next ∷ words)) h.0.0 (All-cons P 32 (spaced (next ∷ words)) (omega arith) (spaced_feedless (next ∷ words) h.1))

-- the words, with a space in front of each
abbrev spread : List (List ℕ) → ℕ
spread [] = 0
spread (word ∷ words) = 1 + length word + spread words

spaced_spread : (words : List (List ℕ)) → length (spaced words) ≤ spread words
spaced_spread [] = omega arith
spaced_spread (word ∷ []) = omega arith
spaced_spread (word ∷ next ∷ words) = omega (arith, length-append word (32 ∷ spaced (next ∷ words)), spaced_spread (next ∷ words))

steps_spread : (steps : List FromTo) → AllByRecursion IsDownward steps → spread (map step_text steps) ≤ 8 * length steps
steps_spread [] h = omega arith
steps_spread (step ∷ steps) h = omega (arith, (step_fits step h.0), steps_spread steps h.1)

entry_spread : (e : Entry) → IsEntry e → spread (entry_words e) ≤ 38
entry_spread (entry.Opening x o) h = omega (arith, (die_short x).1, (die_short o).1)
entry_spread (entry.Rolled dice) h = omega (arith, (die_short dice.first).1, (die_short dice.second).1)
entry_spread entry.Doubled h = omega arith
entry_spread entry.Taken h = omega arith
entry_spread entry.Dropped h = omega arith
entry_spread (entry.Moved steps) h = omega (arith, h.few, steps_spread steps h.each)
entry_spread (entry.Resigned level) h = omega (arith, (level_short level).1)
entry_spread entry.Accepted h = omega arith
entry_spread entry.Rejected h = omega arith
entry_spread entry.Passed h = omega arith

-- a line that a transcript can have
abbrev pub IsShortLine : List ℕ → Type 0
IsShortLine line = IsFeedless line × (length line ≤ 40)

letter_length : (player : Player) → length (letter player) ≡ 1
letter_length X = refl
letter_length O = refl

line_short : (seat : Option Player) (e : Entry) → IsEntry e → IsShortLine (entry_text seat e)
line_short None e h = (spaced_feedless (entry_words e) (entry_short e h), omega (arith, spaced_spread (entry_words e), entry_spread e h))
line_short (Some player) e h = (
  spaced_feedless (letter player ∷ entry_words e) (letter_short player, entry_short e h),
  omega (arith, letter_length player, spaced_spread (letter player ∷ entry_words e), entry_spread e h),
)

pub lines_short : (s : State) (entries : List Entry) (lines : List (List ℕ)) (t : State) → AreLinesOf s entries lines t → AllByRecursion IsShortLine lines
lines_short s [] [] t h = tt
lines_short s [] (line ∷ lines) t h = absurd h
lines_short s (e ∷ entries) [] t h = absurd h
lines_short s (e ∷ entries) (line ∷ lines) t h =
    (rw h.0 (line_short (seat_of (actor_of s)) e (Follows_in_range s e h.1 h.2)), lines_short h.1 entries lines t h.3)

-- a line without a line feed, and what stands after it
pub lines_of-line : (line rest : List ℕ) → IsFeedless line → lines_of (line_text line ++ rest) ≡ line ∷ lines_of rest
lines_of-line [] rest h = refl
lines_of-line (b ∷ line) rest h =
    let other : (b == 10) ≡ false = ne_eqb b 10 (All-head (λ b. b ≢ 10) b line h) in
    let more = lines_of-line line rest (All-tail (λ b. b ≢ 10) b line h) in
    rw (other, more) refl

-- lines without line feeds are the lines of their text
pub lines_of-text : (lines : List (List ℕ)) → AllByRecursion IsShortLine lines → lines_of (lines_text lines) ≡ lines
lines_of-text [] h = refl
lines_of-text (line ∷ lines) h = lines_of-line line (lines_text lines) h.0.0 ∙ ap (λ rest. line ∷ rest) (lines_of-text lines h.1)

pub text_length : (lines : List (List ℕ)) → AllByRecursion IsShortLine lines → length (lines_text lines) ≤ 41 * length lines
text_length [] h = omega arith
text_length (line ∷ lines) h = omega (arith, h.0.1, length-append line (10 ∷ []), length-append (line_text line) (lines_text lines), text_length lines h.1)

mark_short : (rules : Rules) → IsShortWord (rules_mark rules)
mark_short One = short_by_test [] refl (omega arith)
mark_short Two = short_by_test (codes " rules 2") refl (omega arith)

pub length_line_short : (terms : Terms) → IsMatchLength (match_length terms) → IsShortLine (length_line terms)
length_line_short terms range =
    let P : ℕ → Type 0 = λ b. b ≢ 10 in
    let digits = decimal (match_length terms) in
    let mark = rules_mark (rules_of terms) in
    let number = numeral_short (match_length terms) (omega (arith, range.1)) in
    let marked = mark_short (rules_of terms) in (
      All-append P (codes "length ") (digits ++ mark) (feedless_by_test (codes "length ") refl) (All-append P digits mark number.0 marked.0),
      omega (arith, number.1, marked.1, length-append (codes "length ") (digits ++ mark), length-append digits mark),
    )
