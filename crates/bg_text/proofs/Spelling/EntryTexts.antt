-- The texts of entries.
use Rattle.std.specs.Prelude.{◌≡◌, ◌≢◌, ◌==◌, ℕ, ◌<◌, ◌≤◌, Bool, true, false, if◌then◌else◌, List, [], ◌∷◌, ◌++◌, sum, Option, Some, None, codes}
use Rattle.std.specs.List.{AllByRecursion}
use Rattle.std.specs.Fmt.{decimal}
use Rattle.std.proofs.Common.{refl, sym, ◌∙◌, ap, arith}
use Rattle.std.proofs.lemmas.Bool.{eqb-false}
use Rattle.std.proofs.lemmas.Fmt.{decimal_injective}
use Rattle.std.proofs.lemmas.List.Elements.{All-cons, All-nil}
use Rattle.bg_board.specs.Die.{pips}
use Rattle.bg_board.specs.declared.dice.Die.{Die}
use Rattle.bg_board.specs.declared.dice.Die.TheVariants.{One, Two, Three, Four, Five, Six}
use Rattle.bg_board.specs.declared.players.Player.{Player}
use Rattle.bg_board.specs.declared.players.Player.TheVariants.{X, O}
use Rattle.bg_turns.specs.declared.throws.Dice.{Dice}
use Rattle.bg_match.specs.Entry.{IsEntry}
use Rattle.bg_match.specs.declared.entries.Entry.{Entry}
use Rattle.bg_match.specs.declared.entries.Entry.TheVariants as entry
use Rattle.bg_match.specs.declared.levels.Level.{Level}
use Rattle.bg_match.specs.declared.levels.Level.TheVariants.{Normal, Gammon, Backgammon}
use Rattle.bg_text.specs.Entries.Words.{words_of, spaced}
use Rattle.bg_text.specs.Entries.EntryText.{letter, level_word, dice_words, seat_words, entry_words, entry_text, EntryTextsDiffer}
use Rattle.bg_text.specs.Entries.EntryShape.{HasDownwardSteps}
use Rattle.bg_text.proofs.Spelling.Splits.{IsWord, words_spaced, same_first, same_second, same_rest}
use Rattle.bg_text.proofs.Spelling.PairTexts.{numeral_decimal, numeral_lacks}
use Rattle.bg_text.proofs.Spelling.ActionTexts.{step_words, same_steps, same_level, first_sum}

abbrev pub is_spaceless : List ℕ → Bool
is_spaceless [] = true
is_spaceless (b ∷ word) = if b == 32 then false else is_spaceless word

-- a word is told by a test
pub word_by_test : (word : List ℕ) → is_spaceless word ≡ true → IsWord word
word_by_test [] h = All-nil (λ b. b ≢ 32)
word_by_test (b ∷ word) h =
    let parts : ((b == 32) ≡ false) × (is_spaceless word ≡ true) = both (b == 32) (is_spaceless word) h in
    All-cons (λ b. b ≢ 32) b word (eqb-false b 32 parts.0) (word_by_test word parts.1)
  where
    both : (p q : Bool) → (if p then false else q) ≡ true → (p ≡ false) × (q ≡ true)
    both true q h = absurd cc
    both false q h = (refl, h)

pub pips_small : (die : Die) → pips die < 100
pips_small One = omega arith
pips_small Two = omega arith
pips_small Three = omega arith
pips_small Four = omega arith
pips_small Five = omega arith
pips_small Six = omega arith

pub die_word : (die : Die) → IsWord (decimal (pips die))
die_word die = numeral_lacks 32 (decimal (pips die)) (omega arith) (numeral_decimal (pips die) (pips_small die))

pub level_is_word : (level : Level) → IsWord (level_word level)
level_is_word Normal = word_by_test (codes "normal") refl
level_is_word Gammon = word_by_test (codes "gammon") refl
level_is_word Backgammon = word_by_test (codes "backgammon") refl

pub entry_each_word : (e : Entry) → HasDownwardSteps e → AllByRecursion IsWord (entry_words e)
entry_each_word (entry.Opening x o) h = (word_by_test (codes "open") refl, (die_word x, (die_word o, tt)))
entry_each_word (entry.Rolled dice) h = (word_by_test (codes "roll") refl, (die_word dice.first, (die_word dice.second, tt)))
entry_each_word entry.Doubled h = (word_by_test (codes "double") refl, tt)
entry_each_word entry.Taken h = (word_by_test (codes "take") refl, tt)
entry_each_word entry.Dropped h = (word_by_test (codes "drop") refl, tt)
entry_each_word (entry.Moved steps) h = (word_by_test (codes "move") refl, step_words steps h)
entry_each_word (entry.Resigned level) h = (word_by_test (codes "resign") refl, (level_is_word level, tt))
entry_each_word entry.Accepted h = (word_by_test (codes "accept") refl, tt)
entry_each_word entry.Rejected h = (word_by_test (codes "reject") refl, tt)
entry_each_word entry.Passed h = (word_by_test (codes "pass") refl, tt)

pub letter_word : (player : Player) → IsWord (letter player)
letter_word X = word_by_test (codes "X") refl
letter_word O = word_by_test (codes "O") refl

pub words_of_entry : (e : Entry) → HasDownwardSteps e → words_of (spaced (entry_words e)) ≡ entry_words e
words_of_entry e h = whole e (entry_each_word e h)
  where
    whole : (e : Entry) → AllByRecursion IsWord (entry_words e) → words_of (spaced (entry_words e)) ≡ entry_words e
    whole (entry.Opening x o) h = words_spaced _ _ h.0 h.1
    whole (entry.Rolled dice) h = words_spaced _ _ h.0 h.1
    whole entry.Doubled h = refl
    whole entry.Taken h = refl
    whole entry.Dropped h = refl
    whole (entry.Moved steps) h = words_spaced _ _ h.0 h.1
    whole (entry.Resigned level) h = words_spaced _ _ h.0 h.1
    whole entry.Accepted h = refl
    whole entry.Rejected h = refl
    whole entry.Passed h = refl

-- the words of an entry's line are its words
pub words_of_line : (seat : Option Player) (e : Entry) → HasDownwardSteps e → words_of (entry_text seat e) ≡ seat_words seat ++ entry_words e
words_of_line None e h = words_of_entry e h
words_of_line (Some player) e h = words_spaced (letter player) (entry_words e) (letter_word player) (entry_each_word e h)

pub same_player : (p q : Player) → letter p ≡ letter q → p ≡ q
same_player X X e = refl
same_player X O e = absurd (omega (arith, ap sum e))
same_player O O e = refl
same_player O X e = absurd (omega (arith, ap sum e))

pub same_pips : (a b : Die) → pips a ≡ pips b → a ≡ b
same_pips One One e = refl
same_pips One _ e = absurd (omega arith)
same_pips Two Two e = refl
same_pips Two _ e = absurd (omega arith)
same_pips Three Three e = refl
same_pips Three _ e = absurd (omega arith)
same_pips Four Four e = refl
same_pips Four _ e = absurd (omega arith)
same_pips Five Five e = refl
same_pips Five _ e = absurd (omega arith)
same_pips Six Six e = refl
same_pips Six _ e = absurd (omega arith)

pub same_die : (a b : Die) → decimal (pips a) ≡ decimal (pips b) → a ≡ b
same_die a b e =
    let small : pips a < 100 = pips_small a in
    let other : pips b < 100 = pips_small b in
    same_pips a b (decimal_injective (pips a) (pips b) (omega arith) (omega arith) e)

pub same_dice : (a b c d : Die) → dice_words a b ≡ dice_words c d → (a ≡ c) × (b ≡ d)
same_dice a b c d e = (same_die a c (same_first _ _ _ _ e), same_die b d (same_second _ _ _ _ e))

pub same_entry_words : (a b : Entry) → HasDownwardSteps a → HasDownwardSteps b → entry_words a ≡ entry_words b → a ≡ b
same_entry_words (entry.Opening x o) (entry.Opening y u) h k e =
    let same = same_dice x o y u (same_rest _ _ _ _ e) in
    ap (λ die. entry.Opening die o) same.0 ∙ ap (entry.Opening y) same.1
same_entry_words (entry.Opening x o) _ h k e = absurd (omega (arith, ap first_sum e))
same_entry_words (entry.Rolled dice) (entry.Rolled other) h k e =
    let same = same_dice dice.first dice.second other.first other.second (same_rest _ _ _ _ e) in
    let thrown : Die → Die → Dice = λ first second. record { first = first; second = second } in
    ap entry.Rolled (ap (λ die. thrown die dice.second) same.0 ∙ ap (thrown other.first) same.1)
same_entry_words (entry.Rolled dice) _ h k e = absurd (omega (arith, ap first_sum e))
same_entry_words entry.Doubled entry.Doubled h k e = refl
same_entry_words entry.Doubled _ h k e = absurd (omega (arith, ap first_sum e))
same_entry_words entry.Taken entry.Taken h k e = refl
same_entry_words entry.Taken _ h k e = absurd (omega (arith, ap first_sum e))
same_entry_words entry.Dropped entry.Dropped h k e = refl
same_entry_words entry.Dropped _ h k e = absurd (omega (arith, ap first_sum e))
same_entry_words (entry.Moved a) (entry.Moved b) h k e = ap entry.Moved (same_steps a b h k (same_rest _ _ _ _ e))
same_entry_words (entry.Moved a) _ h k e = absurd (omega (arith, ap first_sum e))
same_entry_words (entry.Resigned a) (entry.Resigned b) h k e = ap entry.Resigned (same_level a b (same_second _ _ _ _ e))
same_entry_words (entry.Resigned a) _ h k e = absurd (omega (arith, ap first_sum e))
same_entry_words entry.Accepted entry.Accepted h k e = refl
same_entry_words entry.Accepted _ h k e = absurd (omega (arith, ap first_sum e))
same_entry_words entry.Rejected entry.Rejected h k e = refl
same_entry_words entry.Rejected _ h k e = absurd (omega (arith, ap first_sum e))
same_entry_words entry.Passed entry.Passed h k e = refl
same_entry_words entry.Passed _ h k e = absurd (omega (arith, ap first_sum e))

pub downward_entry : (e : Entry) → IsEntry e → HasDownwardSteps e
downward_entry (entry.Moved steps) h = h.each
downward_entry (entry.Opening x o) h = tt
downward_entry (entry.Rolled dice) h = tt
downward_entry entry.Doubled h = tt
downward_entry entry.Taken h = tt
downward_entry entry.Dropped h = tt
downward_entry (entry.Resigned level) h = tt
downward_entry entry.Accepted h = tt
downward_entry entry.Rejected h = tt
downward_entry entry.Passed h = tt

-- an entry's first word is longer than a letter
first_sum_entry : (e : Entry) → 300 ≤ first_sum (entry_words e)
first_sum_entry (entry.Opening x o) = omega arith
first_sum_entry (entry.Rolled dice) = omega arith
first_sum_entry entry.Doubled = omega arith
first_sum_entry entry.Taken = omega arith
first_sum_entry entry.Dropped = omega arith
first_sum_entry (entry.Moved steps) = omega arith
first_sum_entry (entry.Resigned level) = omega arith
first_sum_entry entry.Accepted = omega arith
first_sum_entry entry.Rejected = omega arith
first_sum_entry entry.Passed = omega arith

-- no entry begins with a player's letter
pub no_letter : (player : Player) (words : List (List ℕ)) (e : Entry) → letter player ∷ words ≡ entry_words e → ⊥
no_letter X words e same = omega (arith, ap first_sum same, first_sum_entry e)
no_letter O words e same = omega (arith, ap first_sum same, first_sum_entry e)

-- one line is the text of one entry, and of one seat
pub same_line : (seat other : Option Player) (a b : Entry) → HasDownwardSteps a → HasDownwardSteps b → entry_text seat a ≡ entry_text other b → (seat ≡ other) × (a ≡ b)
same_line seat other a b h k e =
    from seat other (sym (words_of_line seat a h) ∙ (ap words_of e ∙ words_of_line other b k))
  where
    from : (seat other : Option Player) → seat_words seat ++ entry_words a ≡ seat_words other ++ entry_words b → (seat ≡ other) × (a ≡ b)
    from None None w = (refl, same_entry_words a b h k w)
    from None (Some q) w = absurd (no_letter q (entry_words b) a (sym w))
    from (Some p) None w = absurd (no_letter p (entry_words a) b w)
    from (Some p) (Some q) w =
        let first : letter p ≡ letter q = cc w in
        (ap Some (same_player p q first), same_entry_words a b h k (same_rest _ _ _ _ w))

pub one_entry : EntryTextsDiffer
one_entry seat other a b h k e = same_line seat other a b (downward_entry a h) (downward_entry b k) e
