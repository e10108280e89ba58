-- One text tells a state.
use Rattle.std.proofs.Common.{◌≡◌, ℕ, zero, suc, ◌+◌, ◌-◌, Bool, true, false, List, ◌++◌, length, min, take, Option, Some, None, refl, sym, ◌∙◌, ap, subst}
use Rattle.std.specs.Prelude.{◌↔◌, IsTrue, codes}
use Rattle.bg_board.specs.declared.players.Player.{Player}
use Rattle.bg_match.proofs.Legal.{one_standing}
use Rattle.bg_match.specs.Actor.{actor_of, seat_of}
use Rattle.bg_match.specs.Match.{Log, SeatAfter}
use Rattle.bg_match.specs.State.{State}
use Rattle.bg_match.specs.Terms.{Terms}
use Rattle.bg_match.specs.declared.entries.Entry.{Entry}
use Rattle.bg_table.specs.Offering.{AreOffered}
use Rattle.bg_table.specs.declared.offers.Offers.{Offers}
use Rattle.bg_text.specs.Entries.EntryText.{entry_text}
use Rattle.bg_states.specs.Headings.{match_text, owner_letter}
use Rattle.bg_states.specs.LastLines.{AreLines, IsLineOf, most_last}
use Rattle.bg_states.specs.Laws.{IsOneText}
use Rattle.bg_states.specs.Lists.{comma_text}
use Rattle.bg_states.specs.May.{may_text, offer_words, words_text}
use Rattle.bg_states.specs.StateTexts.{TellsLast, TellsSeat, standing_text}

-- ---- the last lines

one_seat : (terms : Terms) (entries : List Entry) (one two : Option Player) → SeatAfter terms entries one
    → SeatAfter terms entries two → one ≡ two
one_seat terms entries one two a b =
    let same : a.0 ≡ b.0 = one_standing terms entries a.0 b.0 a.1 b.1 in
    a.2 ∙ ap (λ (s : State). seat_of (actor_of s)) same ∙ sym b.2

one_line : (log : Log) (number : ℕ) (one two : List ℕ) → IsLineOf log number one → IsLineOf log number two → one ≡ two
one_line log number one two a b =
    let entries : a.entry ≡ b.entry = cc in
    let seats : a.seat ≡ b.seat = one_seat log.terms (take (number - 1) log.entries) a.seat b.seat a.by b.by in
    a.is_line ∙ ap (λ (s : Option Player). entry_text s a.entry) seats ∙ ap (λ (e : Entry). entry_text b.seat e) entries
    ∙ sym b.is_line

one_list : (log : Log) (number count : ℕ) (first : Bool) (one two : List ℕ) → AreLines log number count first one
    → AreLines log number count first two → one ≡ two
one_list log number zero first one two a b = a ∙ sym b
one_list log number (suc count) first one two a b =
    let lines : a.0 ≡ b.0 = one_line log number a.0 b.0 a.2 b.2 in
    let rests : a.1 ≡ b.1 = one_list log (number + 1) count false a.1 b.1 a.3 b.3 in
    a.4 ∙ ap (λ (l : List ℕ). comma_text first ++ codes "\"" ++ l ++ codes "\"" ++ a.1) lines
    ∙ ap (λ (r : List ℕ). comma_text first ++ codes "\"" ++ b.0 ++ codes "\"" ++ r) rests ∙ sym b.4

one_last : (log : Log) (one two : List ℕ) → TellsLast log one → TellsLast log two → one ≡ two
one_last log one two a b =
    let told = min (length log.entries) most_last in
    let lines : a.0 ≡ b.0 = one_list log (length log.entries - told + 1) told true a.0 b.0 a.1 b.1 in
    a.2 ∙ ap (λ (l : List ℕ). codes ",\"last\":[" ++ l ++ codes "]") lines ∙ sym b.2

-- ---- what a player may do

same_test : (P : Type 0) (a b : Bool) → (IsTrue a ↔ P) → (IsTrue b ↔ P) → a ≡ b
same_test P true true h k = refl
same_test P false false h k = refl
same_test P true false h k = sym (k.1 (h.0 refl))
same_test P false true h k = h.1 (k.0 refl)

one_may : (s : State) (player : Player) (one two : Offers) → AreOffered s player one → AreOffered s player two
    → may_text one ≡ may_text two
unfolding may_text
one_may s player one two a b =
    let roll : one.roll ≡ two.roll = same_test _ one.roll two.roll a.roll b.roll in
    let double : one.double ≡ two.double = same_test _ one.double two.double a.double b.double in
    let takes : one.take ≡ two.take = same_test _ one.take two.take a.take b.take in
    let drops : one.drop ≡ two.drop = same_test _ one.drop two.drop a.drop b.drop in
    let accepts : one.accept ≡ two.accept = same_test _ one.accept two.accept a.accept b.accept in
    let rejects : one.reject ≡ two.reject = same_test _ one.reject two.reject a.reject b.reject in
    let turns : one.turn ≡ two.turn = same_test _ one.turn two.turn a.turn b.turn in
    let resigns : one.resign ≡ two.resign = same_test _ one.resign two.resign a.resign b.resign in
    let words : offer_words one ≡ offer_words two = cc in
    ap (λ (w : List (Bool × List ℕ)). codes ",\"may\":[" ++ words_text true w ++ codes "]") words

one_told : (s : State) (seat : Option Player) (one two : List ℕ) → TellsSeat s seat one → TellsSeat s seat two → one ≡ two
one_told s None one two a b = a ∙ sym b
one_told s (Some player) one two a b = a.2 ∙ one_may s player a.0 b.0 a.1 b.1 ∙ sym b.2

pub one_text : IsOneText
one_text log seat one two a b =
    let states : b.state ≡ a.state = one_standing log.terms log.entries b.state a.state b.stands a.stands in
    let may : a.may ≡ b.may = one_told a.state seat a.may b.may a.is_may
    (subst (λ (s : State). TellsSeat s seat b.may) states b.is_may) in
    let last : a.last ≡ b.last = one_last log a.last b.last a.is_last b.is_last in
    let whole = λ (s : State) (l m : List ℕ). match_text log ++ standing_text s ++ l ++ codes ",\"you\":\""
    ++ owner_letter seat ++ codes "\"" ++ m ++ codes "}" in
    a.is_text ∙ ap (λ (s : State). whole s a.last a.may) (sym states) ∙ ap (λ (l : List ℕ). whole b.state l a.may) last
    ∙ ap (λ (m : List ℕ). whole b.state b.last m) may ∙ sym b.is_text
