-- The standing of a match before an entry.
use Rattle.std.proofs.Common.{◌≡◌, ℕ, zero, suc, ◌+◌, ◌-◌, ◌≤◌, Bor, Option, Some, None, List, length, take, sym, ◌∙◌, ap, subst, add-one, arith, rules}
use Rattle.std.specs.Option.{IsSome, option_copied}
use Rattle.std.proofs.lemmas.Option.{slice_get-get_or}
use Rattle.bg_board.specs.FromTo.{FromTo}
use Rattle.bg_board.specs.declared.players.Player.{Player}
use Rattle.bg_match.specs.Actor.{actor_in, actor_of, seat_of}
use Rattle.bg_match.specs.Follows.{CanFollow, Follows}
use Rattle.bg_match.specs.Match.{IsLegalRecord, Log, StandsAt, at_number}
use Rattle.bg_match.specs.State.{State, start_of}
use Rattle.bg_match.specs.Terms.{Terms}
use Rattle.bg_match.specs.declared.entries.Entry.{Entry}
use Rattle.bg_match.specs.declared.entries.Entry.TheVariants as entry
use Rattle.bg_match.proofs.Legal.{one_standing}
use Rattle.bg_match.proofs.Passing.{by_phase}
use Rattle.bg_match.proofs.Runs.{Leads-push}
use Rattle.bg_turns.proofs.Parts.{steps_legal}
use Rattle.bg_turns.specs.Dice.{dice_list}
use Rattle.bg_turns.specs.InOrder.{AreLegalSteps}
use Rattle.bg_text.specs.Entries.EntryText.{IsSeatOf}
use Rattle.bg_text.proofs.Judged.ReadLines.{seat_acts}
use Rattle.bg_text.proofs.Judged.WrittenLines.{entry_at}
use Rattle.bg_table.specs.LastEntries.{IsMadeBy, StandsBefore}

-- there is an entry of each number
pub there_is : (xs : List Entry) (number : ℕ) (r : Option (Bor Entry)) → 1 ≤ number → number ≤ length xs
    → option_copied r ≡ at_number xs number → IsSome r
there_is xs zero r first last h = absurd (omega arith)
there_is xs (suc i) None first last h =
    let e = slice_get-get_or xs i entry.Doubled (omega arith) in
    absurd (cc (h, e))
there_is xs (suc i) (Some x) first last h = search rules

-- the entry of a number follows what stands before it
pub follows : (terms : Terms) (entries : List Entry) (i : ℕ) (s : State) (e : Entry) → IsLegalRecord terms entries
    → at_number entries (i + 1) ≡ Some e → StandsAt terms (take i entries) s → CanFollow s e
follows terms entries i s e legal at stands =
    let here = entry_at (start_of terms) entries legal.1.0 i e legal.1.1 (rw add-one at at) in
    let same = one_standing terms (take i entries) here.0 s here.2 stands in
    (here.1, subst (λ (x : State). Follows x e here.1) same here.3)

-- and leads on
pub stands_on : (terms : Terms) (entries : List Entry) (i : ℕ) (s t : State) (e : Entry) → IsLegalRecord terms entries
    → at_number entries (i + 1) ≡ Some e → StandsAt terms (take i entries) s → Follows s e t → StandsAt terms (take (i + 1) entries) t
stands_on terms entries i s t e legal at stands next =
    let here = entry_at (start_of terms) entries legal.1.0 i e legal.1.1 (rw add-one at at) in
    rw (add-one i, here.4) (Leads-push (start_of terms) (take i entries) e s t stands next)

-- the same by its number
pub follows_before : (log : Log) (number : ℕ) (s : State) (e : Entry) → IsLegalRecord log.terms log.entries → 1 ≤ number
    → at_number log.entries number ≡ Some e → StandsBefore log number s → CanFollow s e
follows_before log zero s e legal first at stands = absurd (omega arith)
follows_before log (suc i) s e legal first at stands =
    let back : suc i - 1 ≡ i = omega arith in
    follows log.terms log.entries i s e legal (rw add-one at) (subst (λ (n : ℕ). StandsAt log.terms (take n log.entries) s) back stands)

-- the player who made an entry acts before it
pub acts_before : (log : Log) (number : ℕ) (player : Player) (s : State) → IsMadeBy log number player → StandsBefore log number s
    → seat_of (actor_of s) ≡ Some player
acts_before log number player s made stands =
    let same = one_standing log.terms (take (number - 1) log.entries) s made.2.0 stands made.2.1 in
    ap (λ (x : State). seat_of (actor_of x)) same ∙ sym made.2.2

-- the steps of a move are legal for the player who acts
pub moved_steps : (s : State) (player : Player) (turn : List FromTo) → seat_of (actor_of s) ≡ Some player → CanFollow s (entry.Moved turn)
    → AreLegalSteps s.board player turn
moved_steps s player turn acts may =
    let move = may.1 in
    let mover : seat_of (actor_of s) ≡ Some move.0 = ap seat_of (by_phase s move.3 ∙ ap actor_in move.2) in
    let same : move.0 ≡ player = (let both : Some move.0 ≡ Some player = sym mover ∙ acts in cc) in
    subst (λ (p : Player). AreLegalSteps s.board p turn) same (steps_legal s.board move.0 (dice_list move.1) turn move.4.playable)

-- a seat made the entry, or the referee
pub seat_before : (s : State) (player : Player) (e : Entry) → seat_of (actor_of s) ≡ Some player → CanFollow s e → IsSeatOf (Some player) e
seat_before s player e acts may = subst (λ (x : Option Player). IsSeatOf x e) acts (seat_acts s e may.0 may.1)
