-- The laws of legal records and of the entries that answer actions.
use Rattle.std.proofs.Common.{inl, inr, ◌⊎◌, ◌≡◌, ◌↔◌, ◌≤◌, Option, Some, None, List, [], ◌∷◌, ◌++◌, length, length-append, refl, sym, ◌∙◌, ap, subst, arith}
use Rattle.std.specs.List.{AllByRecursion}
use Rattle.std.specs.Prelude.{IsSome}
use Rattle.bg_match.specs.Terms.{Terms}
use Rattle.bg_board.specs.declared.players.Player.{Player}
use Rattle.bg_turns.specs.declared.throws.Dice.{Dice}
use Rattle.bg_match.specs.declared.actions.Action.TheVariants as action
use Rattle.bg_match.specs.declared.phases.Phase.TheVariants as phase
use Rattle.bg_match.specs.declared.entries.Entry.{Entry}
use Rattle.bg_match.specs.declared.entries.Entry.TheVariants as entry
use Rattle.bg_match.specs.Actor.{actor_in, actor_of, seat_of}
use Rattle.bg_match.specs.Entry.{IsEntry, IsByReferee}
use Rattle.bg_match.specs.State.{State, start_of}
use Rattle.bg_match.specs.Follows.{Follows, CanFollow}
use Rattle.bg_match.specs.declared.phases.Actor.{Actor}
use Rattle.bg_match.specs.declared.phases.Actor.TheVariants.{Referee}
use Rattle.bg_match.specs.Match.{Leads, ActsAfter, IsNext}
use Rattle.bg_match.specs.Laws.{HasLegalFronts, HasOneStanding, HasEntriesInRange, ActsItself, MadeWithoutSeat, RollsAnyDice}
use Rattle.bg_match.proofs.Passing.{not_passed, by_phase, by_pass, seat_acts}
use Rattle.bg_match.proofs.PlayableTurns.{legal_in_range}
use Rattle.bg_match.proofs.Runs.{Follows-same, Leads-push}

-- a front part leads somewhere, and the rest on from there
pub Leads-front : (s : State) (front rest : List Entry) (t : State) → Leads s (front ++ rest) t → (m : State) × Leads s front m × Leads m rest t
Leads-front s [] rest t h = (s, refl, h)
Leads-front s (e ∷ front) rest t h = let r = Leads-front h.0 front rest t h.2 in (r.0, (h.0, h.1, r.1), r.2)

pub Leads-append : (s : State) (front rest : List Entry) (m t : State) → Leads s front m → Leads m rest t → Leads s (front ++ rest) t
Leads-append s [] rest m t h k = subst (λ (u : State). Leads u rest t) h k
Leads-append s (e ∷ front) rest m t h k = (h.0, h.1, Leads-append h.0 front rest m t h.2 k)

pub legal_fronts : HasLegalFronts
legal_fronts terms front rest h =
    let few : length front ≤ length (front ++ rest) = omega (arith, length-append front rest) in
    let at = Leads-front (start_of terms) front rest h.1.0 h.1.1 in
    (omega (arith, h.0), (at.0, at.1))

Leads-same : (s : State) (entries : List Entry) (t u : State) → Leads s entries t → Leads s entries u → t ≡ u
Leads-same s [] t u h k = h ∙ sym k
Leads-same s (e ∷ rest) t u h k =
    let same = Follows-same s e k.0 h.0 k.1 h.1 in
    Leads-same h.0 rest t u h.2 (subst (λ (x : State). Leads x rest u) same k.2)

pub one_standing : HasOneStanding
one_standing terms entries s t h k = Leads-same (start_of terms) entries s t h k

-- one actor acts
pub one_actor : (terms : Terms) (entries : List Entry) (a b : Actor)
    → ActsAfter terms entries a → ActsAfter terms entries b → a ≡ b
one_actor terms entries a b h k =
    h.2 ∙ ap actor_of (one_standing terms entries h.0 k.0 h.1 k.1) ∙ sym k.2

pub Follows_in_range : (s : State) (e : Entry) (t : State) → Follows s e t → IsEntry e
Follows_in_range s (entry.Opening x o) t h = tt
Follows_in_range s (entry.Rolled dice) t h = tt
Follows_in_range s entry.Doubled t h = tt
Follows_in_range s entry.Taken t h = tt
Follows_in_range s entry.Dropped t h = tt
Follows_in_range s (entry.Moved turn) t h = legal_in_range s.board h.0 h.1 turn h.4
Follows_in_range s (entry.Resigned level) t h = tt
Follows_in_range s entry.Accepted t h = tt
Follows_in_range s entry.Rejected t h = tt
Follows_in_range s entry.Passed t h = tt

Leads_in_range : (s : State) (entries : List Entry) (t : State) → Leads s entries t → AllByRecursion IsEntry entries
Leads_in_range s [] t h = tt
Leads_in_range s (e ∷ rest) t h = (Follows_in_range s e h.0 h.1, Leads_in_range h.0 rest t h.2)

pub entries_in_range : HasEntriesInRange
entries_in_range terms entries h = Leads_in_range (start_of terms) entries h.1.0 h.1.1

referee_acts : (s : State) (e : Entry) (t : State) → Follows s e t → IsByReferee e → actor_of s ≡ Referee
referee_acts s (entry.Opening x o) t h own = by_phase s (not_passed s phase.Opening h.0 (λ p dice is. cc)) ∙ ap actor_in h.0
referee_acts s entry.Passed t h own = by_pass s h.3
referee_acts s (entry.Rolled dice) t h own = absurd own
referee_acts s entry.Doubled t h own = absurd own
referee_acts s entry.Taken t h own = absurd own
referee_acts s entry.Dropped t h own = absurd own
referee_acts s (entry.Moved turn) t h own = absurd own
referee_acts s (entry.Resigned level) t h own = absurd own
referee_acts s entry.Accepted t h own = absurd own
referee_acts s entry.Rejected t h own = absurd own

pub acts_itself : ActsItself
acts_itself terms entries e h own =
    let at = Leads-front (start_of terms) entries (e ∷ []) h.1.0 h.1.1 in
    (at.0, at.1, sym (referee_acts at.0 e at.2.0 at.2.1 own))

-- another entry in place of the last one
last_instead : (terms : Terms) (entries : List Entry) (e f : Entry) → ((m : State) → CanFollow m e → CanFollow m f)
    → IsNext terms entries e → IsNext terms entries f
last_instead terms entries e f instead h =
    let at = Leads-front (start_of terms) entries (e ∷ []) h.1.0 h.1.1 in
    let next = instead at.0 (at.2.0, at.2.1) in (
      omega (arith, h.0, length-append entries (e ∷ []), length-append entries (f ∷ [])),
      (next.0, Leads-push (start_of terms) entries f at.0 next.0 at.1 next.1),
    )

rolls_alike : (m : State) (dice other : Dice) → CanFollow m (entry.Rolled dice) → CanFollow m (entry.Rolled other)
rolls_alike m dice other h = (record m { phase = phase.ToMove h.1.0 other }, (h.1.0, h.1.1, refl))

same_legal : (terms : Terms) (entries : List Entry) (e f : Entry) → e ≡ f
    → IsNext terms entries e → IsNext terms entries f
same_legal terms entries e f same h = subst (λ (x : Entry). IsNext terms entries x) same h

pub rolls_any_dice : RollsAnyDice
rolls_any_dice terms entries action.Roll dice other e f h k legal =
    let rolled = same_legal terms entries e (entry.Rolled h.0) h.2 legal in
    let again = last_instead terms entries (entry.Rolled h.0) (entry.Rolled k.0) (λ m. rolls_alike m h.0 k.0) rolled in
    same_legal terms entries (entry.Rolled k.0) f (sym k.2) again
rolls_any_dice terms entries action.Double dice other e f h k legal = same_legal terms entries e f (h ∙ sym k) legal
rolls_any_dice terms entries action.Take dice other e f h k legal = same_legal terms entries e f (h ∙ sym k) legal
rolls_any_dice terms entries action.Drop dice other e f h k legal = same_legal terms entries e f (h ∙ sym k) legal
rolls_any_dice terms entries (action.Move turn) dice other e f h k legal = same_legal terms entries e f (h ∙ sym k) legal
rolls_any_dice terms entries (action.Resign level) dice other e f h k legal = same_legal terms entries e f (h ∙ sym k) legal
rolls_any_dice terms entries action.Accept dice other e f h k legal = same_legal terms entries e f (h ∙ sym k) legal
rolls_any_dice terms entries action.Reject dice other e f h k legal = same_legal terms entries e f (h ∙ sym k) legal

by_referee_or_not : (e : Entry) → IsByReferee e ⊎ (IsByReferee e → ⊥)
by_referee_or_not (entry.Opening x o) = inl tt
by_referee_or_not entry.Passed = inl tt
by_referee_or_not (entry.Rolled dice) = inr (λ own. own)
by_referee_or_not entry.Doubled = inr (λ own. own)
by_referee_or_not entry.Taken = inr (λ own. own)
by_referee_or_not entry.Dropped = inr (λ own. own)
by_referee_or_not (entry.Moved turn) = inr (λ own. own)
by_referee_or_not (entry.Resigned level) = inr (λ own. own)
by_referee_or_not entry.Accepted = inr (λ own. own)
by_referee_or_not entry.Rejected = inr (λ own. own)

some_not_none : (seat : Option Player) → IsSome seat → seat ≡ None → ⊥
some_not_none None h e = absurd cc
some_not_none (Some p) h e = absurd cc

-- the seat that acts before an entry, if a seat does
acts_before : (s : State) (e : Entry) (t : State) → Follows s e t → (seat_of (actor_of s) ≡ None) ↔ IsByReferee e
acts_before s e t h = elim (by_referee_or_not e) [
  | inl own ↦ (λ _. own, λ _. ap seat_of (referee_acts s e t h own))
  | inr other ↦
      let seated = seat_acts s e t h other in
      let same = ap seat_of (by_phase s seated.0) in
      (λ none. absurd (some_not_none (seat_of (actor_in s.phase)) seated.1 (sym same ∙ none)), λ own. absurd (other own))
]

pub made_without_seat : MadeWithoutSeat
made_without_seat terms front rest e seat legal after =
    let at = Leads-front (start_of terms) front (e ∷ rest) legal.1.0 legal.1.1 in
    let same = one_standing terms front at.0 after.0 at.1 after.1 in
    let acts = acts_before at.0 e at.2.0 at.2.1 in
    rw (after.2, ← same) acts
