-- What holds of an entry that is due.
use Rattle.std.proofs.Common.{◌≡◌, ◌⊎◌, inl, inr, ℕ, List, [], ◌∷◌, sym, ◌∙◌, ap, subst}
use Rattle.bg_match.specs.Terms.{Terms}
use Rattle.bg_match.specs.Entry.{IsByReferee}
use Rattle.bg_match.specs.State.{State, start_of}
use Rattle.bg_match.specs.declared.entries.Entry.{Entry}
use Rattle.bg_match.specs.declared.entries.Entry.TheVariants.{Passed}
use Rattle.bg_match.specs.declared.phases.Actor.TheVariants.{Referee}
use Rattle.bg_match.specs.declared.phases.Phase.TheVariants as phase
use Rattle.bg_match.specs.Match.{ActsAfter, IsNext}
use Rattle.bg_match.proofs.Legal.{Leads-front, acts_itself, one_standing}
use Rattle.bg_referee.specs.Dues.{IsDue, IsOpeningOf, OpensAfter}

own : (word : ℕ) (e : Entry) → IsOpeningOf word e ⊎ (e ≡ Passed) → IsByReferee e
own word e (inl opening) = subst IsByReferee (sym opening.2) tt
own word e (inr pass) = subst IsByReferee (sym pass) tt

-- where a game is to be opened, no pass follows
not_pass : (terms : Terms) (entries : List Entry) (e : Entry) → IsNext terms entries e → OpensAfter terms entries
    → e ≡ Passed → ⊥
not_pass terms entries e next opens is =
    let passed = subst (IsNext terms entries) is next in
    let at = Leads-front (start_of terms) entries (Passed ∷ []) passed.1.0 passed.1.1 in
    let same = one_standing terms entries opens.0 at.0 opens.1 at.1 in
    let moves : phase.Opening ≡ phase.ToMove at.2.1.0 at.2.1.1 = sym opens.2 ∙ ap (λ (s : State). s.phase) same ∙ at.2.1.2 in
    cc

module _ (terms : Terms) (entries : List Entry) (word : ℕ) (e : Entry) (due : IsDue terms entries word e) where
  -- it follows the entries
  pub due_next : IsNext terms entries e
  due_next = due.1

  -- it is the referee's own
  due_own : IsByReferee e
  due_own = own word e due.0

  -- where it is due, the referee acts
  pub due_acts : ActsAfter terms entries Referee
  due_acts = acts_itself terms entries e due_next due_own

  -- where a game is to be opened, it is an opening with the dice of the word
  pub due_opening : OpensAfter terms entries → IsOpeningOf word e
  due_opening opens = elim due.0 [
    | inl opening ↦ opening
    | inr pass ↦ absurd (not_pass terms entries e due_next opens pass)
  ]
