-- A refusal, want of memory aside, comes only where neither an opening with the word's dice nor a
-- pass follows.
use Rattle.std.proofs.Common.{◌≡◌, ◌≢◌, ℕ, Result, Ok, Err, [], ◌∷◌, length-append, sym, ◌∙◌, ap, subst, arith, refl}
use Rattle.std.specs.Prelude.{IfErr}
use Rattle.std.proofs.lemmas.Option.{same_Some}
use Rattle.bg_board.specs.Die.{pips}
use Rattle.bg_turns.specs.declared.throws.Dice.{Dice}
use Rattle.bg_match.specs.declared.entries.Entry.{Entry}
use Rattle.bg_match.specs.declared.entries.Entry.TheVariants.{Opening}
use Rattle.bg_match.specs.Match.{Log, IsNext}
use Rattle.bg_match.specs.State.{start_of}
use Rattle.bg_match.proofs.Legal.{Leads-front}
use Rattle.bg_referee.specs.declared.outcomes.DueFault.{DueFault}
use Rattle.bg_referee.specs.declared.outcomes.DueFault.TheVariants as fault
use Rattle.bg_referee.specs.Dues.{Dues, IsDue, IsDueFault}
use Rattle.bg_referee.specs.Referee.{RefereeView}
use Rattle.bg_referee.proofs.DueEntries.{due_acts, due_next, due_opening}

refuses : (why : DueFault) (log : Log) (word : ℕ) → IsDueFault why log word → why ≢ fault.Memory
    → (e : Entry) → IsDue log.terms log.entries word e → ⊥
refuses fault.NothingDue log word h aside e due = h (due_acts log.terms log.entries word e due)
refuses fault.WordRefused log word h aside e due =
    let opening = due_opening log.terms log.entries word e due h.0 in
    let none = h.1 in
    let some = opening.1 in
    absurd cc
refuses fault.EqualOpening log word h aside e due =
    let opening = due_opening log.terms log.entries word e due h.0 in
    let same : h.1.0 ≡ opening.0 = same_Some h.1.0 opening.0 (sym h.1.1 ∙ opening.1) in
    let next = subst (IsNext log.terms log.entries) opening.2 (due_next log.terms log.entries word e due) in
    let at = Leads-front (start_of log.terms) log.entries (Opening (opening.0).first (opening.0).second ∷ []) next.1.0 next.1.1 in
    at.2.1.1 (sym (ap (λ (d : Dice). pips d.first) same) ∙ h.1.2 ∙ ap (λ (d : Dice). pips d.second) same)
refuses fault.RecordFull log word h aside e due =
    let next = due_next log.terms log.entries word e due in
    let full = h.2 in
    let few = next.0 in
    omega (full, few, length-append log.entries (e ∷ []), arith)
refuses fault.Memory log word h aside e due = aside refl

pub only_where_none : (old new : RefereeView) (word : ℕ) (result : Result ℕ DueFault) → Dues old word result new
    → IfErr result (λ why. why ≢ fault.Memory → (e : Entry) → IsDue old.log.terms old.log.entries word e → ⊥)
only_where_none old new word (Ok n) h = tt
only_where_none old new word (Err why) h = refuses why old.log word h.0
