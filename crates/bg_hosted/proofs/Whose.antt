-- Whose entry it is, and who has won.
use Rattle.std.proofs.Common.{◌≡◌, ◌⊎◌, ℕ, zero, suc, ◌-◌, ◌<◌, ◌≤◌, List, length, take, Option, Some, None, Result, refl, sym, ◌∙◌, ap, subst, inl, inr, arith}
use Rattle.std.specs.Prelude.{◌↔◌}
use Rattle.std.proofs.lemmas.Bool.{cases_lt}
use Rattle.bg_board.specs.declared.players.Player.{Player}
use Rattle.bg_match.proofs.Legal.{one_standing}
use Rattle.bg_match.specs.Actor.{actor_of, seat_of}
use Rattle.bg_match.specs.Match.{Log, SeatAfter, StandsAt}
use Rattle.bg_match.specs.declared.phases.Phase.TheVariants.{Over}
use Rattle.bg_match.specs.State.{State}
use Rattle.bg_match.specs.Terms.{Terms}
use Rattle.bg_match.specs.declared.entries.Entry.{Entry}
use Rattle.bg_hosted.specs.Acting.{IsBy, IsSaidOf}
use Rattle.bg_hosted.specs.HostedMatches.{IsWon}
use Rattle.bg_hosted.specs.declared.acting.Acted.TheVariants.{Failed}
use Rattle.bg_party.specs.declared.outcomes.ChooseFault.{ChooseFault}
use Rattle.bg_protocol.specs.Worlds.Views.{WorldView}
use Rattle.bg_protocol.specs.declared.events.Outcome.{Outcome}
use Rattle.bg_protocol.specs.declared.events.Outcome.TheVariants.{Chose}

one_seat : (terms : Terms) (entries : List Entry) (one two : Option Player) → SeatAfter terms entries one
    → SeatAfter terms entries two → one ≡ two
one_seat terms entries one two a b =
    let same : a.0 ≡ b.0 = one_standing terms entries a.0 b.0 a.1 b.1 in
    a.2 ∙ ap (λ (s : State). seat_of (actor_of s)) same ∙ sym b.2

-- the seat that a record names for a number is a player's where the entry of that number is his
pub whose : (log : Log) (number : ℕ) (seat : Option Player) (player : Player)
    → (1 ≤ number → number ≤ length log.entries → SeatAfter log.terms (take (number - 1) log.entries) seat)
    → ((number ≡ 0) ⊎ (length log.entries < number) → seat ≡ None)
    → (seat ≡ Some player) ↔ IsBy log number player
whose log zero seat player there none =
    (λ h. let gone = none (inl refl) in absurd (cc), λ by. absurd (omega (arith, by.first)))
whose log (suc i) seat player there none = (
  λ h. elim (cases_lt (length log.entries) (suc i)) [
    | inl beyond ↦ let gone = none (inr beyond) in absurd (cc)
    | inr within ↦ record {
      first = omega arith;
      last = within;
      by = subst (SeatAfter log.terms (take (suc i - 1) log.entries)) h (there (omega arith) within);
    }
  ],
  λ by. one_seat log.terms (take (suc i - 1) log.entries) seat (Some player) (there by.first by.last) by.by,
)

-- nobody has won where the match stands in another phase
pub none_won : (log : Log) (s : State) → StandsAt log.terms log.entries s
    → ((player : Player) → s.phase ≡ Over player → ⊥) → IsWon log → ⊥
none_won log s stands none won =
    let same : won.0 ≡ s = one_standing log.terms log.entries won.0 s won.2 stands in
    none won.1 (sym (ap (λ (t : State). t.phase) same) ∙ won.3)

-- where the seat made nothing of a choice, it failed
pub said_failed : (o : Outcome) (number : ℕ) (new : WorldView)
    → ((chosen : Result ℕ ChooseFault) → o ≡ Chose chosen → ⊥) → IsSaidOf o number new Failed
said_failed (Chose chosen) number new none = absurd (none chosen refl)
said_failed _ number new none = refl
