-- The last entry of a player.
use Rattle.std.proofs.Common.{◌≡◌, ℕ, ◌+◌, ◌-◌, ◌<◌, ◌≤◌, ◌↔◌, Bool, false, Option, Some, length, take, subst, sym, ◌∙◌, ap, arith, inl, inr}
use Rattle.std.proofs.lemmas.Bool.{cases_eq}
use Rattle.std.specs.Prelude.{IsTrue}
use Rattle.bg_board.specs.declared.players.Player.{Player}
use Rattle.bg_match.specs.Actor.{actor_of, seat_of}
use Rattle.bg_match.specs.Match.{Log, SeatAfter}
use Rattle.bg_match.proofs.Legal.{one_standing}
use Rattle.bg_table.specs.LastEntries.{IsMadeBy, HasMadeNone}

-- no entry above this number is the player's
abbrev pub IsNoneAbove : Log → Player → ℕ → Type 0
IsNoneAbove log player number = (later : ℕ) → number < later → IsMadeBy log later player → ⊥

-- one seat made an entry
pub made_by : (log : Log) (player : Player) (number : ℕ) (seat : Option Player) (b : Bool)
    → 1 ≤ number → number ≤ length log.entries → SeatAfter log.terms (take (number - 1) log.entries) seat
    → IsTrue b ↔ (seat ≡ Some player) → IsTrue b ↔ IsMadeBy log number player
made_by log player number seat b first last h is = (
  λ yes. (first, last, (h.0, h.1, sym (is.0 yes) ∙ h.2)),
  λ made. is.1 (
      let same = one_standing log.terms (take (number - 1) log.entries) h.0 made.2.0 h.1 made.2.1 in
      h.2 ∙ ap (λ s. seat_of (actor_of s)) same ∙ sym made.2.2),
)

-- one entry more, from the end, is not the player's
pub none_above : (log : Log) (player : Player) (count behind : ℕ) (b : Bool) → behind < count → IsNoneAbove log player (count - behind)
    → IsTrue b ↔ IsMadeBy log (count - behind) player → b ≡ false → IsNoneAbove log player (count - (behind + 1))
none_above log player count behind b within none is none_here later above made = elim (cases_eq later (count - behind)) [
  | inl here ↦ (
      let yes : IsTrue b = is.1 (subst (λ (n : ℕ). IsMadeBy log n player) here made) in
      let both : IsTrue false = subst (λ (t : Bool). IsTrue t) none_here yes in
      absurd cc)
  | inr not ↦ none later (omega arith) made
]

-- above the last entry there is none
pub none_behind : (log : Log) (player : Player) (count : ℕ) → count ≡ length log.entries → IsNoneAbove log player (count - 0)
none_behind log player count all later above made = omega (arith, made.1)

-- above 0 there is none
pub made_none : (log : Log) (player : Player) (count behind : ℕ) → count ≤ behind → IsNoneAbove log player (count - behind)
    → HasMadeNone log player
made_none log player count behind end none number made = none number (omega (arith, made.0)) made
