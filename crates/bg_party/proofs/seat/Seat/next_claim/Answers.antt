use Rattle.std.proofs.Common.{◌≡◌, ◌+◌, ℕ, ap, refl, subst, rules, arith}
use Rattle.bg_match.specs.declared.phases.Actor.TheVariants.{Seat}
use Rattle.bg_board.specs.declared.players.Player.{Player}
use Rattle.bg_match.specs.Match.{ActsAfter}
use Rattle.bg_match.proofs.Legal.{one_actor}
use Rattle.bg_party.proofs.seat.Seat.next_claim.Goals as goal

pub returns-in_default : goal.returns-in_default
returns-in_default c =
    let acts = rw c.held-log.ensures.value at c.actor.ensures in
    rw (← c.self.view_is) (λ also. c.in_default.not-Seat _ (one_actor _ _ _ _ acts also))

pub returns-then-ne : goal.returns-then-ne
returns-then-ne c =
    let differ : c.in-Seat.player ≡ c.self.inside.player → ⊥ = search rules in
    let acts = rw c.held-log.ensures.value at c.actor.ensures in
    rw (← c.self.view_is) (λ also. let same = one_actor _ _ _ _ acts also in let is = c.in-Seat.is in differ cc)

pub returns : goal.returns
returns c =
    let held = c.held-log.ensures.value in
    let same : c.in-Seat.player ≡ c.self.inside.player = search rules in
    let number = rw (← c.self.view_is) at c.claim_number.ensures in
    let acts = rw held at c.in-Seat.ensures in
    let many = rw held at c.len.ensures.value in
    let next = rw held at c.len-2.ensures.value in
    let legal = rw (held) at (c.in_default-check.ensures.ok.0 refl) in
    rw (← c.self.view_is) (
      (
        subst (λ (p : Player). ActsAfter c.self.inside.follower.log.terms c.self.inside.follower.log.entries (Seat p))
            same acts,
        omega (arith, number, many),
        (c.unwrap-entry.result, rw c.copy.ensures at (rw c.unwrap-entry.ensures at c.entry_of.ensures.answers), legal),
      ),
      ap (λ (n : ℕ). n + 1) next,
    )
