-- What comes of an action under a number under which one was claimed.
use Rattle.std.specs.Prelude.{◌≡◌, ◌↔◌, ℕ, Option, Some, None}
use Rattle.std.proofs.Common.{ap, refl, sym, ◌∙◌}
use Rattle.bg_match.specs.declared.actions.Action.{Action}
use Rattle.bg_protocol.specs.Worlds.Views.{WorldView}
use Rattle.bg_hosted.specs.Acting.{ActsAgain}
use Rattle.bg_hosted.specs.declared.acting.Acted.{Acted}

action_in : Option (ℕ × Action) → Action → Action
action_in None other = other
action_in (Some claim) other = claim.1

same_claim : (one other : ℕ × Action) → Some one ≡ Some other → one.1 ≡ other.1
unfolding action_in
same_claim one other same = ap (λ (claim : Option (ℕ × Action)). action_in claim one.1) same

-- it is the same action that was claimed, or another one
pub acts_again : (honest : Type 0) (old : WorldView) (one other : ℕ × Action) (number : ℕ) (action : Action) (same : Type 0) (result : Acted) (new : WorldView)
    → (same ↔ (one.1 ≡ action)) → Some one ≡ Some other → ActsAgain honest old number same result new → ActsAgain honest old number (other.1 ≡ action) result new
acts_again honest old one other number action same result new tells is acts =
    let claim = same_claim one other is in
    (λ equal. acts.0 (tells.1 (claim ∙ equal)), λ unequal. acts.1 (λ it. unequal (sym claim ∙ tells.0 it)))

pub at_number : (first number : ℕ) (action : Action) → first ≡ number → (let one : ℕ × Action = (first, action) in Some one) ≡ (let one : ℕ × Action = (number, action) in Some one)
at_number first number action same = rw same refl
