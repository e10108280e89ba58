-- The claims of seats: the last one, and what could be claimed.
use Rattle.std.specs.Prelude.{◌≡◌, ◌==◌, ℕ, List, [], Option, Some, None, Result, Ok, Err}
use Rattle.std.specs.Prelude.{MatchOption, if◌then◌else◌}
use Rattle.std.specs.Global.{Vec}
use Rattle.bg_board.specs.declared.players.Player.{Player}
use Rattle.bg_board.specs.declared.players.Player.TheVariants.{X, O}
use Rattle.bg_match.specs.Entry.{IsAction}
use Rattle.bg_match.specs.declared.actions.Action.{Action}
use Rattle.bg_parties.specs.Calls.{claim_of, log_of, of_core}
use Rattle.bg_party.specs.Claims.{MayClaim}
use Rattle.bg_party.specs.declared.outcomes.ChooseFault.{ChooseFault}
use Rattle.bg_text.specs.Entries.EntryText.{action_text}
use Rattle.bg_c.specs.Answers.{choose_status, role_status}
use Rattle.bg_c.specs.Handle.{Held}
use Rattle.bg_c.specs.PartyCalls.{why_after}
use Rattle.bg_c.specs.Sets.{with_status}
use Rattle.bg_c.specs.declared.statuses.Status.{Status}
use Rattle.bg_c.specs.declared.statuses.Status.TheVariants.{BadArgument, Memory, NotAnAction}

-- ---- the last claim

-- its number and its text; without a claim 0 and no text
abbrev pub IsClaimText : Option (ℕ × Action) → ℕ → List ℕ → Type 0
IsClaimText None number text = (number ≡ 0) × (text ≡ [])
IsClaimText (Some claim) number text = (number ≡ claim.0) × (text ≡ action_text claim.1)

-- what is made of a party's claim, or there was no memory for it
abbrev pub MakesClaim : Held → Result (ℕ × Vec ℕ) Status → Type 0
MakesClaim party (Ok made) = IsClaimText (claim_of party.core) made.0 made.1.items
MakesClaim party (Err why) = why ≡ Memory

-- ---- what could be claimed

-- the player of a number
abbrev pub player_numbered : ℕ → Option Player
player_numbered number = if number == 1 then Some X else if number == 2 then Some O else None

-- a text: what a player without another claim would be answered to the action whose text it is
pub record TriesOf
    (party : Held) (player : Player) (text : List ℕ) (before : ℕ) (made : Result ℕ Status) (after : ℕ) : Type 0 where
  pub action : (a : Action) → IsAction a → text ≡ action_text a → (answer : Result ℕ ChooseFault)
      × MayClaim (log_of party.core) player None a answer
      × (made ≡ with_status (role_status choose_status) (of_core answer)) × (after ≡ why_after (of_core answer) before)
  pub none : ((a : Action) → IsAction a → text ≡ action_text a → ⊥) → (made ≡ Err NotAnAction) × (after ≡ before)

-- the same for the player of a number, who is looked at first
abbrev pub TriesText : Held → ℕ → List ℕ → ℕ → Result ℕ Status → ℕ → Type 0
TriesText party number text before made after =
    MatchOption (player_numbered number) ((made ≡ Err BadArgument) × (after ≡ before))
    (λ player. TriesOf party player text before made after)
