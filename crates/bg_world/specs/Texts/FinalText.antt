-- The final text of a world.
use Rattle.std.specs.Prelude.{◌≡◌, ℕ, zero, suc, List, [], ◌++◌, length, codes, Option, Some, None}
use Rattle.std.specs.Fmt.{decimal}
use Rattle.bg_match.specs.Match.{Log, StandsAt}
use Rattle.bg_match.specs.State.{State}
use Rattle.bg_text.specs.Boards.BoardText.{line_text, board_text}
use Rattle.bg_protocol.specs.Protocol.Roles.{role}
use Rattle.bg_protocol.specs.Worlds.Starts.{held_of}
use Rattle.bg_protocol.specs.Worlds.Views.{WorldView, parties}
use Rattle.bg_protocol.specs.declared.roles.Role.TheVariants as roles

-- how many entries a party holds, or that it is down
abbrev pub held_part : Option Log → List ℕ
held_part None = codes "down"
held_part (Some log) = decimal (length log.entries) ++ codes " entries"

abbrev pub party_line : ℕ → Option Log → List ℕ
party_line party held = codes "party " ++ decimal party ++ codes ": " ++ held_part held

-- the lines of the parties below this number, in rising order
abbrev pub parties_text : WorldView → ℕ → List ℕ
parties_text w zero = []
parties_text w (suc party) = parties_text w party ++ line_text (party_line party (held_of w (role party)))

-- the board of a record, where there is one
abbrev pub IsBoardOf : Option Log → List ℕ → Type 0
IsBoardOf None text = text ≡ []
IsBoardOf (Some log) text = (t : State) × StandsAt log.terms log.entries t × (text ≡ board_text t)

-- a line for each party, and the board of the referee's record where the referee is up
pub record IsFinalText (w : WorldView) (text : List ℕ) : Type 0 where
  pub board : List ℕ
  pub drawn : IsBoardOf (held_of w roles.Referee) board
  pub printed : text ≡ parties_text w (parties w) ++ board
