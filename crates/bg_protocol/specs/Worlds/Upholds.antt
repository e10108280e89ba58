-- What holds of a reached world.
use Rattle.std.specs.Prelude.{◌≡◌, ℕ, Some}
use Rattle.bg_board.specs.declared.players.Player.{Player}
use Rattle.bg_match.specs.Match.{IsLegalRecord, Log}
use Rattle.bg_wire.specs.Entries.Codes.{referee}
use Rattle.bg_protocol.specs.Promises.Agreement.{Agreement, IsPrefix}
use Rattle.bg_protocol.specs.Promises.Claims.{AreClaimsKept}
use Rattle.bg_protocol.specs.Promises.Headline.{AreAnswered, Headline}
use Rattle.bg_protocol.specs.Promises.Refusals.{IsNoPacketRefused, IsNoSlotRefused}
use Rattle.bg_protocol.specs.Protocol.Roles.{role}
use Rattle.bg_protocol.specs.Promises.Shown.{ShowsSavedAlone}
use Rattle.bg_protocol.specs.Protocol.Slots.{claim_in}
use Rattle.bg_protocol.specs.Worlds.Starts.{held_of}
use Rattle.bg_protocol.specs.Protocol.State.{log_of}
use Rattle.bg_protocol.specs.Promises.Survival.{SavesSurvive}
use Rattle.bg_protocol.specs.Worlds.Views.{WorldView}
use Rattle.bg_protocol.specs.Worlds.WorldState.{IsLogOf, IsReachedWorld, restorable_of, protocol_state}

-- The headline over what a world holds, where its referee is up and has this record: each record
-- that a party holds is of the world's match, and a prefix of it; it is a legal match; and each
-- entry of a seat in it answers the one action that this seat ever claimed under its number.
pub record HeadlineHeld (w : WorldView) (log : Log) : Type 0 where
  pub of_match : (party : ℕ) (held : Log) → held_of w (role party) ≡ Some held → IsLogOf w.id w.terms held
  pub prefix : (party : ℕ) (held : Log) → held_of w (role party) ≡ Some held → IsPrefix held.entries log.entries
  pub legal : IsLegalRecord w.terms log.entries
  pub answered : AreAnswered w.terms log.entries w.link.sent

-- The headline over what a world holds, and over the state of the protocol that it is in; and the
-- other laws of runs. That state has the datagrams that were sent over the link, and of a party
-- that is up the record that it holds.
pub record Upholds (w : WorldView) : Type 0 where
  pub world : IsReachedWorld w
  pub held_headline : (log : Log) → held_of w (role referee) ≡ Some log → HeadlineHeld w log
  pub headline : Headline (protocol_state w world.restorable)
  pub agreement : Agreement (protocol_state w world.restorable)
  pub claims : (player : Player) → AreClaimsKept w.link.sent player (claim_in (restorable_of world.restorable player))
  pub saved_alone : ShowsSavedAlone (protocol_state w world.restorable)
  pub packets : IsNoPacketRefused (protocol_state w world.restorable)
  pub slots : IsNoSlotRefused (protocol_state w world.restorable)
  pub survive : SavesSurvive (protocol_state w world.restorable)
  pub sent : (protocol_state w world.restorable).sent ≡ w.link.sent
  pub held : (party : ℕ) (log : Log) → held_of w (role party) ≡ Some log
      → log_of (protocol_state w world.restorable) party ≡ Some log.entries
