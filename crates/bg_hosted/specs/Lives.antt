-- The lives of a match at a server. Each begins over the slots that the one before has left, with
-- fresh parties and a network of its own.
use Rattle.std.specs.Prelude.{◌≡◌, ℕ, ◌++◌, List, None, length, ⊤}
use Rattle.bg_wire.specs.Entries.Codes.{referee, seat_of_o, seat_of_x}
use Rattle.bg_wire.specs.declared.packets.Datagram.{Datagram}
use Rattle.bg_protocol.specs.Worlds.Calls.{Calls}
use Rattle.bg_protocol.specs.Worlds.Starts.{fresh_world}
use Rattle.bg_protocol.specs.Worlds.Views.{KeeperView, WorldView}
use Rattle.bg_protocol.specs.Worlds.WorldState.{IsReachedWorld}
use Rattle.bg_protocol.specs.declared.events.Event.{Event}
use Rattle.bg_protocol.specs.declared.events.Event.TheVariants as events
use Rattle.bg_protocol.specs.declared.events.Outcome.{Outcome}
use Rattle.bg_hosted.specs.Going.{GoesOn}
use Rattle.bg_hosted.specs.HostedMatches.{setup_of}
use Rattle.bg_hosted.specs.QueueLinks.{unused_queue}

-- ---- how a life begins

-- a party restarts from what its keeper has
abbrev pub Restarts : Type 0 → WorldView → ℕ → WorldView → Type 0
Restarts keepers_honest old party new =
    (outcome : Outcome) × Calls (Unit {0}) keepers_honest old (events.Restart party) outcome new

-- the referee and the two seats restart, one after the other, before anything else happens
pub record Begins (keepers_honest : Type 0) (old new : WorldView) : Type 0 where
  pub with_referee : WorldView
  pub with_x : WorldView
  pub with_all : WorldView
  pub referee_restarts : Restarts keepers_honest old referee with_referee
  pub x_restarts : Restarts keepers_honest with_referee seat_of_x with_x
  pub o_restarts : Restarts keepers_honest with_x seat_of_o with_all
  pub goes_on : GoesOn keepers_honest with_all new

-- ---- all lives are one run

-- these keepers have what those of the world have
pub record HaveItsSlots (w : WorldView) (referee_keeper x_keeper o_keeper : KeeperView) : Type 0 where
  pub referee_slots : referee_keeper.slots ≡ w.referee_keeper.slots
  pub x_slots : x_keeper.slots ≡ w.x_keeper.slots
  pub o_slots : o_keeper.slots ≡ w.o_keeper.slots

-- the world of a later life, where what was sent in the lives before counts as sent
abbrev pub in_later_life : List Datagram → WorldView → WorldView
in_later_life before w = record w { link = record w.link { plan = None; sent = before ++ w.link.sent } }

-- if a run leads to the world that one life leaves, a run leads to that with which the next begins
abbrev pub BeginsReached : Type 0
BeginsReached =
    (w : WorldView) (referee_keeper x_keeper o_keeper : KeeperView) (new : WorldView) → IsReachedWorld w
    → length w.watchers ≡ 1 → HaveItsSlots w referee_keeper x_keeper o_keeper
    → Begins ⊤ (fresh_world (setup_of w.id w.terms) unused_queue referee_keeper x_keeper o_keeper) new
    → IsReachedWorld (in_later_life w.link.sent new)

-- and it goes on to lead to it, whatever event happens in that life
abbrev pub GoesOnReached : Type 0
GoesOnReached =
    (before : List Datagram) (old : WorldView) (event : Event) (outcome : Outcome) (new : WorldView)
    → Calls ⊤ ⊤ old event outcome new → IsReachedWorld (in_later_life before old)
    → IsReachedWorld (in_later_life before new)
