-- Laws of worlds: each is proved.
use Rattle.std.specs.Prelude.{◌≡◌, false, IsSome, List, [], ◌∷◌}
use Rattle.std.specs.List.{AllByRecursion}
use Rattle.bg_board.specs.declared.players.Player.{Player}
use Rattle.bg_protocol.specs.Worlds.Calls.{Calls}
use Rattle.bg_protocol.specs.Worlds.Starts.{terms_in, AreUnused, fresh_world}
use Rattle.bg_protocol.specs.Protocol.State.{IsSetup, protocol_start}
use Rattle.bg_protocol.specs.Worlds.Views.{KeeperView, LinkView, WorldView, seat_keeper}
use Rattle.bg_protocol.specs.Worlds.WorldRuns.{is_memory}
use Rattle.bg_protocol.specs.Worlds.WorldState.{IsReachedWorld, protocol_state}
use Rattle.bg_protocol.specs.declared.events.Event.{Event}
use Rattle.bg_protocol.specs.declared.events.Event.TheVariants as events
use Rattle.bg_protocol.specs.declared.events.Outcome.{Outcome}
use Rattle.bg_protocol.specs.declared.worlds.setups.Setup.{Setup}

-- over unused devices a run leads to a new world, and the state of the protocol that it is in is
-- the start
abbrev pub NewWorldsAreAtTheStart : Type 0
NewWorldsAreAtTheStart =
    (setup : Setup) (link : LinkView) (referee_keeper x_keeper o_keeper : KeeperView)
    → IsSetup setup.id (terms_in setup) setup.watchers → AreUnused link referee_keeper x_keeper o_keeper
    → let w = fresh_world setup link referee_keeper x_keeper o_keeper in
    IsReachedWorld w
    × ((reached : IsReachedWorld w)
    → protocol_state w reached.restorable ≡ protocol_start setup.id (terms_in setup) setup.watchers)

-- the event asks nothing of a device, or nothing but one write, of which a world shows the answer
abbrev pub NoDeviceIsHeard : Event → Type 0
NoDeviceIsHeard (events.Due word) = Unit {0}
NoDeviceIsHeard (events.Choose player action) = Unit {0}
NoDeviceIsHeard (events.Save party) = Unit {0}
NoDeviceIsHeard _ = ⊥

-- between the same two worlds such an event comes to one outcome, on any devices, honest or not
abbrev pub OutcomesAreFixed : Type 0 → Type 0 → Type 0
OutcomesAreFixed link_honest keepers_honest =
    (old : WorldView) (event : Event) (a b : Outcome) (new : WorldView)
    → NoDeviceIsHeard event → Calls link_honest keepers_honest old event a new
    → Calls link_honest keepers_honest old event b new → a ≡ b

-- it is known of each device which of its calls fail
pub record ArePlansKnown (w : WorldView) : Type 0 where
  pub link : IsSome w.link.plan
  pub referee : IsSome w.referee_keeper.plan
  pub seats : (player : Player) → IsSome (seat_keeper w player).plan

-- between the same two worlds any event comes to one outcome, over honest devices with known plans,
-- from a world that a run leads to, want of memory aside
abbrev pub ComeToOneOutcome : Type 0 → Type 0 → Type 0
ComeToOneOutcome link_honest keepers_honest =
    link_honest → keepers_honest
    → (old : WorldView) (event : Event) (a b : Outcome) (new : WorldView) → IsReachedWorld old → ArePlansKnown old
    → is_memory a ≡ false → is_memory b ≡ false
    → Calls link_honest keepers_honest old event a new → Calls link_honest keepers_honest old event b new → a ≡ b

-- the calls of the events, one event after the other, with what each came to and the world after it
abbrev pub CallsThrough : Type 0 → Type 0 → WorldView → List Event → List Outcome → List WorldView → Type 0
CallsThrough link_honest keepers_honest old [] [] [] = Unit {0}
CallsThrough link_honest keepers_honest old (event ∷ events) (outcome ∷ outcomes) (new ∷ worlds) =
    Calls link_honest keepers_honest old event outcome new
    × CallsThrough link_honest keepers_honest new events outcomes worlds
CallsThrough link_honest keepers_honest old _ _ _ = ⊥

-- of two lists of outcomes that fit the same calls through the same worlds there is one, under
-- these premises
abbrev pub ComeToOneList : Type 0 → Type 0 → Type 0
ComeToOneList link_honest keepers_honest =
    link_honest → keepers_honest
    → (old : WorldView) (events : List Event) (a b : List Outcome) (worlds : List WorldView)
    → AllByRecursion (λ w. IsReachedWorld w × ArePlansKnown w) (old ∷ worlds)
    → AllByRecursion (λ o. is_memory o ≡ false) a → AllByRecursion (λ o. is_memory o ≡ false) b
    → CallsThrough link_honest keepers_honest old events a worlds
    → CallsThrough link_honest keepers_honest old events b worlds → a ≡ b
