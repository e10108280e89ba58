-- The watchers of a world keep their numbers.
use Rattle.std.specs.Prelude.{◌≡◌, ℕ, ◌+◌, ◌⊎◌, List, MatchOption, Option, Some, Result, Ok, Err, slice_get, slice_set}
use Rattle.std.proofs.Common.{inl, inr, refl, sym, ap, subst, ◌∙◌}
use Rattle.bg_match.specs.Terms.{Terms}
use Rattle.bg_party.specs.Claims.{WatcherTicks}
use Rattle.bg_party.specs.Views.{WatcherView, fresh_watcher}
use Rattle.bg_wire.specs.Entries.Codes.{first_watcher}
use Rattle.bg_wire.specs.declared.packets.Packet.{Packet}
use Rattle.bg_protocol.specs.Worlds.Calls.{WatcherTakes}
use Rattle.bg_protocol.specs.Devices.LinkCalls.{FollowerHandles, FollowerTakeCalls, FollowerTickCalls}
use Rattle.bg_protocol.specs.Worlds.Nodes.{WatchersRestart, WatchersTake, WatchersTick}
use Rattle.bg_protocol.specs.Worlds.Starts.{fresh_watchers}
use Rattle.bg_protocol.specs.Worlds.Views.{AreNumbered, LinkView}
use Rattle.bg_protocol.specs.declared.events.Outcome.{Outcome}
use Rattle.bg_protocol.specs.declared.events.Outcome.TheVariants as outcomes
use Rattle.bg_protocol.proofs.Steps.Sides.{get_set_watcher}
use Rattle.bg_protocol.proofs.ReachedWorlds.Starting.{fresh_match}

-- fresh ones have theirs
pub fresh_numbered : (id : ℕ) (terms : Terms) (count : ℕ) → AreNumbered (fresh_watchers id terms count)
fresh_numbered id terms count index core is = (fresh_match id terms count index core is).party

-- one that takes another's place has its number
pub set_numbered : (watchers : List WatcherView) (index : ℕ) (core : WatcherView) → AreNumbered watchers
    → core.party ≡ first_watcher + index → AreNumbered (slice_set watchers index core)
set_numbered watchers index core numbered party i other is = at (get_set_watcher watchers index core i other is)
  where
    at : ((i ≡ index) × (other ≡ core)) ⊎ (slice_get watchers i ≡ Some other) → other.party ≡ first_watcher + i
    at (inl p) = ap (λ (v : WatcherView). v.party) p.1 ∙ party ∙ ap (λ (n : ℕ). first_watcher + n) (sym p.0)
    at (inr p) = numbered i other p

handled : (core : WatcherView) (hand : Result Packet Outcome) (result : Outcome) (after : WatcherView)
    → FollowerHandles WatcherTakes core hand result after → after.party ≡ core.party
handled core (Ok packet) result after h = ap (λ (v : WatcherView). v.party) (h.1).same
handled core (Err why) result after h = ap (λ (v : WatcherView). v.party) h.1

-- neither a take nor a tick changes the number
pub take_keeps : (honest : Type 0) (party : ℕ) (old : LinkView) (core : WatcherView) (pick : ℕ) (result : Outcome)
    (new : LinkView) (after : WatcherView)
    → FollowerTakeCalls WatcherTakes honest party old core pick result new after → after.party ≡ core.party
take_keeps honest party old core pick result new after h = handled core h.0 result after h.2

pub tick_keeps : (honest : Type 0) (parties : ℕ) (old : LinkView) (core : WatcherView) (result : Outcome)
    (new : LinkView) (after : WatcherView)
    → FollowerTickCalls WatcherTicks honest parties old core result new after → after.party ≡ core.party
tick_keeps honest parties old core result new after h = ap (λ (v : WatcherView). v.party) (h.1).after

-- ---- what the node at an index does is what the watchers do

pub takes_at : (honest : Type 0) (old_link : LinkView) (watchers : List WatcherView) (index pick : ℕ)
    (result : Outcome) (new_link : LinkView) (core after : WatcherView) → slice_get watchers index ≡ Some core
    → core.party ≡ first_watcher + index
    → FollowerTakeCalls WatcherTakes honest core.party old_link core pick result new_link after
    → WatchersTake honest old_link watchers index pick result new_link (slice_set watchers index after)
takes_at honest old_link watchers index pick result new_link core after is party h =
    subst (λ (found : Option WatcherView).
    MatchOption found
    ((result ≡ outcomes.NoSuchParty) × (new_link ≡ old_link) × (slice_set watchers index after ≡ watchers))
    (λ c. (next : WatcherView)
    × FollowerTakeCalls WatcherTakes honest (first_watcher + index) old_link c pick result new_link next
    × (slice_set watchers index after ≡ slice_set watchers index next)))
    (sym is) (
      after,
      subst (λ (p : ℕ). FollowerTakeCalls WatcherTakes honest p old_link core pick result new_link after) party h,
      refl,
    )

pub ticks_at : (honest : Type 0) (parties : ℕ) (old_link : LinkView) (watchers : List WatcherView) (index : ℕ)
    (result : Outcome) (new_link : LinkView) (core after : WatcherView) → slice_get watchers index ≡ Some core
    → FollowerTickCalls WatcherTicks honest parties old_link core result new_link after
    → WatchersTick honest parties old_link watchers index result new_link (slice_set watchers index after)
ticks_at honest parties old_link watchers index result new_link core after is h =
    subst (λ (found : Option WatcherView).
    MatchOption found
    ((result ≡ outcomes.NoSuchParty) × (new_link ≡ old_link) × (slice_set watchers index after ≡ watchers))
    (λ c. (next : WatcherView) × FollowerTickCalls WatcherTicks honest parties old_link c result new_link next
    × (slice_set watchers index after ≡ slice_set watchers index next)))
    (sym is) (after, h, refl)

pub restarts_at : (id : ℕ) (terms : Terms) (watchers : List WatcherView) (index : ℕ) (core after : WatcherView)
    → slice_get watchers index ≡ Some core → after ≡ fresh_watcher (first_watcher + index) id terms
    → WatchersRestart id terms watchers index outcomes.Restarted (slice_set watchers index after)
restarts_at id terms watchers index core after is fresh =
    subst (λ (found : Option WatcherView).
    MatchOption found
    ((outcomes.Restarted ≡ outcomes.NoSuchParty) × (slice_set watchers index after ≡ watchers))
    (λ c. (outcomes.Restarted ≡ outcomes.Restarted)
    × (slice_set watchers index after ≡ slice_set watchers index (fresh_watcher (first_watcher + index) id terms))))
    (sym is) (refl, ap (slice_set watchers index) fresh)
