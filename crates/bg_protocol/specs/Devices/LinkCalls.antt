-- What an event does at one party with the link: takes, answers and ticks.
use Rattle.std.specs.Prelude.{◌≡◌, ℕ, ◌+◌, List, [], ◌∷◌, Result, Ok, Err, MatchResult, Option, Some, None, nat_lt}
use Rattle.std.specs.Bool.{MatchBool}
use Rattle.bg_wire.specs.Entries.Codes.{referee}
use Rattle.bg_wire.specs.declared.packets.Packet.{Packet}
use Rattle.bg_referee.specs.Referee.{RefereeView}
use Rattle.bg_referee.specs.Takes.{RefereeTakes}
use Rattle.bg_referee.specs.Ticks.{RefereeTicks}
use Rattle.bg_referee.specs.declared.outcomes.TakeOutcome.{TakeOutcome}
use Rattle.bg_referee.specs.declared.outcomes.TakeOutcome.TheVariants as takes
use Rattle.bg_party.specs.declared.outcomes.Learned.{Learned}
use Rattle.bg_protocol.specs.Devices.DeviceCalls.{Posts, Receives, link_outcome}
use Rattle.bg_protocol.specs.Worlds.Views.{LinkView}
use Rattle.bg_protocol.specs.declared.devices.DeviceFault.{DeviceFault}
use Rattle.bg_protocol.specs.declared.events.Outcome.{Outcome}
use Rattle.bg_protocol.specs.declared.events.Outcome.TheVariants as outcomes

-- ---- sends; so many parties exist, from 0

-- the outcome is this one, but for a fault of the link
abbrev pub ComesTo : Outcome → Result (Unit {0}) DeviceFault → Outcome → Type 0
ComesTo due (Ok done) result = result ≡ due
ComesTo due (Err fault) result = result ≡ link_outcome fault

-- an answer to a party that exists is sent; nothing else is
abbrev pub AnswerCalls : Type 0 → ℕ → LinkView → TakeOutcome → Outcome → LinkView → Type 0
AnswerCalls honest parties old (takes.Answer to p) result new =
    MatchBool (nat_lt to parties)
    ((answer : Result (Unit {0}) DeviceFault) × Posts honest old to p answer new
    × ComesTo (outcomes.Took (takes.Answer to p)) answer result)
    ((result ≡ outcomes.Took (takes.Answer to p)) × (new ≡ old))
AnswerCalls honest parties old took result new = (result ≡ outcomes.Took took) × (new ≡ old)

-- packets to parties that exist are sent in order, up to the first that fails, and the outcome
-- counts them; so many were sent before
abbrev pub SendCalls : Type 0 → ℕ → ℕ → LinkView → List (ℕ × Packet) → Outcome → LinkView → Type 0
SendCalls honest parties before old [] result new = (result ≡ outcomes.Sent before) × (new ≡ old)
SendCalls honest parties before old (packet ∷ packets) result new =
    MatchBool (nat_lt packet.0 parties)
    ((answer : Result (Unit {0}) DeviceFault) × (mid : LinkView) × Posts honest old packet.0 packet.1 answer mid
    × MatchResult answer (λ _. SendCalls honest parties (before + 1) mid packets result new)
    (λ fault. (result ≡ link_outcome fault) × (new ≡ mid)))
    (SendCalls honest parties before old packets result new)

-- ---- takes

-- the referee takes the packet in hand, and its answer is sent
abbrev pub RefereeHandles : Type 0 → ℕ → LinkView → RefereeView → ℕ → Result Packet Outcome → Outcome → LinkView →
    RefereeView → Type 0
RefereeHandles honest parties old core word (Err why) result new after = (result ≡ why) × (new ≡ old) × (after ≡ core)
RefereeHandles honest parties old core word (Ok p) result new after =
    (took : TakeOutcome) × RefereeTakes core p word took after × AnswerCalls honest parties old took result new

-- one take of the link, and one of the referee where there is a packet
abbrev pub RefereeTakeCalls : Type 0 → ℕ → LinkView → RefereeView → ℕ → ℕ → Outcome → LinkView → RefereeView → Type 0
RefereeTakeCalls honest parties old core pick word result new after =
    (hand : Result Packet Outcome) × (mid : LinkView) × Receives honest old referee pick hand mid
    × RefereeHandles honest parties mid core word hand result new after

-- a follower's core takes the packet in hand
abbrev pub FollowerHandles : {C : Type 0} → (C → Packet → Learned → C → Type 0) → C → Result Packet Outcome → Outcome →
    C → Type 0
FollowerHandles CoreTakes core (Err why) result after = (result ≡ why) × (after ≡ core)
FollowerHandles CoreTakes core (Ok p) result after =
    (learned : Learned) × CoreTakes core p learned after × (result ≡ outcomes.Learned learned)

-- one take of the link, and one of the core where there is a packet
abbrev pub FollowerTakeCalls : {C : Type 0} → (C → Packet → Learned → C → Type 0) → Type 0 → ℕ → LinkView → C → ℕ →
    Outcome → LinkView → C → Type 0
FollowerTakeCalls CoreTakes honest party old core pick result new after =
    (hand : Result Packet Outcome) × Receives honest old party pick hand new
    × FollowerHandles CoreTakes core hand result after

-- ---- ticks

-- the referee's tick gives packets, which are sent
abbrev pub RefereeTickCalls : Type 0 → ℕ → LinkView → RefereeView → Outcome → LinkView → RefereeView → Type 0
RefereeTickCalls honest parties old core result new after =
    (packets : List (ℕ × Packet)) × RefereeTicks core packets after × SendCalls honest parties 0 old packets result new

-- what a follower sends goes to the referee
abbrev pub to_referee : Option Packet → List (ℕ × Packet)
to_referee None = []
to_referee (Some p) = (referee, p) ∷ []

-- a follower's tick gives a packet, or none, which is sent
abbrev pub FollowerTickCalls : {C : Type 0} → (C → Option Packet → C → Type 0) → Type 0 → ℕ → LinkView → C → Outcome →
    LinkView → C → Type 0
FollowerTickCalls CoreTicks honest parties old core result new after =
    (packet : Option Packet) × CoreTicks core packet after
    × SendCalls honest parties 0 old (to_referee packet) result new
