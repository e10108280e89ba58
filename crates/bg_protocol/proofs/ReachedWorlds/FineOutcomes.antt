-- What sends, saves, restarts and answers over honest devices come to is no refusal.
use Rattle.std.specs.Prelude.{◌≡◌, ℕ, ◌+◌, Bool, true, false, nat_lt, List, [], ◌∷◌, Option, Some, None, Result, Ok, Err, MatchResult}
use Rattle.std.specs.Bool.{MatchBool}
use Rattle.std.specs.Global.{Vec}
use Rattle.std.proofs.Common.{sym, subst}
use Rattle.bg_match.specs.Terms.{Terms}
use Rattle.bg_wire.specs.Saved.SavedText.{SavedParts}
use Rattle.bg_wire.specs.declared.faults.SaveRefusal.{SaveRefusal}
use Rattle.bg_wire.specs.declared.faults.SaveRefusal.TheVariants.{SavesSpent, Memory}
use Rattle.bg_wire.specs.declared.packets.Packet.{Packet}
use Rattle.bg_wire.specs.declared.saves.Saved.{Saved}
use Rattle.bg_wire.specs.declared.saves.slots.Slot.{Slot}
use Rattle.bg_referee.specs.declared.outcomes.TakeOutcome.{TakeOutcome}
use Rattle.bg_referee.specs.declared.outcomes.TakeOutcome.TheVariants as takes
use Rattle.bg_protocol.specs.declared.devices.DeviceFault.{DeviceFault}
use Rattle.bg_protocol.specs.declared.devices.DeviceFault.TheVariants as faults
use Rattle.bg_protocol.specs.declared.events.Outcome.{Outcome}
use Rattle.bg_protocol.specs.declared.events.Outcome.TheVariants as outcomes
use Rattle.bg_protocol.specs.declared.events.RestoreCause.TheVariants as causes
use Rattle.bg_protocol.specs.Devices.DeviceCalls.{Posts, link_outcome}
use Rattle.bg_protocol.specs.Devices.KeeperCalls.{ComesUp, RestartCallsAt, SaveCallsAt, SaveGoesOn, SaveTold}
use Rattle.bg_protocol.specs.Devices.LinkCalls.{AnswerCalls, ComesTo, SendCalls}
use Rattle.bg_protocol.specs.Worlds.NotRefused.{IsNotRefused, IsNotRefusedByReferee}
use Rattle.bg_protocol.specs.Worlds.Views.{KeeperView, LinkView}
use Rattle.bg_protocol.proofs.Protocol.Saving.{SlotsOk}
use Rattle.bg_protocol.proofs.Steps.Hands.{IsEmptyHand, fault, memory, nothing, no_packet}
use Rattle.bg_protocol.proofs.Steps.RestartCases.{IsReread, given, empty, not_read, no_memory, rereads}

-- an outcome that is not refused, and another name of it
pub named : (o p : Outcome) → o ≡ p → IsNotRefused p → IsNotRefused o
named o p e h = subst IsNotRefused (sym e) h

-- ---- devices

pub no_hand : (o : Outcome) → IsEmptyHand o → IsNotRefused o
no_hand o (fault e) = named o outcomes.LinkFault e tt
no_hand o (memory e) = named o outcomes.Memory e tt
no_hand o (nothing e) = named o outcomes.NoDatagram e tt
no_hand o (no_packet why e) = named o (outcomes.NotAPacket why) e tt

link_failed : (o : Outcome) (x : DeviceFault) → o ≡ link_outcome x → IsNotRefused o
link_failed o faults.Failed e = named o outcomes.LinkFault e tt
link_failed o faults.Memory e = named o outcomes.Memory e tt

-- what is sent in a tick
pub sends_all : (honest : Type 0) (many before : ℕ) (old : LinkView) (packets : List (ℕ × Packet)) (o : Outcome)
    (new : LinkView)
    → SendCalls honest many before old packets o new → IsNotRefused o
sends_all honest many before old [] o new h = named o (outcomes.Sent before) h.0 tt
sends_all honest many before old (p ∷ packets) o new h =
    at (λ n mid k. sends_all honest many n mid packets o new k) (nat_lt p.0 many) h
  where
    sent_one : ((n : ℕ) (mid : LinkView) → SendCalls honest many n mid packets o new → IsNotRefused o)
        → (answer : Result (Unit {0}) DeviceFault) (mid : LinkView)
        → MatchResult answer (λ _. SendCalls honest many (before + 1) mid packets o new)
        (λ fault. (o ≡ link_outcome fault) × (new ≡ mid))
        → IsNotRefused o
    sent_one again (Ok u) mid k = again (before + 1) mid k
    sent_one again (Err x) mid k = link_failed o x k.0

    at : ((n : ℕ) (mid : LinkView) → SendCalls honest many n mid packets o new → IsNotRefused o) → (b : Bool)
        → MatchBool b
        ((answer : Result (Unit {0}) DeviceFault) × (mid : LinkView) × Posts honest old p.0 p.1 answer mid
        × MatchResult answer (λ _. SendCalls honest many (before + 1) mid packets o new)
        (λ fault. (o ≡ link_outcome fault) × (new ≡ mid)))
        (SendCalls honest many before old packets o new)
        → IsNotRefused o
    at again true k = sent_one again k.0 k.1 k.3
    at again false k = again before old k

-- a save
pub saves_all : {C : Type 0} (parts_of : C → SavedParts) (after_save : C → ℕ → C) (honest : Type 0)
    (old : KeeperView) (core : Option C) (o : Outcome)
    (new : KeeperView) (after : Option C) → SaveCallsAt parts_of after_save honest old core o new after → IsNotRefused o
saves_all {C} parts_of after_save honest old None o new after h = named o outcomes.Down h.0 tt
saves_all {C} parts_of after_save honest old (Some core) o new after h = at h.0 h.2
  where
    told : (save : ℕ) (answer : Result (Unit {0}) DeviceFault) → SaveTold save (after_save core save) answer o after
        → IsNotRefused o
    told save (Ok u) k = named o (outcomes.Saved save) k.0 tt
    told save (Err x) k = named o outcomes.SaveFault k.0 tt

    at : (next : Result (Slot × ℕ × Vec ℕ) SaveRefusal) → SaveGoesOn after_save honest old core next o new after
        → IsNotRefused o
    at (Ok s) k = told s.1 k.0 k.2
    at (Err SavesSpent) k = named o outcomes.SavesSpent k.0 tt
    at (Err Memory) k = named o outcomes.Memory k.0 tt

-- a restart
comes_up : {C : Type 0} (found : Option SavedParts) (resumed : Saved → C) (fresh : C)
    (answer : Result (Option Saved) Outcome) (o : Outcome) (core : Option C)
    → IsReread found answer → ComesUp resumed fresh answer o core → IsNotRefused o
comes_up {C} found resumed fresh answer o core h up = at h
  where
    at : IsReread found answer → IsNotRefused o
    at (given s e f) = let k = subst (λ (x : Result (Option Saved) Outcome). ComesUp resumed fresh x o core) f up in named o outcomes.Restarted k.0 tt
    at (empty e f) = let k = subst (λ (x : Result (Option Saved) Outcome). ComesUp resumed fresh x o core) f up in named o outcomes.Restarted k.0 tt
    at (not_read f) =
        let k = subst (λ (x : Result (Option Saved) Outcome). ComesUp resumed fresh x o core) f up in named o
        (outcomes.RestoreFault causes.Device) k.0 tt
    at (no_memory f) = let k = subst (λ (x : Result (Option Saved) Outcome). ComesUp resumed fresh x o core) f up in named o outcomes.Memory k.0 tt

pub restarts_all : {C : Type 0} (resumed : Saved → C) (fresh : C) (honest : Type 0) → honest
    → (id : ℕ) (terms : Terms) (party : ℕ) (old new : KeeperView)
    (found : Option SavedParts) → SlotsOk id terms party old.slots found → (o : Outcome) (core : Option C)
    → RestartCallsAt resumed fresh honest party id terms old o new core → IsNotRefused o
restarts_all {C} resumed fresh honest is_honest id terms party old new found ok o core h =
    comes_up found resumed fresh h.0 o core (rereads id terms party found honest is_honest old new h.0 ok h.1).0 h.2

-- an answer of the referee
pub answers_all : (honest : Type 0) (many : ℕ) (mid n : LinkView) (t : TakeOutcome) (o : Outcome)
    → IsNotRefusedByReferee t → AnswerCalls honest many mid t o n
    → IsNotRefused o
answers_all honest many mid n (takes.Answer to p) o h a = at (nat_lt to many) a
  where
    told : (answer : Result (Unit {0}) DeviceFault) → ComesTo (outcomes.Took (takes.Answer to p)) answer o
        → IsNotRefused o
    told (Ok u) e = named o (outcomes.Took (takes.Answer to p)) e tt
    told (Err x) e = link_failed o x e

    at : (b : Bool)
        → MatchBool b
        ((answer : Result (Unit {0}) DeviceFault) × Posts honest mid to p answer n
        × ComesTo (outcomes.Took (takes.Answer to p)) answer o)
        ((o ≡ outcomes.Took (takes.Answer to p)) × (n ≡ mid)) → IsNotRefused o
    at true k = told k.0 k.2
    at false k = named o (outcomes.Took (takes.Answer to p)) k.0 tt
answers_all honest many mid n takes.OtherMatch o h a = absurd h
answers_all honest many mid n takes.Ahead o h a = absurd h
answers_all honest many mid n takes.NotYourTurn o h a = absurd h
answers_all honest many mid n (takes.Illegal why) o h a = absurd h
answers_all honest many mid n takes.Nothing o h a = named o (outcomes.Took takes.Nothing) a.0 tt
answers_all honest many mid n takes.WordRefused o h a = named o (outcomes.Took takes.WordRefused) a.0 tt
answers_all honest many mid n takes.Memory o h a = named o (outcomes.Took takes.Memory) a.0 tt
answers_all honest many mid n (takes.Accepted k) o h a = named o (outcomes.Took (takes.Accepted k)) a.0 tt
