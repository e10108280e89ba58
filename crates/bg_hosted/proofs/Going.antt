-- What goes on, goes on further.
use Rattle.std.proofs.Common.{◌≡◌, ℕ, List, [], ◌∷◌, ◌++◌, refl, subst}
use Rattle.std.specs.List.{AllByRecursion}
use Rattle.bg_protocol.specs.Worlds.Calls.{Calls}
use Rattle.bg_protocol.specs.Worlds.Views.{WorldView}
use Rattle.bg_protocol.specs.Worlds.WorldRuns.{CallsAll}
use Rattle.bg_protocol.specs.declared.events.Event.{Event}
use Rattle.bg_protocol.specs.declared.events.Outcome.{Outcome}
use Rattle.bg_protocol.specs.declared.events.Event.TheVariants as events
use Rattle.bg_hosted.specs.Going.{GoesOn, IsNoChoice}
use Rattle.bg_hosted.specs.Lives.{Restarts}

-- nothing happens
pub stays : (k : Type 0) (w v : WorldView) → v ≡ w → GoesOn k w v
stays k w v same = record { events = []; outcomes = []; none_chosen = tt; calls = same }

-- one event happens
pub goes_by : (k : Type 0) (old : WorldView) (event : Event) (outcome : Outcome) (new : WorldView) → IsNoChoice event
    → Calls (Unit {0}) k old event outcome new → GoesOn k old new
goes_by k old event outcome new none calls = record {
  events = event ∷ [];
  outcomes = outcome ∷ [];
  none_chosen = (none, tt);
  calls = (new, calls, refl);
}

-- a party restarts
pub goes_by_restart : (k : Type 0) (old : WorldView) (party : ℕ) (new : WorldView) → Restarts k old party new → GoesOn k old new
goes_by_restart k old party new restarts = goes_by k old (events.Restart party) restarts.0 new tt restarts.1

all_behind : (P : Event → Type 0) (xs ys : List Event) → AllByRecursion P xs → AllByRecursion P ys → AllByRecursion P (xs ++ ys)
all_behind P [] ys h k = k
all_behind P (x ∷ xs) ys h k = (h.0, all_behind P xs ys h.1 k)

calls_behind : (k : Type 0) (events more : List Event) (outcomes others : List Outcome) (a b c : WorldView)
    → CallsAll (Unit {0}) k a events outcomes b → CallsAll (Unit {0}) k b more others c
    → CallsAll (Unit {0}) k a (events ++ more) (outcomes ++ others) c
calls_behind k [] more [] others a b c same calls = subst (λ (w : WorldView). CallsAll (Unit {0}) k w more others c) same calls
calls_behind k [] more (o ∷ outcomes) others a b c none calls = absurd none
calls_behind k (e ∷ events) more [] others a b c none calls = absurd none
calls_behind k (e ∷ events) more (o ∷ outcomes) others a b c first calls =
    (first.0, first.1, calls_behind k events more outcomes others first.0 b c first.2 calls)

-- one after the other
pub goes_further : (k : Type 0) (a b c : WorldView) → GoesOn k a b → GoesOn k b c → GoesOn k a c
goes_further k a b c first then = record {
  events = first.events ++ then.events;
  outcomes = first.outcomes ++ then.outcomes;
  none_chosen = all_behind IsNoChoice first.events then.events first.none_chosen then.none_chosen;
  calls = calls_behind k first.events then.events first.outcomes then.outcomes a b c first.calls then.calls;
}
