-- What happens at the process of a party is calls of processes in a world, if each event is.
use Rattle.std.proofs.Common.{◌≡◌, ◌∙◌, [], ◌∷◌, Option, Some, None, refl, sym, subst}
use Rattle.std.specs.Prelude.{MatchOption, ⊤}
use Rattle.bg_protocol.specs.Worlds.Interleavings.{AreSeenAs, NodeCalls, over_devices}
use Rattle.bg_protocol.specs.Worlds.Views.{KeeperView, LinkView, WorldView, parties}
use Rattle.bg_protocol.specs.declared.events.Event.{Event}
use Rattle.bg_protocol.specs.declared.events.Outcome.{Outcome}
use Rattle.bg_protocol.specs.declared.roles.Role.{Role}
use Rattle.bg_protocol.specs.declared.roles.Role.TheVariants as roles
use Rattle.bg_processes.specs.Instances.{IsInstance, IsSameParty, OthersStay}
use Rattle.bg_processes.specs.Rounds.{most_parties}

-- ---- event by event

-- one event at the process is one call of its party's node, over its own devices
pub record Steps {M : Type 0} (RunsParty : WorldView → M → Type 0) (own : Role) (w : WorldView) (event : Event)
    (outcome : Outcome) (new : M) : Type 0 where
  pub link : LinkView
  pub kept_r : KeeperView
  pub kept_x : KeeperView
  pub kept_o : KeeperView
  pub next : WorldView
  pub seen : AreSeenAs w link kept_r kept_x kept_o
  pub calls : NodeCalls ⊤ ⊤ (over_devices w link kept_r kept_x kept_o) event outcome next
  pub runs : RunsParty next new
  pub others : OthersStay own w next

same_party : (w : WorldView) (other : Role) → IsSameParty w w other
same_party w roles.Referee = (refl, refl)
same_party w (roles.Seat player) = (refl, refl)
same_party w (roles.Watcher index) = refl

same_twice : (a b c : WorldView) (other : Role) → IsSameParty a b other → IsSameParty b c other → IsSameParty a c other
same_twice a b c roles.Referee p q = (q.0 ∙ p.0, q.1 ∙ p.1)
same_twice a b c (roles.Seat player) p q = (q.0 ∙ p.0, q.1 ∙ p.1)
same_twice a b c (roles.Watcher index) p q = q ∙ p

module _ {M : Type 0} (Happens : M → Event → Outcome → M → Type 0) (RunsParty : WorldView → M → Type 0) (own : Role)
    (step : (w : WorldView) (old new : M) (event : Event) (outcome : Outcome) → parties w ≡ most_parties
    → RunsParty w old → Happens old event outcome new → Steps RunsParty own w event outcome new) where
  pub is_instance : IsInstance Happens RunsParty own
  is_instance w old new [] few runs h = (
    w,
    refl,
    subst (λ (m : M). RunsParty w m) (sym h) runs,
    record { id = refl; terms = refl; count = refl; others = λ other differs. same_party w other },
  )
  is_instance w old new (first ∷ rest) few runs h =
      let s = step w old h.0 first.0 first.1 few runs h.1 in
      let rest_of = is_instance s.next h.0 new rest ((s.others).count ∙ few) s.runs h.2 in (
        rest_of.0,
        (s.link, s.kept_r, s.kept_x, s.kept_o, s.next, s.seen, s.calls, rest_of.1),
        rest_of.2,
        record {
          id = (rest_of.3).id ∙ (s.others).id;
          terms = (rest_of.3).terms ∙ (s.others).terms;
          count = (rest_of.3).count ∙ (s.others).count;
          others = λ other differs.
              same_twice w s.next rest_of.0 other ((s.others).others other differs) ((rest_of.3).others other differs);
        },
      )

-- where each case leads to the same
pub by_core : {A : Type 0} {P : Type 0} {F : A → Type 0} {K : Type 0} (o : Option A) → (P → K) → ((a : A) → F a → K)
    → MatchOption o P F → K
by_core None p f h = p h
by_core (Some a) p f h = f a h
