-- Later lives of a match are steps of the one run.
use Rattle.std.specs.Prelude.{◌≡◌, ℕ, ◌+◌, zero, suc, List, [], ◌∷◌, ◌++◌, Option, Some, None, Result, Ok, Err, Bool, true, false, IfOk, MatchOption, MatchResult, nat_lt, slice_get, slice_set, ⊤}
use Rattle.std.specs.Bool.{MatchBool}
use Rattle.std.proofs.Common.{refl, sym, ap, ◌∙◌, inl, inr, append_assoc}
use Rattle.std.proofs.lemmas.List.Elements.{Contains-append_right}
use Rattle.bg_referee.specs.Referee.{RefereeView}
use Rattle.bg_referee.specs.declared.outcomes.TakeOutcome.{TakeOutcome}
use Rattle.bg_referee.specs.declared.outcomes.TakeOutcome.TheVariants as takes
use Rattle.bg_wire.specs.declared.packets.Datagram.{Datagram}
use Rattle.bg_wire.specs.declared.packets.Packet.{Packet}
use Rattle.bg_board.specs.declared.players.Player.TheVariants.{X, O}
use Rattle.bg_match.specs.declared.actions.Action.{Action}
use Rattle.bg_party.specs.Claims.{SeatChooses, SeatTicks, WatcherTicks}
use Rattle.bg_party.specs.Views.{SeatView, WatcherView, fresh_watcher}
use Rattle.bg_party.specs.declared.outcomes.ChooseFault.{ChooseFault}
use Rattle.bg_party.specs.declared.outcomes.Learned.{Learned}
use Rattle.bg_referee.specs.Dues.{RefereeDues}
use Rattle.bg_referee.specs.declared.outcomes.DueFault.{DueFault}
use Rattle.bg_wire.specs.Entries.Codes.{referee}
use Rattle.bg_protocol.specs.Devices.DeviceCalls.{Posts, Receives, datagram_of, link_outcome}
use Rattle.bg_protocol.specs.Devices.Honesty.{Sends}
use Rattle.bg_protocol.specs.Devices.LinkCalls.{AnswerCalls, ComesTo, FollowerTakeCalls, FollowerTickCalls, RefereeHandles, RefereeTakeCalls, RefereeTickCalls, SendCalls, to_referee}
use Rattle.bg_protocol.specs.Protocol.Datagrams.{WasSent}
use Rattle.bg_protocol.specs.Protocol.Roles.{role}
use Rattle.bg_protocol.specs.Worlds.Calls.{Calls, NoCalls, RestartCalls, SaveCalls, SeatTakes, TakeCalls, TickCalls, WatcherTakes}
use Rattle.bg_protocol.specs.Worlds.Views.{LinkView, WorldView, parties}
use Rattle.bg_protocol.specs.declared.devices.DeviceFault.{DeviceFault}
use Rattle.bg_protocol.specs.declared.events.Event.{Event}
use Rattle.bg_protocol.specs.declared.events.Event.TheVariants as events
use Rattle.bg_protocol.specs.declared.events.Outcome.{Outcome}
use Rattle.bg_protocol.specs.declared.events.Outcome.TheVariants as outcomes
use Rattle.bg_hosted.specs.Lives.{in_later_life}

module _ (before : List Datagram) where
  -- ---- the link, where what was sent before counts as sent
  abbrev later : LinkView → LinkView
  later l = record l { plan = None; sent = before ++ l.sent }

  still_sent : (sent : List Datagram) (party : ℕ) (hand : Result Packet Outcome) → IfOk hand (WasSent sent party) → IfOk hand (WasSent (before ++ sent) party)
  still_sent sent party (Ok p) h = (h.0, Contains-append_right before sent h.0 h.1, h.2)
  still_sent sent party (Err o) h = h

  receives : (old : LinkView) (party pick : ℕ) (hand : Result Packet Outcome) (new : LinkView) → Receives ⊤ old party pick hand new → Receives ⊤ (later old) party pick hand (later new)
  receives old party pick hand new r = record {
    takes = r.takes;
    sends = r.sends;
    plan = refl;
    is_hand = r.is_hand;
    cause = r.cause;
    same = λ h. ap (λ (l : List Datagram). before ++ l) (r.same h);
    was_sent = λ h. still_sent old.sent party hand (r.was_sent h);
    planned = tt;
    counted = tt;
  }

  behind : (old : List Datagram) (d : Datagram) (new : List Datagram) → new ≡ old ++ d ∷ [] → before ++ new ≡ (before ++ old) ++ d ∷ []
  behind old d new h = ap (λ (l : List Datagram). before ++ l) h ∙ sym (append_assoc before old (d ∷ []))

  sends : (old : List Datagram) (d : Datagram) (new : List Datagram) (answer : Result (Unit {0}) DeviceFault) → Sends old d new answer → Sends (before ++ old) d (before ++ new) answer
  sends old d new (Ok done) h = behind old d new h
  sends old d new (Err fault) (inl h) = inl (ap (λ (l : List Datagram). before ++ l) h)
  sends old d new (Err fault) (inr h) = inr (behind old d new h)

  posts : (old : LinkView) (to : ℕ) (p : Packet) (answer : Result (Unit {0}) DeviceFault) (new : LinkView) → Posts ⊤ old to p answer new → Posts ⊤ (later old) to p answer (later new)
  posts old to p answer new r = record {
    sends = r.sends;
    takes = r.takes;
    taken = r.taken;
    plan = refl;
    cause = r.cause;
    sent = λ h. sends old.sent (datagram_of to p) new.sent answer (r.sent h);
    planned = tt;
    counted = tt;
    fits = r.fits;
  }

  -- so many packets are sent
  send_calls : (parties count : ℕ) (old : LinkView) (packets : List (ℕ × Packet)) (result : Outcome) (new : LinkView) → SendCalls ⊤ parties count old packets result new → SendCalls ⊤ parties count (later old) packets result (later new)
  send_calls parties count old [] result new h = (h.0, ap later h.1)
  send_calls parties count old (packet ∷ packets) result new h =
      by_test (λ n mid k. send_calls parties n mid packets result new k) (nat_lt packet.0 parties) h
    where
      rest : (mid : LinkView) → (SendCalls ⊤ parties (count + 1) mid packets result new → SendCalls ⊤ parties (count + 1) (later mid) packets result (later new))
          → (answer : Result (Unit {0}) DeviceFault) → MatchResult answer (λ _. SendCalls ⊤ parties (count + 1) mid packets result new) (λ fault. (result ≡ link_outcome fault) × (new ≡ mid))
          → MatchResult answer (λ _. SendCalls ⊤ parties (count + 1) (later mid) packets result (later new)) (λ fault. (result ≡ link_outcome fault) × (later new ≡ later mid))
      rest mid again (Ok done) k = again k
      rest mid again (Err fault) k = (k.0, ap later k.1)

      by_test : ((n : ℕ) (mid : LinkView) → SendCalls ⊤ parties n mid packets result new → SendCalls ⊤ parties n (later mid) packets result (later new))
          → (b : Bool) → MatchBool b ((answer : Result (Unit {0}) DeviceFault) × (mid : LinkView) × Posts ⊤ old packet.0 packet.1 answer mid
          × MatchResult answer (λ _. SendCalls ⊤ parties (count + 1) mid packets result new) (λ fault. (result ≡ link_outcome fault) × (new ≡ mid))) (SendCalls ⊤ parties count old packets result new)
          → MatchBool b ((answer : Result (Unit {0}) DeviceFault) × (mid : LinkView) × Posts ⊤ (later old) packet.0 packet.1 answer mid
          × MatchResult answer (λ _. SendCalls ⊤ parties (count + 1) mid packets result (later new)) (λ fault. (result ≡ link_outcome fault) × (later new ≡ mid))) (SendCalls ⊤ parties count (later old) packets result (later new))
      by_test again true k = (k.0, later k.1, posts old packet.0 packet.1 k.0 k.1 k.2, rest k.1 (again (count + 1) k.1) k.0 k.3)
      by_test again false k = again count old k

  -- an answer is sent
  answer_calls : (parties : ℕ) (old : LinkView) (took : TakeOutcome) (result : Outcome) (new : LinkView) → AnswerCalls ⊤ parties old took result new → AnswerCalls ⊤ parties (later old) took result (later new)
  answer_calls parties old (takes.Answer to p) result new h = by_test (nat_lt to parties) h
    where
      by_test : (b : Bool) → MatchBool b ((answer : Result (Unit {0}) DeviceFault) × Posts ⊤ old to p answer new × ComesTo (outcomes.Took (takes.Answer to p)) answer result) ((result ≡ outcomes.Took (takes.Answer to p)) × (new ≡ old))
          → MatchBool b ((answer : Result (Unit {0}) DeviceFault) × Posts ⊤ (later old) to p answer (later new) × ComesTo (outcomes.Took (takes.Answer to p)) answer result) ((result ≡ outcomes.Took (takes.Answer to p)) × (later new ≡ later old))
      by_test true k = (k.0, posts old to p k.0 new k.1, k.2)
      by_test false k = (k.0, ap later k.1)
  answer_calls parties old takes.OtherMatch result new h = (h.0, ap later h.1)
  answer_calls parties old takes.Nothing result new h = (h.0, ap later h.1)
  answer_calls parties old takes.Ahead result new h = (h.0, ap later h.1)
  answer_calls parties old takes.NotYourTurn result new h = (h.0, ap later h.1)
  answer_calls parties old takes.WordRefused result new h = (h.0, ap later h.1)
  answer_calls parties old (takes.Illegal fault) result new h = (h.0, ap later h.1)
  answer_calls parties old takes.Memory result new h = (h.0, ap later h.1)
  answer_calls parties old (takes.Accepted n) result new h = (h.0, ap later h.1)

  handles : (parties : ℕ) (old : LinkView) (core : RefereeView) (word : ℕ) (hand : Result Packet Outcome) (result : Outcome) (new : LinkView) (after : RefereeView) → RefereeHandles ⊤ parties old core word hand result new after → RefereeHandles ⊤ parties (later old) core word hand result (later new) after
  handles parties old core word (Err why) result new after h = (h.0, ap later h.1, h.2)
  handles parties old core word (Ok p) result new after h = (h.0, h.1, answer_calls parties old h.0 result new h.2)

  -- ---- the world

  abbrev life : WorldView → WorldView
  life w = in_later_life before w

  referee_takes : (old : WorldView) (core : Option RefereeView) (pick word : ℕ) (result : Outcome) (new : WorldView)
      → MatchOption core (NoCalls outcomes.Down old result new) (λ core. (link : LinkView) × (after : RefereeView) × RefereeTakeCalls ⊤ (parties old) old.link core pick word result link after × (new ≡ record old { link = link; referee = Some after }))
      → MatchOption core (NoCalls outcomes.Down (life old) result (life new)) (λ core. (link : LinkView) × (after : RefereeView) × RefereeTakeCalls ⊤ (parties old) (later old.link) core pick word result link after × (life new ≡ record (life old) { link = link; referee = Some after }))
  referee_takes old None pick word result new h = (h.0, ap life h.1)
  referee_takes old (Some core) pick word result new h =
      let k = h.2 in
      (later h.0, h.1, (k.0, later k.1, receives old.link referee pick k.0 k.1 k.2, handles (parties old) k.1 core word k.0 result h.0 h.1 k.3), ap life h.3)

  referee_ticks : (old : WorldView) (core : Option RefereeView) (result : Outcome) (new : WorldView)
      → MatchOption core (NoCalls outcomes.Down old result new) (λ core. (link : LinkView) × (after : RefereeView) × RefereeTickCalls ⊤ (parties old) old.link core result link after × (new ≡ record old { link = link; referee = Some after }))
      → MatchOption core (NoCalls outcomes.Down (life old) result (life new)) (λ core. (link : LinkView) × (after : RefereeView) × RefereeTickCalls ⊤ (parties old) (later old.link) core result link after × (life new ≡ record (life old) { link = link; referee = Some after }))
  referee_ticks old None result new h = (h.0, ap life h.1)
  referee_ticks old (Some core) result new h =
      let k = h.2 in
      (later h.0, h.1, (k.0, k.1, send_calls (parties old) 0 old.link k.0 result h.0 k.2), ap life h.3)

  -- a seat or a watcher, whose core is put back with the link
  follower_takes : (C : Type 0) (CoreTakes : C → Packet → Learned → C → Type 0) (old : WorldView) (put put_later : LinkView → C → WorldView) → ((l : LinkView) (core : C) → life (put l core) ≡ put_later (later l) core)
      → (missing : Outcome) (core : Option C) (party pick : ℕ) (result : Outcome) (new : WorldView)
      → MatchOption core (NoCalls missing old result new) (λ core. (link : LinkView) × (after : C) × FollowerTakeCalls CoreTakes ⊤ party old.link core pick result link after × (new ≡ put link after))
      → MatchOption core (NoCalls missing (life old) result (life new)) (λ core. (link : LinkView) × (after : C) × FollowerTakeCalls CoreTakes ⊤ party (later old.link) core pick result link after × (life new ≡ put_later link after))
  follower_takes C CoreTakes old put put_later same missing None party pick result new h = (h.0, ap life h.1)
  follower_takes C CoreTakes old put put_later same missing (Some core) party pick result new h =
      let k = h.2 in
      (later h.0, h.1, (k.0, receives old.link party pick k.0 h.0 k.1, k.2), ap life h.3 ∙ same h.0 h.1)

  follower_ticks : (C : Type 0) (CoreTicks : C → Option Packet → C → Type 0) (old : WorldView) (put put_later : LinkView → C → WorldView) → ((l : LinkView) (core : C) → life (put l core) ≡ put_later (later l) core)
      → (missing : Outcome) (core : Option C) (result : Outcome) (new : WorldView)
      → MatchOption core (NoCalls missing old result new) (λ core. (link : LinkView) × (after : C) × FollowerTickCalls CoreTicks ⊤ (parties old) old.link core result link after × (new ≡ put link after))
      → MatchOption core (NoCalls missing (life old) result (life new)) (λ core. (link : LinkView) × (after : C) × FollowerTickCalls CoreTicks ⊤ (parties old) (later old.link) core result link after × (life new ≡ put_later link after))
  follower_ticks C CoreTicks old put put_later same missing None result new h = (h.0, ap life h.1)
  follower_ticks C CoreTicks old put put_later same missing (Some core) result new h =
      let k = h.2 in
      (later h.0, h.1, (k.0, k.1, send_calls (parties old) 0 old.link (to_referee k.0) result h.0 k.2), ap life h.3 ∙ same h.0 h.1)

  takes_too : (old : WorldView) (party pick word : ℕ) (result : Outcome) (new : WorldView) → TakeCalls ⊤ old (role party) party pick word result new → TakeCalls ⊤ (life old) (role party) party pick word result (life new)
  takes_too old zero pick word result new h = referee_takes old old.referee pick word result new h
  takes_too old (suc zero) pick word result new h =
      follower_takes SeatView SeatTakes old (λ l core. record old { link = l; x = Some core }) (λ l core. record (life old) { link = l; x = Some core }) (λ l core. refl) outcomes.Down old.x 1 pick result new h
  takes_too old (suc (suc zero)) pick word result new h =
      follower_takes SeatView SeatTakes old (λ l core. record old { link = l; o = Some core }) (λ l core. record (life old) { link = l; o = Some core }) (λ l core. refl) outcomes.Down old.o 2 pick result new h
  takes_too old (suc (suc (suc i))) pick word result new h =
      follower_takes WatcherView WatcherTakes old (λ l core. record old { link = l; watchers = slice_set old.watchers i core }) (λ l core. record (life old) { link = l; watchers = slice_set old.watchers i core }) (λ l core. refl) outcomes.NoSuchParty (slice_get old.watchers i) (suc (suc (suc i))) pick result new h

  ticks_too : (old : WorldView) (party : ℕ) (result : Outcome) (new : WorldView) → TickCalls ⊤ old (role party) result new → TickCalls ⊤ (life old) (role party) result (life new)
  ticks_too old zero result new h = referee_ticks old old.referee result new h
  ticks_too old (suc zero) result new h =
      follower_ticks SeatView SeatTicks old (λ l core. record old { link = l; x = Some core }) (λ l core. record (life old) { link = l; x = Some core }) (λ l core. refl) outcomes.Down old.x result new h
  ticks_too old (suc (suc zero)) result new h =
      follower_ticks SeatView SeatTicks old (λ l core. record old { link = l; o = Some core }) (λ l core. record (life old) { link = l; o = Some core }) (λ l core. refl) outcomes.Down old.o result new h
  ticks_too old (suc (suc (suc i))) result new h =
      follower_ticks WatcherView WatcherTicks old (λ l core. record old { link = l; watchers = slice_set old.watchers i core }) (λ l core. record (life old) { link = l; watchers = slice_set old.watchers i core }) (λ l core. refl) outcomes.NoSuchParty (slice_get old.watchers i) result new h

  saves_too : (old : WorldView) (party : ℕ) (result : Outcome) (new : WorldView) → SaveCalls ⊤ old (role party) result new → SaveCalls ⊤ (life old) (role party) result (life new)
  saves_too old zero result new h = (h.0, h.1, h.2, ap life h.3)
  saves_too old (suc zero) result new h = (h.0, h.1, h.2, ap life h.3)
  saves_too old (suc (suc zero)) result new h = (h.0, h.1, h.2, ap life h.3)
  saves_too old (suc (suc (suc i))) result new h = (h.0, ap life h.1)

  restarts_too : (old : WorldView) (party : ℕ) (result : Outcome) (new : WorldView) → RestartCalls ⊤ old (role party) party result new → RestartCalls ⊤ (life old) (role party) party result (life new)
  restarts_too old zero result new h = (h.0, h.1, h.2, ap life h.3)
  restarts_too old (suc zero) result new h = (h.0, h.1, h.2, ap life h.3)
  restarts_too old (suc (suc zero)) result new h = (h.0, h.1, h.2, ap life h.3)
  restarts_too old (suc (suc (suc i))) result new h = of_watcher (slice_get old.watchers i) h
    where
      of_watcher : (core : Option WatcherView) → MatchOption core (NoCalls outcomes.NoSuchParty old result new) (λ core. (result ≡ outcomes.Restarted) × (new ≡ record old { watchers = slice_set old.watchers i (fresh_watcher (suc (suc (suc i))) old.id old.terms) }))
          → MatchOption core (NoCalls outcomes.NoSuchParty (life old) result (life new)) (λ core. (result ≡ outcomes.Restarted) × (life new ≡ record (life old) { watchers = slice_set old.watchers i (fresh_watcher (suc (suc (suc i))) old.id old.terms) }))
      of_watcher None k = (k.0, ap life k.1)
      of_watcher (Some core) k = (k.0, ap life k.1)

  due_too : (old : WorldView) (core : Option RefereeView) (word : ℕ) (result : Outcome) (new : WorldView)
      → MatchOption core (NoCalls outcomes.Down old result new) (λ core. (answer : Result ℕ DueFault) × (after : RefereeView) × RefereeDues core word answer after × (result ≡ outcomes.Due answer) × (new ≡ record old { referee = Some after }))
      → MatchOption core (NoCalls outcomes.Down (life old) result (life new)) (λ core. (answer : Result ℕ DueFault) × (after : RefereeView) × RefereeDues core word answer after × (result ≡ outcomes.Due answer) × (life new ≡ record (life old) { referee = Some after }))
  due_too old None word result new h = (h.0, ap life h.1)
  due_too old (Some core) word result new h = (h.0, h.1, h.2, h.3, ap life h.4)

  chooses_too : (old : WorldView) (put put_later : SeatView → WorldView) → ((core : SeatView) → life (put core) ≡ put_later core) → (core : Option SeatView) (action : Action) (result : Outcome) (new : WorldView)
      → MatchOption core (NoCalls outcomes.Down old result new) (λ core. (answer : Result ℕ ChooseFault) × (after : SeatView) × SeatChooses core action answer after × (result ≡ outcomes.Chose answer) × (new ≡ put after))
      → MatchOption core (NoCalls outcomes.Down (life old) result (life new)) (λ core. (answer : Result ℕ ChooseFault) × (after : SeatView) × SeatChooses core action answer after × (result ≡ outcomes.Chose answer) × (life new ≡ put_later after))
  chooses_too old put put_later same None action result new h = (h.0, ap life h.1)
  chooses_too old put put_later same (Some core) action result new h = (h.0, h.1, h.2, h.3, ap life h.4 ∙ same h.1)

  pub calls_too : (old : WorldView) (event : Event) (result : Outcome) (new : WorldView) → Calls ⊤ ⊤ old event result new → Calls ⊤ ⊤ (life old) event result (life new)
  calls_too old (events.Due word) result new h = due_too old old.referee word result new h
  calls_too old (events.Take party pick word) result new h = takes_too old party pick word result new h
  calls_too old (events.Choose X action) result new h = chooses_too old (λ core. record old { x = Some core }) (λ core. record (life old) { x = Some core }) (λ core. refl) old.x action result new h
  calls_too old (events.Choose O action) result new h = chooses_too old (λ core. record old { o = Some core }) (λ core. record (life old) { o = Some core }) (λ core. refl) old.o action result new h
  calls_too old (events.Save party) result new h = saves_too old party result new h
  calls_too old (events.Tick party) result new h = ticks_too old party result new h
  calls_too old (events.Restart party) result new h = restarts_too old party result new h
