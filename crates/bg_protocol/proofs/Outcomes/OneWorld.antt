-- Over honest devices with known plans an event comes to one outcome between the same two worlds,
-- want of memory aside.
use Rattle.std.specs.Prelude.{◌≡◌, ◌≢◌, ℕ, zero, suc, [], ◌∷◌, true, false, Option, Some, None, IfSome, IsSome, List, slice_get, slice_set}
use Rattle.std.specs.Prelude.{Result, Ok, Err, MatchOption}
use Rattle.std.proofs.Common.{refl, sym, ◌∙◌, ap, subst}
use Rattle.std.proofs.lemmas.Option.{same_Some}
use Rattle.arrayvec.specs.ArrayVec.{ArrayVec}
use Rattle.bg_board.specs.declared.players.Player.{Player}
use Rattle.bg_board.specs.declared.players.Player.TheVariants.{X, O}
use Rattle.bg_match.specs.Match.{IsLegalRecord, Log}
use Rattle.bg_match.proofs.Legal.{legal_fronts}
use Rattle.bg_wire.specs.Entries.Codes.{referee}
use Rattle.bg_wire.specs.Parties.{party_of}
use Rattle.bg_wire.specs.declared.packets.Packet.{Packet}
use Rattle.bg_referee.specs.Referee.{RefereeView, fresh_referee, resumed_referee}
use Rattle.bg_referee.specs.Takes.{RefereeTakes}
use Rattle.bg_referee.specs.declared.outcomes.TakeOutcome.{TakeOutcome}
use Rattle.bg_party.specs.Claims.{SeatTicks, WatcherTicks}
use Rattle.bg_party.specs.Takes.{FollowerTakes}
use Rattle.bg_party.specs.Views.{FollowerView, SeatView, WatcherView, fresh_seat, fresh_watcher, resumed_seat}
use Rattle.bg_party.specs.declared.outcomes.Learned.{Learned}
use Rattle.bg_party.proofs.OneLesson.{teaches_one_thing}
use Rattle.bg_protocol.specs.Worlds.Calls.{NoCalls, RestartCalls, SeatTakes, TakeCalls, TickCalls, WatcherTakes}
use Rattle.bg_protocol.specs.Devices.DeviceCalls.{Receives}
use Rattle.bg_protocol.specs.Devices.Honesty.{CountsFailed}
use Rattle.bg_protocol.specs.Devices.Handed.{handed}
use Rattle.bg_protocol.specs.Devices.KeeperCalls.{RestartCallsAt}
use Rattle.bg_protocol.specs.Devices.LinkCalls.{AnswerCalls, FollowerHandles, FollowerTakeCalls, FollowerTickCalls, RefereeHandles}
use Rattle.bg_protocol.specs.Devices.LinkCalls.{RefereeTakeCalls, RefereeTickCalls, SendCalls, to_referee}
use Rattle.bg_protocol.specs.Protocol.Roles.{role}
use Rattle.bg_protocol.specs.Worlds.Starts.{held_of, seat_log, watcher_log}
use Rattle.bg_protocol.specs.Worlds.Views.{KeeperView, LinkView, WorldView, parties, seat_core, seat_keeper, with_seat_core}
use Rattle.bg_protocol.specs.Worlds.WorldLaws.{ArePlansKnown, ComeToOneList, ComeToOneOutcome}
use Rattle.bg_protocol.specs.Worlds.WorldRuns.{is_memory}
use Rattle.bg_protocol.specs.Worlds.WorldState.{IsReachedWorld, protocol_state}
use Rattle.bg_protocol.specs.declared.devices.DeviceFault.{DeviceFault}
use Rattle.bg_protocol.specs.declared.events.Event.TheVariants as events
use Rattle.bg_protocol.specs.declared.events.Outcome.{Outcome}
use Rattle.bg_protocol.specs.declared.events.Outcome.TheVariants as outcomes
use Rattle.bg_protocol.specs.declared.devices.plans.FailSend.{FailSend}
use Rattle.bg_protocol.specs.declared.roles.Role.{Role}
use Rattle.bg_protocol.specs.declared.roles.Role.TheVariants as roles
use Rattle.bg_protocol.proofs.Outcomes.OneOutcome.{choose_fixed, core_left, core_there, due_fixed, keeper_there, save_fixed}
use Rattle.bg_protocol.proofs.Outcomes.OneRestart.{one_restart}
use Rattle.bg_protocol.proofs.Outcomes.OneSend.{link_same, sends_alike}
use Rattle.bg_protocol.proofs.Outcomes.OneTake.{answers_sent, one_hand, one_reply, pushes_alike}
use Rattle.bg_protocol.proofs.Protocol.Reached.{headline, reached}
use Rattle.bg_protocol.proofs.ReachedWorlds.Upheld.{held_entries, held_match}

the : {A : Type 0} (x : Option A) → IsSome x → (value : A) × (x ≡ Some value)
the None h = absurd cc
the (Some value) h = (value, refl)

-- each record that a party of a reached world holds is legal
legal_held : (w : WorldView) → IsReachedWorld w → (party : ℕ) (log : Log) → held_of w (role party) ≡ Some log
    → IsLegalRecord log.terms log.entries
legal_held w world party log h =
    let c = world.restorable in
    let head = headline (protocol_state w c) (reached (protocol_state w c) world.reached) in
    let front = head.prefix party log.entries (held_entries (role party) w c log h) in
    subst (λ t. IsLegalRecord t log.entries) (sym (held_match w c world.cores (role party) log h).1)
    (legal_fronts w.terms log.entries front.0 (subst (IsLegalRecord w.terms) (sym front.1) head.legal))

not_memory : (o : Outcome) → is_memory o ≡ false → o ≢ outcomes.Memory
not_memory o h same = let bad : true ≡ false = ap is_memory (sym same) ∙ h in absurd cc

-- ---- what is in hand

module _ (honest : Type 0) (is_honest : honest) (plan : List FailSend) where
  receives_alike : (old : LinkView) (party pick : ℕ) (a b : Result Packet Outcome) (m n : LinkView)
      → old.plan ≡ Some plan → Receives honest old party pick a m → Receives honest old party pick b n → m ≡ n
  receives_alike old party pick a b m n known h k =
      let gives : LinkView → Option (List FailSend) → Type 0 =
      λ v q. IfSome q (λ _. v.taken ≡ Ok (handed old.sent party pick)) in
      let counts : LinkView → Option (List FailSend) → Type 0 =
      λ v q. IfSome q (λ _. CountsFailed old.faults v.faults v.taken) in
      let one : m.taken ≡ Ok (handed old.sent party pick) = subst (gives m) known h.planned in
      let two : n.taken ≡ Ok (handed old.sent party pick) = subst (gives n) known k.planned in
      let of_one : m.faults ≡ old.faults =
      subst (λ (r : Result (Option (ArrayVec ℕ)) DeviceFault). CountsFailed old.faults m.faults r) one
      (subst (counts m) known h.counted) in
      let of_two : n.faults ≡ old.faults =
      subst (λ (r : Result (Option (ArrayVec ℕ)) DeviceFault). CountsFailed old.faults n.faults r) two
      (subst (counts n) known k.counted) in
      link_same m n (h.plan ∙ sym k.plan) (h.same is_honest ∙ sym (k.same is_honest)) (of_one ∙ sym of_two)
      (h.takes ∙ sym k.takes) (h.sends ∙ sym k.sends) (one ∙ sym two)

  handles_alike : (many : ℕ) (mid : LinkView) (core after : RefereeView) (word : ℕ) (x y : Result Packet Outcome)
      (a b : Outcome) (new : LinkView) → mid.plan ≡ Some plan → x ≡ y
      → RefereeHandles honest many mid core word x a new after
      → RefereeHandles honest many mid core word y b new after → a ≡ b
  handles_alike many mid core after word (Ok p) (Ok q) a b new known same h k =
      let packet : q ≡ p = cc in
      let took : k.0 ≡ h.0 =
      one_reply core after p word k.0 h.0 (subst (λ (x : Packet). RefereeTakes core x word k.0 after) packet k.1) h.1 in
      answers_sent honest plan many mid h.0 a b new known h.2
      (subst (λ (t : TakeOutcome). AnswerCalls honest many mid t b new) took k.2)
  handles_alike many mid core after word (Ok p) (Err o) a b new known same h k = absurd cc
  handles_alike many mid core after word (Err o) (Ok p) a b new known same h k = absurd cc
  handles_alike many mid core after word (Err o) (Err u) a b new known same h k =
      let why : o ≡ u = cc in h.0 ∙ why ∙ sym k.0

  referee_takes : (many : ℕ) (old : LinkView) (core after : RefereeView) (pick word : ℕ) (a b : Outcome)
      (new : LinkView) → old.plan ≡ Some plan → RefereeTakeCalls honest many old core pick word a new after
      → RefereeTakeCalls honest many old core pick word b new after → a ≡ b
  referee_takes many old core after pick word a b new known h k =
      let mids : k.1 ≡ h.1 = receives_alike old referee pick k.0 h.0 k.1 h.1 known k.2 h.2 in
      let hands : h.0 ≡ k.0 =
      one_hand (h.1).taken h.0 k.0 (h.2).is_hand
      (subst (λ (v : LinkView). Receives honest old referee pick k.0 v) mids k.2).is_hand in
      handles_alike many h.1 core after word h.0 k.0 a b new ((h.2).plan ∙ known) hands h.3
      (subst (λ (v : LinkView). RefereeHandles honest many v core word k.0 b new after) mids k.3)

-- ---- a follower takes

module _ {C : Type 0} (CoreTakes : C → Packet → Learned → C → Type 0) (follower : C → FollowerView)
    (takes : (core : C) (p : Packet) (l : Learned) (after : C) → CoreTakes core p l after
    → FollowerTakes (follower core) p l (follower after))
    (core after : C) (legal : IsLegalRecord (follower core).log.terms (follower core).log.entries) where
  hears_alike : (x y : Result Packet Outcome) (a b : Outcome) → x ≡ y → is_memory a ≡ false → is_memory b ≡ false
      → FollowerHandles CoreTakes core x a after → FollowerHandles CoreTakes core y b after → a ≡ b
  hears_alike (Ok p) (Ok q) a b same m n h k =
      let packet : q ≡ p = cc in
      let learned : h.0 ≡ k.0 =
      teaches_one_thing (follower core) p h.0 k.0 legal (takes core p h.0 after h.1).learns
      (takes core p k.0 after (subst (λ (x : Packet). CoreTakes core x k.0 after) packet k.1)).learns
      (λ e. let bad : true ≡ false = sym (ap is_memory (h.2 ∙ ap outcomes.Learned e)) ∙ m in absurd cc)
      (λ e. let bad : true ≡ false = sym (ap is_memory (k.2 ∙ ap outcomes.Learned e)) ∙ n in absurd cc) in
      h.2 ∙ ap outcomes.Learned learned ∙ sym k.2
  hears_alike (Ok p) (Err o) a b same m n h k = absurd cc
  hears_alike (Err o) (Ok p) a b same m n h k = absurd cc
  hears_alike (Err o) (Err u) a b same m n h k = let why : o ≡ u = cc in h.0 ∙ why ∙ sym k.0

  follower_takes : (honest : Type 0) (party pick : ℕ) (old new : LinkView) (a b : Outcome) → is_memory a ≡ false
      → is_memory b ≡ false → FollowerTakeCalls CoreTakes honest party old core pick a new after
      → FollowerTakeCalls CoreTakes honest party old core pick b new after → a ≡ b
  follower_takes honest party pick old new a b m n h k =
      hears_alike h.0 k.0 a b (one_hand new.taken h.0 k.0 (h.1).is_hand (k.1).is_hand) m n h.2 k.2

-- ---- each event

seat_held : (w : WorldView) (q : Player) (s : SeatView) → seat_core w q ≡ Some s
    → held_of w (role (party_of q)) ≡ Some s.follower.log
seat_held w X s is = ap seat_log is
seat_held w O s is = ap seat_log is

watcher_held : (w : WorldView) (party i : ℕ) (f : WatcherView) → role party ≡ roles.Watcher i
    → slice_get w.watchers i ≡ Some f → held_of w (role party) ≡ Some f.follower.log
watcher_held w party i f is up = ap (held_of w) is ∙ ap watcher_log up

link_there : (w : WorldView) (q : Player) (s : Option SeatView) → (with_seat_core w q s).link ≡ w.link
link_there w X s = refl
link_there w O s = refl

set_get : (xs : List WatcherView) (i : ℕ) (f g : WatcherView) → slice_get xs i ≡ Some f
    → slice_get (slice_set xs i g) i ≡ Some g
set_get [] i f g is = absurd cc
set_get (x ∷ xs) zero f g is = refl
set_get (x ∷ xs) (suc i) f g is = set_get xs i f g is

-- what was set in the same place of a list is the same where the lists are
same_set : (xs : List WatcherView) (i : ℕ) (f a b : WatcherView) → slice_get xs i ≡ Some f
    → slice_set xs i a ≡ slice_set xs i b → a ≡ b
same_set xs i f a b is same =
    same_Some a b (sym (set_get xs i f a is) ∙ ap (λ (l : List WatcherView). slice_get l i) same ∙ set_get xs i f b is)

module _ (lh kh : Type 0) (link_honest : lh) (keepers_honest : kh) (old : WorldView) (world : IsReachedWorld old)
    (plans : ArePlansKnown old) where
  link_plan : (plan : List FailSend) × (old.link.plan ≡ Some plan)
  link_plan = the old.link.plan plans.link

  take_fixed : (party pick word : ℕ) (r : Role) (a b : Outcome) (new : WorldView) → role party ≡ r
      → is_memory a ≡ false → is_memory b ≡ false → TakeCalls lh old r party pick word a new
      → TakeCalls lh old r party pick word b new → a ≡ b
  take_fixed party pick word roles.Referee a b new is m n h k = at old.referee h k
    where
      at : (core : Option RefereeView) → MatchOption core (NoCalls outcomes.Down old a new)
          (λ core. (link : LinkView) × (after : RefereeView)
          × RefereeTakeCalls lh (parties old) old.link core pick word a link after
          × (new ≡ record old { link = link; referee = Some after }))
          → MatchOption core (NoCalls outcomes.Down old b new)
          (λ core. (link : LinkView) × (after : RefereeView)
          × RefereeTakeCalls lh (parties old) old.link core pick word b link after
          × (new ≡ record old { link = link; referee = Some after })) → a ≡ b
      at None x y = x.0 ∙ sym y.0
      at (Some core) x y =
          let links : y.0 ≡ x.0 = ap (λ (w : WorldView). w.link) (sym y.3 ∙ x.3) in
          let cores : y.1 ≡ x.1 = same_Some y.1 x.1 (ap (λ (w : WorldView). w.referee) (sym y.3 ∙ x.3)) in
          referee_takes lh link_honest link_plan.0 (parties old) old.link core x.1 pick word a b x.0 link_plan.1 x.2
          (subst (λ (v : LinkView). RefereeTakeCalls lh (parties old) old.link core pick word b v x.1) links
          (subst (λ (c : RefereeView). RefereeTakeCalls lh (parties old) old.link core pick word b y.0 c) cores y.2))
  take_fixed party pick word (roles.Seat q) a b new is m n h k = at (seat_core old q) refl h k
    where
      at : (core : Option SeatView) → seat_core old q ≡ core → MatchOption core (NoCalls outcomes.Down old a new)
          (λ core. (link : LinkView) × (after : SeatView)
          × FollowerTakeCalls SeatTakes lh party old.link core pick a link after
          × (new ≡ with_seat_core (record old { link = link }) q (Some after)))
          → MatchOption core (NoCalls outcomes.Down old b new)
          (λ core. (link : LinkView) × (after : SeatView)
          × FollowerTakeCalls SeatTakes lh party old.link core pick b link after
          × (new ≡ with_seat_core (record old { link = link }) q (Some after))) → a ≡ b
      at None up x y = x.0 ∙ sym y.0
      at (Some core) up x y =
          let worlds = sym y.3 ∙ x.3 in
          let links : y.0 ≡ x.0 =
          sym (link_there (record old { link = y.0 }) q (Some y.1)) ∙ ap (λ (w : WorldView). w.link) worlds
          ∙ link_there (record old { link = x.0 }) q (Some x.1) in
          let cores : y.1 ≡ x.1 = same_Some y.1 x.1 (
          sym (core_there (record old { link = y.0 }) q (Some y.1)) ∙ ap (λ (w : WorldView). seat_core w q) worlds
          ∙ core_there (record old { link = x.0 }) q (Some x.1)
          ) in
          follower_takes SeatTakes (λ (s : SeatView). s.follower) (λ c p l d t. t.takes) core x.1
          (legal_held old world (party_of q) core.follower.log (seat_held old q core up)) lh party pick old.link x.0 a b
          m n x.2 (subst (λ (v : LinkView). FollowerTakeCalls SeatTakes lh party old.link core pick b v x.1) links
          (subst (λ (c : SeatView). FollowerTakeCalls SeatTakes lh party old.link core pick b y.0 c) cores y.2))
  take_fixed party pick word (roles.Watcher i) a b new is m n h k = at (slice_get old.watchers i) refl h k
    where
      at : (core : Option WatcherView) → slice_get old.watchers i ≡ core
          → MatchOption core (NoCalls outcomes.NoSuchParty old a new)
          (λ core. (link : LinkView) × (after : WatcherView)
          × FollowerTakeCalls WatcherTakes lh party old.link core pick a link after
          × (new ≡ record old { link = link; watchers = slice_set old.watchers i after }))
          → MatchOption core (NoCalls outcomes.NoSuchParty old b new)
          (λ core. (link : LinkView) × (after : WatcherView)
          × FollowerTakeCalls WatcherTakes lh party old.link core pick b link after
          × (new ≡ record old { link = link; watchers = slice_set old.watchers i after })) → a ≡ b
      at None up x y = x.0 ∙ sym y.0
      at (Some core) up x y =
          let worlds = sym y.3 ∙ x.3 in
          let links : y.0 ≡ x.0 = ap (λ (w : WorldView). w.link) worlds in
          let cores : y.1 ≡ x.1 = same_set old.watchers i core y.1 x.1 up (ap (λ (w : WorldView). w.watchers) worlds) in
          follower_takes WatcherTakes (λ (s : WatcherView). s.follower) (λ c p l d t. t.takes) core x.1
          (legal_held old world party core.follower.log (watcher_held old party i core is up)) lh party pick old.link
          x.0 a b m n x.2 (subst (λ (v : LinkView). FollowerTakeCalls WatcherTakes lh party old.link core pick b v x.1)
          links (subst (λ (c : WatcherView). FollowerTakeCalls WatcherTakes lh party old.link core pick b y.0 c) cores
          y.2))

  tick_fixed : (r : Role) (a b : Outcome) (new : WorldView) → TickCalls lh old r a new → TickCalls lh old r b new
      → a ≡ b
  tick_fixed roles.Referee a b new h k = at old.referee h k
    where
      at : (core : Option RefereeView) → MatchOption core (NoCalls outcomes.Down old a new)
          (λ core. (link : LinkView) × (after : RefereeView)
          × RefereeTickCalls lh (parties old) old.link core a link after
          × (new ≡ record old { link = link; referee = Some after }))
          → MatchOption core (NoCalls outcomes.Down old b new)
          (λ core. (link : LinkView) × (after : RefereeView)
          × RefereeTickCalls lh (parties old) old.link core b link after
          × (new ≡ record old { link = link; referee = Some after })) → a ≡ b
      at None x y = x.0 ∙ sym y.0
      at (Some core) x y =
          let links : y.0 ≡ x.0 = ap (λ (w : WorldView). w.link) (sym y.3 ∙ x.3) in
          let packets : y.2.0 ≡ x.2.0 = pushes_alike core _ y.2.0 x.2.0 (y.2.1).pushes (x.2.1).pushes in
          sends_alike lh link_plan.0 (parties old) 0 old.link x.2.0 a b x.0 link_plan.1 x.2.2
          (subst (λ (v : LinkView). SendCalls lh (parties old) 0 old.link x.2.0 b v) links
          (subst (λ (l : List (ℕ × Packet)). SendCalls lh (parties old) 0 old.link l b y.0) packets y.2.2))
  tick_fixed (roles.Seat q) a b new h k = at (seat_core old q) h k
    where
      at : (core : Option SeatView) → MatchOption core (NoCalls outcomes.Down old a new)
          (λ core. (link : LinkView) × (after : SeatView)
          × FollowerTickCalls SeatTicks lh (parties old) old.link core a link after
          × (new ≡ with_seat_core (record old { link = link }) q (Some after)))
          → MatchOption core (NoCalls outcomes.Down old b new)
          (λ core. (link : LinkView) × (after : SeatView)
          × FollowerTickCalls SeatTicks lh (parties old) old.link core b link after
          × (new ≡ with_seat_core (record old { link = link }) q (Some after))) → a ≡ b
      at None x y = x.0 ∙ sym y.0
      at (Some core) x y =
          let links : y.0 ≡ x.0 =
          sym (link_there (record old { link = y.0 }) q (Some y.1)) ∙ ap (λ (w : WorldView). w.link) (sym y.3 ∙ x.3)
          ∙ link_there (record old { link = x.0 }) q (Some x.1) in
          let packets : y.2.0 ≡ x.2.0 = (y.2.1).packet ∙ sym (x.2.1).packet in
          sends_alike lh link_plan.0 (parties old) 0 old.link (to_referee x.2.0) a b x.0 link_plan.1 x.2.2
          (subst (λ (v : LinkView). SendCalls lh (parties old) 0 old.link (to_referee x.2.0) b v) links
          (subst (λ (p : Option Packet). SendCalls lh (parties old) 0 old.link (to_referee p) b y.0) packets y.2.2))
  tick_fixed (roles.Watcher i) a b new h k = at (slice_get old.watchers i) h k
    where
      at : (core : Option WatcherView) → MatchOption core (NoCalls outcomes.NoSuchParty old a new)
          (λ core. (link : LinkView) × (after : WatcherView)
          × FollowerTickCalls WatcherTicks lh (parties old) old.link core a link after
          × (new ≡ record old { link = link; watchers = slice_set old.watchers i after }))
          → MatchOption core (NoCalls outcomes.NoSuchParty old b new)
          (λ core. (link : LinkView) × (after : WatcherView)
          × FollowerTickCalls WatcherTicks lh (parties old) old.link core b link after
          × (new ≡ record old { link = link; watchers = slice_set old.watchers i after })) → a ≡ b
      at None x y = x.0 ∙ sym y.0
      at (Some core) x y =
          let links : y.0 ≡ x.0 = ap (λ (w : WorldView). w.link) (sym y.3 ∙ x.3) in
          let packets : y.2.0 ≡ x.2.0 = (y.2.1).packet ∙ sym (x.2.1).packet in
          sends_alike lh link_plan.0 (parties old) 0 old.link (to_referee x.2.0) a b x.0 link_plan.1 x.2.2
          (subst (λ (v : LinkView). SendCalls lh (parties old) 0 old.link (to_referee x.2.0) b v) links
          (subst (λ (p : Option Packet). SendCalls lh (parties old) 0 old.link (to_referee p) b y.0) packets y.2.2))

  restart_fixed : (r : Role) (party : ℕ) (a b : Outcome) (new : WorldView) → is_memory a ≡ false
      → is_memory b ≡ false → RestartCalls kh old r party a new → RestartCalls kh old r party b new → a ≡ b
  restart_fixed roles.Referee party a b new m n h k =
      let plan = the old.referee_keeper.plan plans.referee in
      let keepers : k.0 ≡ h.0 = ap (λ (w : WorldView). w.referee_keeper) (sym k.3 ∙ h.3) in
      let cores : k.1 ≡ h.1 = ap (λ (w : WorldView). w.referee) (sym k.3 ∙ h.3) in
      one_restart resumed_referee (fresh_referee old.id old.terms) kh keepers_honest referee old.id old.terms plan.0
      old.referee_keeper plan.1 h.0 h.1 a b h.2
      (subst (λ (v : KeeperView). RestartCallsAt resumed_referee (fresh_referee old.id old.terms) kh referee old.id
      old.terms old.referee_keeper b v h.1) keepers
      (subst (λ (c : Option RefereeView). RestartCallsAt resumed_referee (fresh_referee old.id old.terms) kh referee
      old.id old.terms old.referee_keeper b k.0 c) cores k.2)) (not_memory a m) (not_memory b n)
  restart_fixed (roles.Seat q) party a b new m n h k =
      let plan = the (seat_keeper old q).plan (plans.seats q) in
      let worlds = sym k.3 ∙ h.3 in
      let mid : Option SeatView → WorldView = with_seat_core old q in
      let keepers : k.0 ≡ h.0 =
      sym (keeper_there (mid k.1) q k.0) ∙ ap (λ (w : WorldView). seat_keeper w q) worlds
      ∙ keeper_there (mid h.1) q h.0 in
      let cores : k.1 ≡ h.1 =
      sym (core_left (mid k.1) q k.0 ∙ core_there old q k.1) ∙ ap (λ (w : WorldView). seat_core w q) worlds
      ∙ (core_left (mid h.1) q h.0 ∙ core_there old q h.1) in
      one_restart resumed_seat (fresh_seat q old.id old.terms) kh keepers_honest (party_of q) old.id old.terms plan.0
      (seat_keeper old q) plan.1 h.0 h.1 a b h.2
      (subst (λ (v : KeeperView). RestartCallsAt resumed_seat (fresh_seat q old.id old.terms) kh (party_of q) old.id
      old.terms (seat_keeper old q) b v h.1) keepers
      (subst (λ (c : Option SeatView). RestartCallsAt resumed_seat (fresh_seat q old.id old.terms) kh (party_of q)
      old.id old.terms (seat_keeper old q) b k.0 c) cores k.2)) (not_memory a m) (not_memory b n)
  restart_fixed (roles.Watcher i) party a b new m n h k = at (slice_get old.watchers i) h k
    where
      at : (core : Option WatcherView) → MatchOption core (NoCalls outcomes.NoSuchParty old a new)
          (λ core. (a ≡ outcomes.Restarted) × (new ≡ record old { watchers = slice_set old.watchers i (fresh_watcher party old.id old.terms) }))
          → MatchOption core (NoCalls outcomes.NoSuchParty old b new)
          (λ core. (b ≡ outcomes.Restarted) × (new ≡ record old { watchers = slice_set old.watchers i (fresh_watcher party old.id old.terms) })) → a ≡ b
      at None x y = x.0 ∙ sym y.0
      at (Some core) x y = x.0 ∙ sym y.0

pub one_outcome : (lh kh : Type 0) → ComeToOneOutcome lh kh
one_outcome lh kh link keepers old (events.Due word) a b new world plans m n h k = due_fixed old new word a b h k
one_outcome lh kh link keepers old (events.Choose q action) a b new world plans m n h k =
    choose_fixed old new q action a b h k
one_outcome lh kh link keepers old (events.Save party) a b new world plans m n h k =
    save_fixed kh old new (role party) a b h k
one_outcome lh kh link keepers old (events.Take party pick word) a b new world plans m n h k =
    take_fixed lh kh link keepers old world plans party pick word (role party) a b new refl m n h k
one_outcome lh kh link keepers old (events.Tick party) a b new world plans m n h k =
    tick_fixed lh kh link keepers old world plans (role party) a b new h k
one_outcome lh kh link keepers old (events.Restart party) a b new world plans m n h k =
    restart_fixed lh kh link keepers old world plans (role party) party a b new m n h k

pub one_list : (lh kh : Type 0) → ComeToOneList lh kh
one_list lh kh link keepers old [] [] [] [] known m n h k = refl
one_list lh kh link keepers old [] [] [] (v ∷ vs) known m n h k = absurd h
one_list lh kh link keepers old [] [] (b ∷ bs) worlds known m n h k = absurd k
one_list lh kh link keepers old [] (a ∷ xs) b worlds known m n h k = absurd h
one_list lh kh link keepers old (e ∷ es) [] b worlds known m n h k = absurd h
one_list lh kh link keepers old (e ∷ es) (a ∷ xs) [] worlds known m n h k = absurd k
one_list lh kh link keepers old (e ∷ es) (a ∷ xs) (b ∷ ys) [] known m n h k = absurd h
one_list lh kh link keepers old (e ∷ es) (a ∷ xs) (b ∷ ys) (v ∷ vs) known m n h k =
    ap (λ (l : List Outcome). a ∷ l) (one_list lh kh link keepers v es xs ys vs known.1 m.1 n.1 h.1 k.1)
    ∙ ap (λ (o : Outcome). o ∷ ys) (one_outcome lh kh link keepers old e a b v known.0.0 known.0.1 m.0 n.0 h.0 k.0)
