-- The list of datagrams only grows, so that what came to a party stays known.
use Rattle.std.specs.Prelude.{◌≡◌, ℕ, Bool, true, false, Option, Some, None, List, [], ◌∷◌, ◌++◌, Ok, Err, MatchOption, slice_get}
use Rattle.std.proofs.Common.{refl, sym, ◌∙◌, ap}
use Rattle.std.proofs.lemmas.List.{append-nil}
use Rattle.bg_match.specs.Terms.{Terms, rules_of}
use Rattle.bg_board.specs.declared.players.Player.{Player}
use Rattle.bg_board.specs.declared.players.Player.TheVariants.{X, O}
use Rattle.bg_match.specs.declared.entries.Entry.{Entry}
use Rattle.bg_wire.specs.declared.packets.Datagram.{Datagram}
use Rattle.bg_wire.specs.declared.packets.Packet.{Packet}
use Rattle.bg_wire.specs.declared.packets.Packet.TheVariants as packet
use Rattle.bg_referee.specs.declared.outcomes.TakeOutcome.{TakeOutcome}
use Rattle.bg_referee.specs.declared.outcomes.TakeOutcome.TheVariants as takes
use Rattle.bg_protocol.specs.declared.events.Event.{Event}
use Rattle.bg_protocol.specs.declared.events.Event.TheVariants as events
use Rattle.bg_protocol.specs.declared.events.Outcome.{Outcome}
use Rattle.bg_protocol.specs.declared.events.Outcome.TheVariants as outcomes
use Rattle.bg_protocol.specs.declared.roles.Role.{Role}
use Rattle.bg_protocol.specs.declared.roles.Role.TheVariants.{Referee as AsReferee, Seat as AsSeat, Watcher as AsWatcher}
use Rattle.bg_protocol.specs.Protocol.Datagrams.{WasShown}
use Rattle.bg_protocol.specs.Protocol.Frames.{IfUp, SeatChanges, SendsAtMost, NoParty}
use Rattle.bg_protocol.specs.Protocol.RefereeTakeStep.{ReplyStep, RefereeTakeStep}
use Rattle.bg_protocol.specs.Protocol.RestartStep.{RestartsTo, RestartStep}
use Rattle.bg_protocol.specs.Protocol.Roles.{role}
use Rattle.bg_protocol.specs.Protocol.SaveStep.{RefereeSaveStep, SaveStep}
use Rattle.bg_protocol.specs.Protocol.State.{ProtocolState, SeatState, seat_in, with_seat}
use Rattle.bg_protocol.specs.Protocol.Step.{Step}
use Rattle.bg_protocol.specs.Protocol.TickStep.{SendsOnTick, TickStep}
use Rattle.bg_protocol.proofs.Protocol.Invariant.{WasSent-more}
use Rattle.bg_protocol.specs.Protocol.DueStep.{DueStep}
use Rattle.bg_protocol.specs.Protocol.TakeStep.{TakeStep}

abbrev Grown : ProtocolState → ProtocolState → Type 0
Grown w v = (out : List Datagram) × (v.sent ≡ w.sent ++ out)

same : (w v : ProtocolState) → v.sent ≡ w.sent → Grown w v
same w v e = ([], e ∙ sym (append-nil w.sent))

stays : (w v : ProtocolState) → v ≡ w → Grown w v
stays w v e = same w v (ap (λ (x : ProtocolState). x.sent) e)

at : (w v u : ProtocolState) → v ≡ u → u.sent ≡ w.sent → Grown w v
at w v u e f = same w v (ap (λ (x : ProtocolState). x.sent) e ∙ f)

if_up : (b : Bool) (w : ProtocolState) (o : Outcome) (v : ProtocolState) (P : Type 0) → (P → Grown w v) → IfUp b w o v P → Grown w v
if_up true w o v P f h = f h
if_up false w o v P f h = stays w v h.1

seat_sent : (w : ProtocolState) (q : Player) (f : SeatState) → (with_seat w q f).sent ≡ w.sent
seat_sent w X f = refl
seat_sent w O f = refl

of_seat_grows : (w : ProtocolState) (q : Player) (v : ProtocolState) (P : SeatState → Type 0) → SeatChanges w q v P → Grown w v
of_seat_grows w q v P h = at w v (with_seat w q h.0) h.2 (seat_sent w q h.0)

at_watcher : (w : ProtocolState) (o : Outcome) (v : ProtocolState) (old : Option (List Entry)) (P : List Entry → Type 0) → ((log : List Entry) → P log → Grown w v) → MatchOption old (NoParty w o v) P → Grown w v
at_watcher w o v None P f h = stays w v h.1
at_watcher w o v (Some log) P f h = f log h

sends : (w v : ProtocolState) (may : Datagram → Type 0) (most : ℕ) → SendsAtMost may most w v → Grown w v
sends w v may most h = (h.out, ap (λ (x : ProtocolState). x.sent) h.after)

due : (w : ProtocolState) (word : ℕ) (o : Outcome) (v : ProtocolState) → DueStep w word o v → Grown w v
due w word (outcomes.Due (Ok n)) v h = at w v _ h.2 refl
due w word (outcomes.Due (Err f)) v h = stays w v h.1
due w word _ v h = absurd h

took : (w : ProtocolState) (word : ℕ) (p : Packet) (t : TakeOutcome) (v : ProtocolState) → ReplyStep w word p t v → Grown w v
took w word p (takes.Accepted n) v h = at w v _ h.2 refl
took w word p (takes.Answer to answer) v h = (h.2.0 ∷ [], ap (λ (x : ProtocolState). x.sent) h.2.2)
took w word p takes.Memory v h = stays w v h
took w word p _ v h = stays w v h.1

take_at_referee : (w : ProtocolState) (word : ℕ) (o : Outcome) (v : ProtocolState) → RefereeTakeStep w word o v → Grown w v
take_at_referee w word (outcomes.Took t) v h = took w word h.0 t v h.2
take_at_referee w word outcomes.NoDatagram v h = stays w v h
take_at_referee w word (outcomes.NotAPacket why) v h = stays w v h
take_at_referee w word outcomes.LinkFault v h = sends w v _ 1 h
take_at_referee w word outcomes.Memory v h = sends w v _ 1 h
take_at_referee w word _ v h = absurd h

save_at_referee : (w : ProtocolState) (o : Outcome) (v : ProtocolState) → RefereeSaveStep w o v → Grown w v
save_at_referee w (outcomes.Saved k) v h = at w v _ h.1.3 refl
save_at_referee w outcomes.SaveFault v h = at w v _ h.3 refl
save_at_referee w outcomes.SavesSpent v h = stays w v h
save_at_referee w outcomes.Memory v h = stays w v h
save_at_referee w _ v h = absurd h

ticks : (w : ProtocolState) (o : Outcome) (v : ProtocolState) (may : Datagram → Type 0) (most : ℕ) → SendsOnTick may most w o v → Grown w v
ticks w (outcomes.Sent n) v may most h = sends w v may most h.0
ticks w outcomes.LinkFault v may most h = sends w v may most h
ticks w outcomes.Memory v may most h = sends w v may most h
ticks w _ v may most h = absurd h

restarts : (o : Outcome) (w v : ProtocolState) (after : Bool → ProtocolState) → ((up : Bool) → (after up).sent ≡ w.sent) → RestartsTo o (λ up. v ≡ after up) → Grown w v
restarts outcomes.Restarted w v after e h = at w v (after true) h (e true)
restarts (outcomes.RestoreFault cause) w v after e h = at w v (after false) h (e false)
restarts outcomes.Memory w v after e h = at w v (after false) h (e false)
restarts _ w v after e h = absurd h

take_at : (w : ProtocolState) (r : Role) (word : ℕ) (o : Outcome) (v : ProtocolState) → TakeStep w r word o v → Grown w v
take_at w AsReferee word o v h = if_up w.referee.up w o v _ (take_at_referee w word o v) h
take_at w (AsSeat q) word o v h = of_seat_grows w q v _ h
take_at w (AsWatcher i) word o v h = at_watcher w o v (slice_get w.watchers i) _ (λ log k. at w v _ k.2 refl) h

save_at : (w : ProtocolState) (r : Role) (o : Outcome) (v : ProtocolState) → SaveStep w r o v → Grown w v
save_at w AsReferee o v h = if_up w.referee.up w o v _ (save_at_referee w o v) h
save_at w (AsSeat q) o v h = of_seat_grows w q v _ h
save_at w (AsWatcher i) o v h = stays w v h.1

tick_at : (w : ProtocolState) (r : Role) (o : Outcome) (v : ProtocolState) → TickStep w r o v → Grown w v
tick_at w AsReferee o v h = if_up w.referee.up w o v _ (ticks w o v _ 2) h
tick_at w (AsSeat q) o v h = if_up (seat_in w q).up w o v _ (ticks w o v _ 1) h
tick_at w (AsWatcher i) o v h = at_watcher w o v (slice_get w.watchers i) _ (λ log k. ticks w o v _ 1 k) h

restart_at : (w : ProtocolState) (r : Role) (o : Outcome) (v : ProtocolState) → RestartStep w r o v → Grown w v
restart_at w AsReferee o v h = restarts o w v _ (λ up. refl) h
restart_at w (AsSeat q) o v h = of_seat_grows w q v _ h
restart_at w (AsWatcher i) o v h = at_watcher w o v (slice_get w.watchers i) _ (λ log k. at w v _ k.1 refl) h

pub step_grows : (w : ProtocolState) (e : Event) (o : Outcome) (v : ProtocolState) → Step w e o v → Grown w v
step_grows w (events.Due word) o v h = if_up w.referee.up w o v _ (due w word o v) h
step_grows w (events.Take party pick word) o v h = take_at w (role party) word o v h
step_grows w (events.Choose q a) o v h = of_seat_grows w q v _ h
step_grows w (events.Save party) o v h = save_at w (role party) o v h
step_grows w (events.Tick party) o v h = tick_at w (role party) o v h
step_grows w (events.Restart party) o v h = restart_at w (role party) o v h

-- so an early entry that a party keeps still came to it
pub stood_more : (id : ℕ) (terms : Terms) (sent out : List Datagram) (party n : ℕ) (e : Entry) → WasShown id terms sent party n e → WasShown id terms (sent ++ out) party n e
stood_more id terms sent out party n e h = record {
  start = h.start;
  list = h.list;
  came = WasSent-more sent out party (packet.Entries id (rules_of terms) h.start h.list) h.came;
  place = h.place;
  number = h.number;
  stands = h.stands;
}
