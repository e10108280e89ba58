-- The dice of all that is held and settled are those of words that were handed in.
use Rattle.std.specs.Prelude.{◌≡◌, ◌⊎◌, ℕ, Some, List, [], ◌∷◌, Ok, Err, All, Contains}
use Rattle.std.proofs.Common.{refl, sym, ap, subst, inl, inr, arith}
use Rattle.std.proofs.lemmas.List.Elements.{All-push, All-nil, Contains-append_right, Contains-get_or}
use Rattle.bg_board.specs.declared.players.Player.{Player}
use Rattle.bg_board.specs.declared.players.Player.TheVariants.{X, O}
use Rattle.bg_turns.specs.Dice.{dice_of}
use Rattle.bg_match.specs.Answers.{Answers}
use Rattle.bg_match.specs.Terms.{Terms}
use Rattle.bg_match.specs.declared.actions.Action.{Action}
use Rattle.bg_match.specs.declared.actions.Action.TheVariants as action
use Rattle.bg_match.specs.declared.entries.Entry.{Entry}
use Rattle.bg_referee.specs.Claims.{IsAccepted}
use Rattle.bg_referee.specs.Dues.{IsDue}
use Rattle.bg_referee.specs.declared.outcomes.TakeOutcome.{TakeOutcome}
use Rattle.bg_referee.specs.declared.outcomes.TakeOutcome.TheVariants as takes
use Rattle.bg_wire.specs.declared.packets.Datagram.{Datagram}
use Rattle.bg_wire.specs.declared.packets.Packet.{Packet}
use Rattle.bg_wire.specs.declared.packets.Packet.TheVariants as packet
use Rattle.bg_protocol.specs.declared.events.Event.{Event}
use Rattle.bg_protocol.specs.declared.events.Event.TheVariants as events
use Rattle.bg_protocol.specs.declared.events.Outcome.{Outcome}
use Rattle.bg_protocol.specs.declared.events.Outcome.TheVariants as outcomes
use Rattle.bg_protocol.specs.declared.roles.Role.{Role}
use Rattle.bg_protocol.specs.declared.roles.Role.TheVariants.{Referee as AsReferee, Seat as AsSeat, Watcher as AsWatcher}
use Rattle.bg_protocol.specs.Protocol.DueStep.{DueStep}
use Rattle.bg_protocol.specs.Protocol.RefereeTakeStep.{RefereeTakeStep, ReplyStep}
use Rattle.bg_protocol.specs.Protocol.Roles.{role}
use Rattle.bg_protocol.specs.Protocol.SaveStep.{RefereeSaveStep, to_save_referee}
use Rattle.bg_protocol.specs.Protocol.Slots.{entries_in}
use Rattle.bg_protocol.specs.Protocol.State.{ProtocolState}
use Rattle.bg_protocol.specs.Protocol.TickStep.{SendsOnTick}
use Rattle.bg_protocol.specs.Worlds.DiceWords.{HandsIn, IsWordOf, ShowsWord}
use Rattle.bg_protocol.proofs.Protocol.Reached.{saves_survive}
use Rattle.bg_fences.specs.FencedPromises.{ShowsWordsHandedIn}
use Rattle.bg_fences.specs.ProcessCalls.{IsNewest, ProcessBegins, ProcessCalls, ProcessSaves, ProcessTakes, ProcessTicks, RefereeGoes, RefereeSaves, SeatSaves}
use Rattle.bg_fences.specs.ProcessRuns.{IsReachedByProcesses, ProcessesRun, events_of, no_process}
use Rattle.bg_fences.specs.SharedMatches.{Becomes, RefereeProcess, SeatProcess, SharedMatch, Stored, referee_process, seen_by_referee, settled, with_seats, with_stored}
use Rattle.bg_fences.proofs.AllCalls.{call_keeps, earlier_in, remembers_now, starts}
use Rattle.bg_fences.proofs.Invariant.{Earlier, FencedInv}
use Rattle.bg_fences.proofs.Lists.{cases_in, each_becomes, none_in, of_one, was_in}
use Rattle.bg_fences.proofs.RefereeCalls.{as_newest}

module _ (IsWord : ℕ → Type 0) where
  abbrev Shows : List Entry → Type 0
  Shows log = All (ShowsWord IsWord) log

  -- what is held and settled shows such words
  record Shown (m : SharedMatch) : Type 0 where
    of_settled : Shows (settled m)
    of_held : (p : RefereeProcess) → Contains m.referees p → Shows p.log

  -- ---- an entry shows the dice of the word

  due_shows : (terms : Terms) (log : List Entry) (word : ℕ) (e : Entry) → IsWord word
      → IsDue terms log word e → ShowsWord IsWord e
  due_shows terms log word e is h =
      elim h.0 [
        | inl opening ↦ subst (ShowsWord IsWord) (sym opening.2) (word, is, opening.1)
        | inr pass ↦ subst (ShowsWord IsWord) (sym pass) tt
      ]

  answer_shows : (a : Action) (word : ℕ) (e : Entry) → IsWord word → Answers a (dice_of word) e → ShowsWord IsWord e
  answer_shows action.Roll word e is h = subst (ShowsWord IsWord) (sym h.2) (word, is, h.1)
  answer_shows action.Double word e is h = subst (ShowsWord IsWord) (sym h) tt
  answer_shows action.Take word e is h = subst (ShowsWord IsWord) (sym h) tt
  answer_shows action.Drop word e is h = subst (ShowsWord IsWord) (sym h) tt
  answer_shows (action.Move turn) word e is h = subst (ShowsWord IsWord) (sym h) tt
  answer_shows (action.Resign level) word e is h = subst (ShowsWord IsWord) (sym h) tt
  answer_shows action.Accept word e is h = subst (ShowsWord IsWord) (sym h) tt
  answer_shows action.Reject word e is h = subst (ShowsWord IsWord) (sym h) tt

  accepted_shows : (id : ℕ) (terms : Terms) (log : List Entry) (word : ℕ) (p : Packet) (e : Entry) → IsWord word
      → IsAccepted id terms log word p e → ShowsWord IsWord e
  accepted_shows id terms log word (packet.Claim i rules sender n a) e is h = answer_shows a word e is h.3
  accepted_shows id terms log word (packet.Want i rules sender held) e is h = absurd h
  accepted_shows id terms log word (packet.Entries i rules start list) e is h = absurd h

  -- ---- the rows of a process of the referee

  at : (v u : ProtocolState) → v ≡ u → Shows u.referee.log → Shows v.referee.log
  at v u e h = subst (λ (x : ProtocolState). Shows x.referee.log) (sym e) h

  dues : (w : ProtocolState) (word : ℕ) (o : Outcome) (v : ProtocolState) → IsWord word → Shows w.referee.log → DueStep w word o v → Shows v.referee.log
  dues w word (outcomes.Due (Ok n)) v is s h = at v _ h.2 (All-push (ShowsWord IsWord) w.referee.log h.0 s (due_shows w.terms w.referee.log word h.0 is h.1))
  dues w word (outcomes.Due (Err f)) v is s h = at v w h.1 s
  dues w word _ v is s h = absurd h

  took : (w : ProtocolState) (word : ℕ) (p : Packet) (t : TakeOutcome) (v : ProtocolState) → IsWord word → Shows w.referee.log → ReplyStep w word p t v → Shows v.referee.log
  took w word p (takes.Accepted n) v is s h = at v _ h.2 (All-push (ShowsWord IsWord) w.referee.log h.0 s (accepted_shows w.id w.terms w.referee.log word p h.0 is h.1))
  took w word p (takes.Answer to answer) v is s h = at v _ h.2.2 s
  took w word p takes.Memory v is s h = at v w h s
  took w word p _ v is s h = at v w h.1 s

  takes_packet : (w : ProtocolState) (word : ℕ) (o : Outcome) (v : ProtocolState) → IsWord word → Shows w.referee.log → RefereeTakeStep w word o v → Shows v.referee.log
  takes_packet w word (outcomes.Took t) v is s h = took w word h.0 t v is s h.2
  takes_packet w word outcomes.NoDatagram v is s h = at v w h s
  takes_packet w word (outcomes.NotAPacket why) v is s h = at v w h s
  takes_packet w word outcomes.LinkFault v is s h = at v _ h.after s
  takes_packet w word outcomes.Memory v is s h = at v _ h.after s
  takes_packet w word _ v is s h = absurd h

  ticks_on : (w : ProtocolState) (o : Outcome) (v : ProtocolState) (may : Datagram → Type 0) → Shows w.referee.log → SendsOnTick may 2 w o v → Shows v.referee.log
  ticks_on w (outcomes.Sent n) v may s h = at v _ h.0.after s
  ticks_on w outcomes.LinkFault v may s h = at v _ h.after s
  ticks_on w outcomes.Memory v may s h = at v _ h.after s
  ticks_on w _ v may s h = absurd h

  -- ---- a call

  goes : (m : SharedMatch) (p : RefereeProcess) (v : ProtocolState) (n : SharedMatch) → Shown m → RefereeGoes m p v n → (Shows p.log → Shows v.referee.log) → Shown n
  goes m p v n s h f = subst Shown (sym h.2) (record {
    of_settled = s.of_settled;
    of_held = each_becomes (λ (x : RefereeProcess). Shows x.log) m.referees p (referee_process v.referee p.last_save ∷ []) h.0 h.1 s.of_held
        (of_one (λ (x : RefereeProcess). Shows x.log) (referee_process v.referee p.last_save) (f (s.of_held p (was_in m.referees p (referee_process v.referee p.last_save ∷ []) h.0 h.1))));
  })

  -- what a save leaves in the slots is what they had, or what the process held
  moves : (m : SharedMatch) (p : RefereeProcess) (k : Stored) (after rs : List RefereeProcess) → Shown m → Contains m.referees p
      → (k.restorable ≡ m.referee.restorable) ⊎ (k.restorable ≡ Some (to_save_referee (seen_by_referee m p))) → Becomes m.referees p after rs
      → ((x : RefereeProcess) → Contains after x → Shows x.log) → Shown (record m { referees = rs; referee = k })
  moves m p k after rs s c left b new = record {
    of_settled = of left;
    of_held = each_becomes (λ (x : RefereeProcess). Shows x.log) m.referees p after rs b s.of_held new;
  }
    where
      of : (k.restorable ≡ m.referee.restorable) ⊎ (k.restorable ≡ Some (to_save_referee (seen_by_referee m p))) → Shows (entries_in k.restorable)
      of (inl e) = subst Shows (sym (ap entries_in e)) s.of_settled
      of (inr e) = subst Shows (sym (ap entries_in e)) (s.of_held p c)

  saves_referee : {earlier : Earlier} (m : SharedMatch) (p : RefereeProcess) (o : Outcome) (n : SharedMatch) → FencedInv earlier m → Shown m → RefereeSaves m p o n → Shown n
  saves_referee m p (outcomes.Saved k) n inv s h =
      let c = was_in m.referees p (referee_process (h.0).referee k ∷ []) h.1 h.4 in
      let w = as_newest m p inv (inv.referees p c) h.2 in
      subst Shown (sym h.5)
      (moves m p (record { slots = (h.0).referee.slots; restorable = (h.0).referee.restorable }) (referee_process (h.0).referee k ∷ []) h.1 s c
      (inr ((saves_survive (seen_by_referee m p) w).referee_saved k h.0 h.3)) h.4
      (of_one (λ (x : RefereeProcess). Shows x.log) (referee_process (h.0).referee k) (at h.0 _ (h.3).1.3 (s.of_held p c))))
  saves_referee m p outcomes.SaveFault n inv s h = at_place h.2
    where
      c : Contains m.referees p
      c = was_in m.referees p [] h.0 h.1

      at_place : (n ≡ record m { referees = h.0 })
          ⊎ ((v : ProtocolState) × IsNewest m.referee.restorable p.last_save × RefereeSaveStep (seen_by_referee m p) outcomes.SaveFault v
          × (n ≡ record m { referees = h.0; referee = record { slots = v.referee.slots; restorable = v.referee.restorable } })) → Shown n
      at_place (inl e) = subst Shown (sym e) (moves m p m.referee [] h.0 s c (inl refl) h.1 (λ x k. absurd (none_in x k)))
      at_place (inr g) =
          let w = as_newest m p inv (inv.referees p c) g.1 in
          subst Shown (sym g.3)
          (moves m p (record { slots = (g.0).referee.slots; restorable = (g.0).referee.restorable }) [] h.0 s c
          ((saves_survive (seen_by_referee m p) w).referee_failed g.0 g.2) h.1 (λ x k. absurd (none_in x k)))
  saves_referee m p outcomes.SavesSpent n inv s h = subst Shown (sym h) s
  saves_referee m p outcomes.Memory n inv s h = subst Shown (sym h) s
  saves_referee m p _ n inv s h = absurd h

  -- what happens at a seat
  of_seats : (m : SharedMatch) (q : Player) (fs : List SeatProcess) → Shown m → Shown (with_seats m q fs)
  of_seats m X fs s = record { of_settled = s.of_settled; of_held = s.of_held }
  of_seats m O fs s = record { of_settled = s.of_settled; of_held = s.of_held }

  of_seats_sent : (m : SharedMatch) (q : Player) (fs : List SeatProcess) (sent : List Datagram) → Shown m → Shown (record (with_seats m q fs) { sent = sent })
  of_seats_sent m X fs sent s = record { of_settled = s.of_settled; of_held = s.of_held }
  of_seats_sent m O fs sent s = record { of_settled = s.of_settled; of_held = s.of_held }

  of_seats_stored : (m : SharedMatch) (q : Player) (fs : List SeatProcess) (k : Stored) → Shown m → Shown (with_stored (with_seats m q fs) q k)
  of_seats_stored m X fs k s = record { of_settled = s.of_settled; of_held = s.of_held }
  of_seats_stored m O fs k s = record { of_settled = s.of_settled; of_held = s.of_held }

  saves_seat : (m : SharedMatch) (q : Player) (f : SeatProcess) (o : Outcome) (n : SharedMatch) → Shown m → SeatSaves m q f o n → Shown n
  saves_seat m q f (outcomes.Saved k) n s h = subst Shown (sym h.5) (of_seats_stored m q h.1 _ s)
  saves_seat m q f outcomes.SaveFault n s h =
      elim h.2 [
        | inl e ↦ subst Shown (sym e) (of_seats m q h.0 s)
        | inr g ↦ subst Shown (sym g.3) (of_seats_stored m q h.0 _ s)
      ]
  saves_seat m q f outcomes.SavesSpent n s h = subst Shown (sym h) s
  saves_seat m q f outcomes.Memory n s h = subst Shown (sym h) s
  saves_seat m q f _ n s h = absurd h

  takes_at : (m : SharedMatch) (r : Role) (word : ℕ) (o : Outcome) (n : SharedMatch) → IsWord word → Shown m → ProcessTakes m r word o n → Shown n
  takes_at m AsReferee word o n is s h = goes m h.0 h.1 n s h.3 (λ l. takes_packet (seen_by_referee m h.0) word o h.1 is l h.2)
  takes_at m (AsSeat q) word o n is s h = subst Shown (sym h.5) (of_seats m q h.2 s)
  takes_at m (AsWatcher i) word o n is s h = subst Shown (sym h.4.2) (record { of_settled = s.of_settled; of_held = s.of_held })

  saves_at : {earlier : Earlier} (m : SharedMatch) (r : Role) (o : Outcome) (n : SharedMatch) → FencedInv earlier m → Shown m → ProcessSaves m r o n → Shown n
  saves_at m AsReferee o n inv s h = saves_referee m h.0 o n inv s h.1
  saves_at m (AsSeat q) o n inv s h = saves_seat m q h.0 o n s h.1
  saves_at m (AsWatcher i) o n inv s h = subst Shown (sym h) s

  ticks_at : (m : SharedMatch) (r : Role) (o : Outcome) (n : SharedMatch) → Shown m → ProcessTicks m r o n → Shown n
  ticks_at m AsReferee o n s h = goes m h.0 h.1 n s h.3 (λ l. ticks_on (seen_by_referee m h.0) o h.1 _ l h.2)
  ticks_at m (AsSeat q) o n s h = subst Shown (sym h.3.2) (of_seats_sent m q h.3.0 (h.1).sent s)
  ticks_at m (AsWatcher i) o n s h = subst Shown (sym h.4.2) (record { of_settled = s.of_settled; of_held = s.of_held })

  -- what was settled at each of these moments shows such words
  abbrev ShownAt : List SharedMatch → Type 0
  ShownAt moments = (past : SharedMatch) → Contains moments past → Shows (settled past)

  begins_at : (moments : List SharedMatch) (m : SharedMatch) (r : Role) (o : Outcome) (n : SharedMatch) → ShownAt moments → Shown m → ProcessBegins moments m r o n → Shown n
  begins_at moments m AsReferee outcomes.Restarted n were s h = subst Shown (sym h.2) (record {
    of_settled = s.of_settled;
    of_held = λ p c. elim (cases_in _ p m.referees c) [
      | inl e ↦ subst (λ (x : RefereeProcess). Shows x.log) e (were h.0 h.1)
      | inr k ↦ s.of_held p k
    ];
  })
  begins_at moments m (AsSeat q) outcomes.Restarted n were s h = subst Shown (sym h.2) (of_seats m q _ s)
  begins_at moments m (AsWatcher i) outcomes.Restarted n were s h = subst Shown (sym h.1) (record { of_settled = s.of_settled; of_held = s.of_held })
  begins_at moments m AsReferee _ n were s h = subst Shown (sym h) s
  begins_at moments m (AsSeat q) _ n were s h = subst Shown (sym h) s
  begins_at moments m (AsWatcher i) _ n were s h = subst Shown (sym h) s

  call_shows : (moments : List SharedMatch) (m : SharedMatch) (e : Event) (o : Outcome) (n : SharedMatch) → FencedInv (earlier_in moments) m → ((word : ℕ) → IsWordOf e word → IsWord word) → ShownAt moments → Shown m → ProcessCalls moments m e o n → Shown n
  call_shows moments m (events.Due word) o n inv is were s h = goes m h.0 h.1 n s h.3 (λ l. dues (seen_by_referee m h.0) word o h.1 (is word refl) l h.2)
  call_shows moments m (events.Take party pick word) o n inv is were s h = takes_at m (role party) word o n (is word refl) s h
  call_shows moments m (events.Choose q a) o n inv is were s h = subst Shown (sym h.5) (of_seats m q h.2 s)
  call_shows moments m (events.Save party) o n inv is were s h = saves_at m (role party) o n inv s h
  call_shows moments m (events.Tick party) o n inv is were s h = ticks_at m (role party) o n s h
  call_shows moments m (events.Restart party) o n inv is were s h = begins_at moments m (role party) o n were s h

  run_shows : (before : List SharedMatch) (m : SharedMatch) (hs : List (Event × Outcome)) (n : SharedMatch) → FencedInv (earlier_in before) m → ((word : ℕ) → HandsIn (events_of hs) word → IsWord word) → ShownAt before → Shown m → ProcessesRun before m hs n → Shown n
  run_shows before m [] n inv is were s r = subst Shown (sym r) s
  run_shows before m (h ∷ hs) n inv is were s r =
      run_shows (m ∷ before) r.0 hs n (call_keeps (m ∷ before) m h.0 h.1 r.0 now r.1)
      (λ word k. is word (k.0, Contains-append_right (h.0 ∷ []) (events_of hs) k.0 k.1, k.2)) were_now
      (call_shows (m ∷ before) m h.0 h.1 r.0 now (λ word k. is word (h.0, first, k)) were_now s r.1) r.2
    where
      now : FencedInv (earlier_in (m ∷ before)) m
      now = remembers_now before m inv

      were_now : ShownAt (m ∷ before)
      were_now past c = elim (cases_in m past before c) [
        | inl e ↦ subst (λ (x : SharedMatch). Shows (settled x)) e s.of_settled
        | inr k ↦ were past k
      ]

      first : Contains (h.0 ∷ events_of hs) h.0
      first = Contains-get_or (h.0 ∷ events_of hs) 0 h.0 (omega arith)

pub shows_words : (m : SharedMatch) (h : IsReachedByProcesses m) → ShowsWordsHandedIn m (events_of h.history)
shows_words m h =
    let is = HandsIn (events_of h.history) in
    let s = run_shows is [] (no_process h.id h.terms h.watchers) h.history m (starts h.id h.terms h.watchers h.setup) (λ word k. k) (λ past c. absurd (none_in past c))
    (record { of_settled = All-nil (ShowsWord is); of_held = λ p c. absurd (none_in p c) }) h.run in
    record { of_settled = s.of_settled; of_held = s.of_held }
