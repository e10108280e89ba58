-- The dice of the referee's record are those of words that were handed in.
use Rattle.std.specs.Prelude.{◌≡◌, ◌⊎◌, ℕ, Bool, true, false, Option, Some, None, List, [], ◌∷◌, Ok, Err, MatchOption, All, Contains, length, slice_get}
use Rattle.std.proofs.Common.{refl, sym, ◌∙◌, ap, subst, inl, inr, arith}
use Rattle.std.proofs.lemmas.List.Elements.{All-push, All-same, All-take, Contains-append_right, Contains-get_or}
use Rattle.bg_board.specs.declared.players.Player.{Player}
use Rattle.bg_board.specs.declared.players.Player.TheVariants.{X, O}
use Rattle.bg_turns.specs.Dice.{dice_of}
use Rattle.bg_match.specs.Answers.{Answers}
use Rattle.bg_match.specs.Terms.{Terms}
use Rattle.bg_match.specs.declared.actions.Action.{Action}
use Rattle.bg_match.specs.declared.actions.Action.TheVariants as action
use Rattle.bg_match.specs.declared.entries.Entry.{Entry}
use Rattle.bg_wire.specs.declared.packets.Datagram.{Datagram}
use Rattle.bg_wire.specs.declared.packets.Packet.{Packet}
use Rattle.bg_wire.specs.declared.packets.Packet.TheVariants as packet
use Rattle.bg_referee.specs.Claims.{IsAccepted}
use Rattle.bg_referee.specs.Dues.{IsDue}
use Rattle.bg_referee.specs.declared.outcomes.TakeOutcome.{TakeOutcome}
use Rattle.bg_referee.specs.declared.outcomes.TakeOutcome.TheVariants as takes
use Rattle.bg_protocol.specs.Promises.Agreement.{IsPrefix}
use Rattle.bg_protocol.specs.Worlds.DiceWords.{HandsIn, IsWordOf, ShowsWord}
use Rattle.bg_protocol.specs.Protocol.DueStep.{DueStep}
use Rattle.bg_protocol.specs.Protocol.Frames.{IfUp, NoParty, SeatChanges, SendsAtMost}
use Rattle.bg_protocol.specs.Protocol.RefereeTakeStep.{RefereeTakeStep, ReplyStep}
use Rattle.bg_protocol.specs.Protocol.RestartStep.{RestartStep, RestartsTo}
use Rattle.bg_protocol.specs.Protocol.Roles.{role}
use Rattle.bg_protocol.specs.Protocol.Runs.{Run}
use Rattle.bg_protocol.specs.Protocol.SaveStep.{RefereeSaveStep, SaveStep, to_save_referee}
use Rattle.bg_protocol.specs.Protocol.Slots.{entries_in}
use Rattle.bg_protocol.specs.Protocol.State.{SeatState, ProtocolState, restored_referee, seat_in, with_seat}
use Rattle.bg_protocol.specs.Protocol.Step.{Step}
use Rattle.bg_protocol.specs.Protocol.TakeStep.{TakeStep}
use Rattle.bg_protocol.specs.Protocol.TickStep.{SendsOnTick, TickStep}
use Rattle.bg_protocol.specs.Worlds.WorldRuns.{history_of}
use Rattle.bg_protocol.specs.declared.events.Event.{Event}
use Rattle.bg_protocol.specs.declared.events.Event.TheVariants as events
use Rattle.bg_protocol.specs.declared.events.Outcome.{Outcome}
use Rattle.bg_protocol.specs.declared.events.Outcome.TheVariants as outcomes
use Rattle.bg_protocol.specs.declared.roles.Role.{Role}
use Rattle.bg_protocol.specs.declared.roles.Role.TheVariants.{Referee as AsReferee, Seat as AsSeat, Watcher as AsWatcher}
use Rattle.bg_protocol.proofs.Protocol.Invariant.{Inv}
use Rattle.bg_protocol.proofs.Protocol.Lists.{prefix_same, prefix_take, prefix_whole}
use Rattle.bg_protocol.proofs.Protocol.Rows.{referee_of, step_keeps}
use Rattle.bg_protocol.proofs.Protocol.Saving.{SlotsOk, after_torn}

module _ (IsWord : ℕ → Type 0) where
  -- the dice of the referee's record are those of such words
  abbrev Shows : ProtocolState → Type 0
  Shows w = All (ShowsWord IsWord) w.referee.log

  fewer : (xs ys : List Entry) → IsPrefix xs ys → All (ShowsWord IsWord) ys → All (ShowsWord IsWord) xs
  fewer xs ys p h =
      All-same (ShowsWord IsWord) xs _ (sym (prefix_whole xs ys p)) (All-take (ShowsWord IsWord) (length xs) ys h)

  -- ---- an entry shows the dice of the word

  opening_shows : (terms : Terms) (log : List Entry) (word : ℕ) (e : Entry) → IsWord word
      → IsDue terms log word e → ShowsWord IsWord e
  opening_shows terms log word e is h =
      elim h.0 [
        | inl opening ↦ subst (ShowsWord IsWord) (sym opening.2) (word, is, opening.1)
        | inr pass ↦ subst (ShowsWord IsWord) (sym pass) tt
      ]

  answer_shows : (a : Action) (word : ℕ) (e : Entry) → IsWord word → Answers a (dice_of word) e → ShowsWord IsWord e
  answer_shows action.Roll word e is h = subst (ShowsWord IsWord) (sym h.2) (word, is, h.1)
  answer_shows action.Double word e is h = subst (ShowsWord IsWord) (sym h) tt
  answer_shows action.Take word e is h = subst (ShowsWord IsWord) (sym h) tt
  answer_shows action.Drop word e is h = subst (ShowsWord IsWord) (sym h) tt
  answer_shows (action.Move turn) word e is h = subst (ShowsWord IsWord) (sym h) tt
  answer_shows (action.Resign level) word e is h = subst (ShowsWord IsWord) (sym h) tt
  answer_shows action.Accept word e is h = subst (ShowsWord IsWord) (sym h) tt
  answer_shows action.Reject word e is h = subst (ShowsWord IsWord) (sym h) tt

  accepted_shows : (id : ℕ) (terms : Terms) (log : List Entry) (word : ℕ) (p : Packet) (e : Entry) → IsWord word
      → IsAccepted id terms log word p e → ShowsWord IsWord e
  accepted_shows id terms log word (packet.Claim i rules sender n a) e is h = answer_shows a word e is h.3
  accepted_shows id terms log word (packet.Want i rules sender held) e is h = absurd h
  accepted_shows id terms log word (packet.Entries i rules start list) e is h = absurd h

  -- ---- the rows

  at : (v u : ProtocolState) → v ≡ u → Shows u → Shows v
  at v u e h = subst Shows (sym e) h

  if_up : (b : Bool) (w : ProtocolState) (o : Outcome) (v : ProtocolState) (P : Type 0) → Shows w → (P → Shows v)
      → IfUp b w o v P → Shows v
  if_up true w o v P s f h = f h
  if_up false w o v P s f h = at v w h.1 s

  of_seat : (w : ProtocolState) (q : Player) (v : ProtocolState) (P : SeatState → Type 0) → Shows w → SeatChanges w q v P → Shows v
  of_seat w X v P s h = at v (with_seat w X h.0) h.2 s
  of_seat w O v P s h = at v (with_seat w O h.0) h.2 s

  at_watcher : (w : ProtocolState) (o : Outcome) (v : ProtocolState) (old : Option (List Entry)) (P : List Entry → Type 0) → Shows w
      → ((log : List Entry) → P log → Shows v) → MatchOption old (NoParty w o v) P → Shows v
  at_watcher w o v None P s f h = at v w h.1 s
  at_watcher w o v (Some log) P s f h = f log h

  sends : (w v : ProtocolState) (may : Datagram → Type 0) (most : ℕ) → Shows w → SendsAtMost may most w v → Shows v
  sends w v may most s h = at v _ h.after s

  due : (w : ProtocolState) (word : ℕ) (o : Outcome) (v : ProtocolState) → IsWord word → Shows w → DueStep w word o v → Shows v
  due w word (outcomes.Due (Ok n)) v is s h =
      at v _ h.2 (All-push (ShowsWord IsWord) w.referee.log h.0 s
      (opening_shows w.terms w.referee.log word h.0 is h.1))
  due w word (outcomes.Due (Err f)) v is s h = at v w h.1 s
  due w word _ v is s h = absurd h

  took : (w : ProtocolState) (word : ℕ) (p : Packet) (t : TakeOutcome) (v : ProtocolState) → IsWord word → Shows w
      → ReplyStep w word p t v → Shows v
  took w word p (takes.Accepted n) v is s h =
      at v _ h.2 (All-push (ShowsWord IsWord) w.referee.log h.0 s
      (accepted_shows w.id w.terms w.referee.log word p h.0 is h.1))
  took w word p (takes.Answer to answer) v is s h = at v _ h.2.2 s
  took w word p takes.Memory v is s h = at v w h s
  took w word p _ v is s h = at v w h.1 s

  take_at_referee : (w : ProtocolState) (word : ℕ) (o : Outcome) (v : ProtocolState) → IsWord word → Shows w
      → RefereeTakeStep w word o v → Shows v
  take_at_referee w word (outcomes.Took t) v is s h = took w word h.0 t v is s h.2
  take_at_referee w word outcomes.NoDatagram v is s h = at v w h s
  take_at_referee w word (outcomes.NotAPacket why) v is s h = at v w h s
  take_at_referee w word outcomes.LinkFault v is s h = sends w v _ 1 s h
  take_at_referee w word outcomes.Memory v is s h = sends w v _ 1 s h
  take_at_referee w word _ v is s h = absurd h

  save_at_referee : (w : ProtocolState) (o : Outcome) (v : ProtocolState) → Inv w → Shows w → RefereeSaveStep w o v → Shows v
  save_at_referee w (outcomes.Saved k) v inv s h = at v _ h.1.3 s
  save_at_referee w outcomes.SaveFault v inv s h =
      at v (record w { referee = restored_referee h.0 h.1 false }) h.3
      (fewer (entries_in h.1) w.referee.log (restored left.1) s)
    where
      left : SlotsOk w.id w.terms 0 h.0 h.1 × ((h.1 ≡ w.referee.restorable) ⊎ (h.1 ≡ Some (to_save_referee w)))
      left =
          after_torn w.id w.terms 0 w.referee.slots w.referee.restorable (to_save_referee w) h.0 h.1
          inv.referee.slots (referee_of w) refl h.2

      restored : (h.1 ≡ w.referee.restorable) ⊎ (h.1 ≡ Some (to_save_referee w))
          → IsPrefix (entries_in h.1) w.referee.log
      restored (inl e) =
          subst (λ (l : List Entry). IsPrefix l w.referee.log) (sym (ap entries_in e ∙ inv.referee.restorable))
          (prefix_take w.referee.saved w.referee.log)
      restored (inr e) =
          subst (λ (l : List Entry). IsPrefix l w.referee.log) (sym (ap entries_in e)) (prefix_same w.referee.log)
  save_at_referee w outcomes.SavesSpent v inv s h = at v w h s
  save_at_referee w outcomes.Memory v inv s h = at v w h s
  save_at_referee w _ v inv s h = absurd h

  ticks : (w : ProtocolState) (o : Outcome) (v : ProtocolState) (may : Datagram → Type 0) (most : ℕ) → Shows w → SendsOnTick may most w o v → Shows v
  ticks w (outcomes.Sent n) v may most s h = sends w v may most s h.0
  ticks w outcomes.LinkFault v may most s h = sends w v may most s h
  ticks w outcomes.Memory v may most s h = sends w v may most s h
  ticks w _ v may most s h = absurd h

  restarts : (o : Outcome) (v : ProtocolState) (after : Bool → ProtocolState) → ((up : Bool) → Shows (after up))
      → RestartsTo o (λ up. v ≡ after up) → Shows v
  restarts outcomes.Restarted v after s h = at v (after true) h (s true)
  restarts (outcomes.RestoreFault cause) v after s h = at v (after false) h (s false)
  restarts outcomes.Memory v after s h = at v (after false) h (s false)
  restarts _ v after s h = absurd h

  -- ---- the steps

  take_at : (w : ProtocolState) (r : Role) (word : ℕ) (o : Outcome) (v : ProtocolState) → IsWord word → Shows w
      → TakeStep w r word o v → Shows v
  take_at w AsReferee word o v is s h = if_up w.referee.up w o v _ s (take_at_referee w word o v is s) h
  take_at w (AsSeat q) word o v is s h = of_seat w q v _ s h
  take_at w (AsWatcher i) word o v is s h =
      at_watcher w o v (slice_get w.watchers i) _ s (λ log k. at v _ k.2 s) h

  save_at : (w : ProtocolState) (r : Role) (o : Outcome) (v : ProtocolState) → Inv w → Shows w → SaveStep w r o v → Shows v
  save_at w AsReferee o v inv s h = if_up w.referee.up w o v _ s (save_at_referee w o v inv s) h
  save_at w (AsSeat q) o v inv s h = of_seat w q v _ s h
  save_at w (AsWatcher i) o v inv s h = at v w h.1 s

  tick_at : (w : ProtocolState) (r : Role) (o : Outcome) (v : ProtocolState) → Shows w → TickStep w r o v → Shows v
  tick_at w AsReferee o v s h = if_up w.referee.up w o v _ s (ticks w o v _ 2 s) h
  tick_at w (AsSeat q) o v s h = if_up (seat_in w q).up w o v _ s (ticks w o v _ 1 s) h
  tick_at w (AsWatcher i) o v s h = at_watcher w o v (slice_get w.watchers i) _ s (λ log k. ticks w o v _ 1 s k) h

  restart_at : (w : ProtocolState) (r : Role) (o : Outcome) (v : ProtocolState) → Inv w → Shows w → RestartStep w r o v → Shows v
  restart_at w AsReferee o v inv s h = restarts o v _ (λ up. restored) h
    where
      restored : All (ShowsWord IsWord) (entries_in w.referee.restorable)
      restored =
          All-same (ShowsWord IsWord) _ _ inv.referee.restorable
          (All-take (ShowsWord IsWord) w.referee.saved w.referee.log s)
  restart_at w (AsSeat q) o v inv s h = of_seat w q v _ s h
  restart_at w (AsWatcher i) o v inv s h =
      at_watcher w o v (slice_get w.watchers i) _ s (λ log k. at v _ k.1 s) h

  step_shows : (w : ProtocolState) (e : Event) (o : Outcome) (v : ProtocolState) → Inv w
      → ((word : ℕ) → IsWordOf e word → IsWord word) → Shows w → Step w e o v → Shows v
  step_shows w (events.Due word) o v inv is s h =
      if_up w.referee.up w o v _ s (due w word o v (is word refl) s) h
  step_shows w (events.Take party pick word) o v inv is s h = take_at w (role party) word o v (is word refl) s h
  step_shows w (events.Choose q a) o v inv is s h = of_seat w q v _ s h
  step_shows w (events.Save party) o v inv is s h = save_at w (role party) o v inv s h
  step_shows w (events.Tick party) o v inv is s h = tick_at w (role party) o v s h
  step_shows w (events.Restart party) o v inv is s h = restart_at w (role party) o v inv s h

  -- a run of events that hand in such words
  pub run_shows : (w : ProtocolState) (es : List Event) (os : List Outcome) (v : ProtocolState) → Inv w
      → ((word : ℕ) → HandsIn es word → IsWord word) → All (ShowsWord IsWord) w.referee.log
      → Run w (history_of es os) v → All (ShowsWord IsWord) v.referee.log
  run_shows w [] [] v inv is s h = at v w h s
  run_shows w [] (o ∷ os) v inv is s h = at v w h s
  run_shows w (e ∷ es) [] v inv is s h = at v w h s
  run_shows w (e ∷ es) (o ∷ os) v inv is s h =
      run_shows h.0 es os v (step_keeps w e o h.0 inv h.1)
      (λ word k. is word (k.0, Contains-append_right (e ∷ []) es k.0 k.1, k.2))
      (step_shows w e o h.0 inv (λ word k. is word (e, first, k)) s h.1) h.2
    where
      first : Contains (e ∷ es) e
      first = Contains-get_or (e ∷ es) 0 e (omega arith)
