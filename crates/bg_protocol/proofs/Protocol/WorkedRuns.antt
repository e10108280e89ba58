-- Worked runs, by the definitions alone.
use Rattle.std.specs.Prelude.{◌≡◌, ℕ, zero, suc, ◌+◌, ◌<◌, ◌≤◌, true, Some, None, List, [], ◌∷◌, ◌++◌, Ok, All, slice_get, length, take}
use Rattle.std.proofs.Common.{refl, sym, ap, inl, inr, arith, subst, false, lit<, lit≤}
use Rattle.std.proofs.lemmas.List.Elements.{All-cons, All-nil}
use Rattle.bg_match.specs.Actor.{passes, passes_in}
use Rattle.bg_match.specs.Terms.{Terms, rules_of, terms_of}
use Rattle.bg_match.specs.declared.limits.Rules.{Rules}
use Rattle.bg_match.specs.declared.limits.Rules.TheVariants as rules
use Rattle.bg_match.proofs.Passing.{by_phase}
use Rattle.bg_board.specs.FromTo.{FromTo}
use Rattle.bg_board.specs.Position.{start_position}
use Rattle.bg_board.specs.Step.{after_step}
use Rattle.bg_board.specs.declared.dice.Die.TheVariants.{One, Three}
use Rattle.bg_board.specs.declared.players.Player.TheVariants.{X}
use Rattle.bg_turns.proofs.Computed.{step_from}
use Rattle.bg_turns.proofs.Orders.{playable_few}
use Rattle.bg_turns.specs.Dice.{dice_of}
use Rattle.bg_turns.specs.Turn.{IsLegalTurn, IsTurn}
use Rattle.bg_turns.specs.declared.throws.Dice.{Dice}
use Rattle.bg_match.specs.Match.{IsNext, ActsAfter, at_number}
use Rattle.bg_match.specs.State.{State as Standing, start_of}
use Rattle.bg_match.specs.declared.actions.Action.TheVariants as action
use Rattle.bg_match.specs.declared.entries.Entry.{Entry}
use Rattle.bg_match.specs.declared.entries.Entry.TheVariants as entry
use Rattle.bg_match.specs.declared.phases.Actor.TheVariants.{Seat}
use Rattle.bg_match.specs.declared.phases.Phase.TheVariants as phase
use Rattle.bg_wire.specs.Packets.PacketText.{IsPacket, packet_text}
use Rattle.bg_wire.specs.Runs.{IsRun}
use Rattle.bg_wire.proofs.OfSaves.SavedLaws.{written_is_saved}
use Rattle.bg_wire.specs.Saved.SavedText.{SavedParts, IsWrittenText, written_text}
use Rattle.bg_wire.specs.declared.packets.Datagram.{Datagram}
use Rattle.bg_wire.specs.declared.packets.Packet.{Packet}
use Rattle.bg_wire.specs.declared.packets.Packet.TheVariants as packet
use Rattle.bg_referee.specs.Dues.{IsDue}
use Rattle.bg_wire.proofs.OfSaves.OneText.{empty_loads}
use Rattle.bg_referee.specs.declared.outcomes.TakeOutcome.TheVariants as takes
use Rattle.bg_party.specs.declared.outcomes.Learned.TheVariants as learns
use Rattle.bg_protocol.specs.declared.events.Event.{Event}
use Rattle.bg_protocol.specs.declared.events.Event.TheVariants as events
use Rattle.bg_protocol.specs.declared.events.Outcome.{Outcome}
use Rattle.bg_protocol.specs.declared.events.Outcome.TheVariants as outcomes
use Rattle.bg_protocol.specs.Protocol.Datagrams.{Carries, WasSent}
use Rattle.bg_protocol.specs.Protocol.DueStep.{with_entry}
use Rattle.bg_protocol.specs.Protocol.RefereeTakeStep.{ReplyStep}
use Rattle.bg_protocol.specs.Protocol.Runs.{Run, IsReached}
use Rattle.bg_protocol.specs.Protocol.State.{ProtocolState, with_seat, saved_log, log_of, protocol_start}
use Rattle.bg_protocol.specs.Protocol.Step.{Step}
use Rattle.bg_protocol.proofs.Protocol.Lists.{prefix_length}
use Rattle.bg_protocol.proofs.Protocol.Reached.{reached, agreement}

abbrev step : ℕ → ℕ → FromTo
step f t = record { from = f; to = t }

abbrev three_one : Dice
three_one = record { first = Three; second = One }

abbrev turn : List FromTo
turn = step 8 5 ∷ step 6 5 ∷ []

-- X opens a match of one point with 3 1, and moves 8-5 6-5
abbrev opening : Entry
opening = entry.Opening Three One

abbrev move : Entry
move = entry.Moved turn

legal_turn : IsLegalTurn start_position X three_one turn
legal_turn = record {
  playable = (0, omega arith, step_from start_position X (step 8 5) 3 refl, (0, omega arith, step_from (after_step start_position X (step 8 5)) X (step 6 5) 1 refl, tt));
  complete = inr (playable_few start_position X (3 ∷ 1 ∷ []), λ s is. absurd cc);
}

abbrev one_point : Terms
one_point = terms_of 1 rules.One

abbrev to_move : Standing
to_move = record (start_of one_point) { phase = phase.ToMove X three_one }

-- by the first rules no turn is passed
plays : (s : Standing) → rules_of s.terms ≡ rules.One → passes s ≡ false
unfolding passes passes_in
plays s one = ap (λ (r : Rules). passes_in r s.board s.phase) one

opening_next : IsNext one_point [] opening
opening_next = (omega arith, (to_move, (to_move, (refl, λ h. omega arith, refl), refl)))

x_acts : ActsAfter one_point (opening ∷ []) (Seat X)
x_acts = (to_move, (to_move, (refl, λ h. omega arith, refl), refl), sym (by_phase to_move (plays to_move refl)))

move_next : IsNext one_point (opening ∷ []) move
move_next = (omega arith, (_, (to_move, (refl, λ h. omega arith, refl), (_, (X, three_one, refl, plays to_move refl, legal_turn, refl), refl))))

-- word 12 has the dice 3 1
opening_due : IsDue one_point [] 12 opening
unfolding dice_of
opening_due = (inl (three_one, refl, refl), opening_next)

-- ---- the first turn of a match with a watcher, as a run

-- the datagram of a packet
abbrev datagram : ℕ → Packet → Datagram
datagram to p = record { to = to; bytes = packet_text p }

carries : (to : ℕ) (p : Packet) → IsPacket p → Carries (datagram to p) to p
carries to p is = (refl, record { in_range = is; spelled = refl })

-- a packet alone is sent to the referee
alone : (p : Packet) → IsPacket p → All (λ d. Carries d 0 p) (datagram 0 p ∷ [])
alone p is = All-cons (λ d. Carries d 0 p) (datagram 0 p) [] (carries 0 p is) (All-nil (λ d. Carries d 0 p))

-- what a list tells from number 1 on stands there
run_of : (list : List Entry) → IsRun list 1 list
run_of list i e h = at list (1 + i) i (omega arith) h
  where
    at : (list : List Entry) (n i : ℕ) → n ≡ suc i → slice_get list i ≡ Some e → at_number list n ≡ Some e
    at list zero i same h = absurd (omega arith)
    at list (suc j) i same h = subst (λ (k : ℕ). slice_get list k ≡ Some e) (omega arith) h

abbrev want : ℕ → ℕ → Packet
want party held = packet.Want 1 rules.One party held

want_fits : (party : ℕ) → 1 ≤ party → party ≤ 255 → IsPacket (want party 0)
want_fits party low high = record { id_fits = lit< tt; first_party = low; last_party = high; held_at_most = omega arith }

abbrev claim : Packet
claim = packet.Claim 1 rules.One 1 2 (action.Move turn)

abbrev opening_told : Packet
opening_told = packet.Entries 1 rules.One 1 (opening ∷ [])

abbrev turn_told : Packet
turn_told = packet.Entries 1 rules.One 1 (opening ∷ move ∷ [])

-- what is saved: the opening, then X's claim, then the whole turn
abbrev save_of_opening : SavedParts
save_of_opening = record { party = 0; id = 1; terms = one_point; save = 1; claim = None; entries = opening ∷ [] }

abbrev save_of_claim : SavedParts
save_of_claim = record { party = 1; id = 1; terms = one_point; save = 1; claim = Some (2, action.Move turn); entries = opening ∷ [] }

abbrev save_of_turn : SavedParts
save_of_turn = record { party = 0; id = 1; terms = one_point; save = 2; claim = None; entries = opening ∷ move ∷ [] }

turn_in_range : IsTurn turn
turn_in_range = record {
  few = omega arith;
  each = (record { starts = omega arith; lower = omega arith }, (record { starts = omega arith; lower = omega arith }, tt));
}

opening_written : IsWrittenText save_of_opening (written_text save_of_opening)
opening_written = record {
  layout = record {
    in_layout = record {
      party = omega arith;
      id_fits = lit< tt;
      shortest = omega arith;
      longest = omega arith;
      rules = tt;
      first_save = omega arith;
      last_save = lit≤ tt;
      claim = tt;
      few = omega arith;
      in_range = (tt, tt);
    };
    spelled = refl;
  };
  legal = opening_next;
}

claim_written : IsWrittenText save_of_claim (written_text save_of_claim)
claim_written = record {
  layout = record {
    in_layout = record {
      party = omega arith;
      id_fits = lit< tt;
      shortest = omega arith;
      longest = omega arith;
      rules = tt;
      first_save = omega arith;
      last_save = lit≤ tt;
      claim = (omega arith, (omega arith, omega arith, turn_in_range));
      few = omega arith;
      in_range = (tt, tt);
    };
    spelled = refl;
  };
  legal = opening_next;
}

turn_written : IsWrittenText save_of_turn (written_text save_of_turn)
turn_written = record {
  layout = record {
    in_layout = record {
      party = omega arith;
      id_fits = lit< tt;
      shortest = omega arith;
      longest = omega arith;
      rules = tt;
      first_save = omega arith;
      last_save = lit≤ tt;
      claim = tt;
      few = omega arith;
      in_range = (tt, (turn_in_range, tt));
    };
    spelled = refl;
  };
  legal = move_next;
}

claim_fits : IsPacket claim
claim_fits = record {
  id_fits = lit< tt;
  first_seat = omega arith;
  last_seat = omega arith;
  first_entry = omega arith;
  last_entry = omega arith;
  action_in_range = turn_in_range;
}

opening_fits : IsPacket opening_told
opening_fits = record {
  id_fits = lit< tt;
  first_entry = omega arith;
  some = omega arith;
  few = omega arith;
  last_entry = omega arith;
  in_range = (tt, tt);
}

turn_fits : IsPacket turn_told
turn_fits = record {
  id_fits = lit< tt;
  first_entry = omega arith;
  some = omega arith;
  few = omega arith;
  last_entry = omega arith;
  in_range = (tt, (turn_in_range, tt));
}

-- match 1, which is played to one point, with one watcher
abbrev started : ProtocolState
started = protocol_start 1 one_point 1

abbrev opened : ProtocolState
opened = with_entry started opening

abbrev opening_saved : ProtocolState
opening_saved = record opened {
  referee = record (opened.referee) {
    saved = 1;
    slots = record { zero = []; one = written_text save_of_opening };
    restorable = Some save_of_opening;
  };
}

abbrev x_asked : ProtocolState
x_asked = record opening_saved { sent = datagram 0 (want 1 0) ∷ [] }

abbrev x_answered : ProtocolState
x_answered = record x_asked { sent = x_asked.sent ++ datagram 1 opening_told ∷ [] }

abbrev x_learned : ProtocolState
x_learned = with_seat x_answered X (record (x_answered.x) { log = opening ∷ [] })

abbrev x_chose : ProtocolState
x_chose = with_seat x_learned X (record (x_learned.x) { claim = Some (2, action.Move turn); claim_saved = false })

abbrev claim_saved : ProtocolState
claim_saved = with_seat x_chose X (record (x_chose.x) {
  claim_saved = true;
  slots = record { zero = []; one = written_text save_of_claim };
  restorable = Some save_of_claim;
})

abbrev x_claimed : ProtocolState
x_claimed = record claim_saved { sent = claim_saved.sent ++ datagram 0 claim ∷ [] }

abbrev accepted : ProtocolState
accepted = with_entry x_claimed move

abbrev turn_saved : ProtocolState
turn_saved = record accepted {
  referee = record (accepted.referee) {
    saved = 2;
    slots = record { zero = written_text save_of_turn; one = written_text save_of_opening };
    restorable = Some save_of_turn;
  };
}

abbrev watcher_asked : ProtocolState
watcher_asked = record turn_saved { sent = turn_saved.sent ++ datagram 0 (want 3 0) ∷ [] }

abbrev watcher_answered : ProtocolState
watcher_answered = record watcher_asked { sent = watcher_asked.sent ++ datagram 3 turn_told ∷ [] }

abbrev watcher_learned : ProtocolState
watcher_learned = record watcher_answered { watchers = (opening ∷ move ∷ []) ∷ [] }

game_opens : Step started (events.Due 12) (outcomes.Due (Ok 1)) opened
game_opens = (opening, opening_due, refl, refl)

opening_is_saved : Step opened (events.Save 0) (outcomes.Saved 1) opening_saved
opening_is_saved = (
  refl,
  (
    _,
    _,
    record {
      text = written_text save_of_opening;
      is_text = opening_written;
      after = record {
        slots = refl;
        restore = record { first = None; second = Some save_of_opening; first_loads = empty_loads; second_loads = written_is_saved _ _ opening_written; is_newer = refl };
      };
    },
    refl,
  ),
)

x_asks : Step opening_saved (events.Tick 1) (outcomes.Sent 1) x_asked
x_asks = (
  record {
    out = datagram 0 (want 1 0) ∷ [];
    few = omega arith;
    each = alone (want 1 0) (want_fits 1 (omega arith) (omega arith));
    after = refl;
  },
  refl,
)

x_is_answered : Step x_asked (events.Take 0 0 0) (outcomes.Took (takes.Answer 1 opening_told)) x_answered
x_is_answered = (
  want 1 0,
  (datagram 0 (want 1 0), (0, omega arith, refl), carries 0 (want 1 0) (want_fits 1 (omega arith) (omega arith))),
  ((λ e h. h), ((refl, refl), run_of (opening ∷ [])), (datagram 1 opening_told, carries 1 opening_told opening_fits, refl)),
)

opening_was_sent : WasSent x_answered.sent 1 opening_told
opening_was_sent = (datagram 1 opening_told, (1, omega arith, refl), carries 1 opening_told opening_fits)

x_learns : Step x_answered (events.Take 1 0 0) (outcomes.Learned (learns.Grew 1)) x_learned
x_learns = (
  _,
  (
    opening ∷ [],
    (
      opening_told,
      opening_was_sent,
      (
        omega arith,
        refl,
        record {
          more = opening ∷ [];
          is = refl;
          legal = opening_next;
          shown = λ i e h. record { start = 1; list = opening ∷ []; came = opening_was_sent; place = i; number = omega arith; stands = h };
        },
        λ continues. run_of (opening ∷ []),
      ),
    ),
    refl,
  ),
  refl,
)

x_chooses : Step x_learned (events.Choose X (action.Move turn)) (outcomes.Chose (Ok 2)) x_chose
x_chooses = (_, ((x_acts, omega arith, (move, refl, move_next)), refl, refl), refl)

claim_is_saved : Step x_chose (events.Save 1) (outcomes.Saved 1) claim_saved
claim_is_saved = (
  _,
  (
    refl,
    (
      _,
      _,
      record {
        text = written_text save_of_claim;
        is_text = claim_written;
        after = record {
          slots = refl;
          restore = record { first = None; second = Some save_of_claim; first_loads = empty_loads; second_loads = written_is_saved _ _ claim_written; is_newer = refl };
        };
      },
      refl,
    ),
  ),
  refl,
)

x_claims : Step claim_saved (events.Tick 1) (outcomes.Sent 1) x_claimed
x_claims = (
  record {
    out = datagram 0 claim ∷ [];
    few = omega arith;
    each = alone claim claim_fits;
    after = refl;
  },
  refl,
)

claim_is_accepted : Step x_claimed (events.Take 0 1 0) (outcomes.Took (takes.Accepted 2)) accepted
claim_is_accepted = (
  claim,
  (datagram 0 claim, (2, omega arith, refl), carries 0 claim claim_fits),
  (move, ((refl, refl), refl, (X, x_acts, refl), refl, move_next), refl, refl),
)

turn_is_saved : Step accepted (events.Save 0) (outcomes.Saved 2) turn_saved
turn_is_saved = (
  refl,
  (
    _,
    _,
    record {
      text = written_text save_of_turn;
      is_text = turn_written;
      after = record {
        slots = refl;
        restore = record { first = Some save_of_turn; second = Some save_of_opening; first_loads = written_is_saved _ _ turn_written; second_loads = written_is_saved _ _ opening_written; is_newer = refl };
      };
    },
    refl,
  ),
)

watcher_asks : Step turn_saved (events.Tick 3) (outcomes.Sent 1) watcher_asked
watcher_asks = (
  record {
    out = datagram 0 (want 3 0) ∷ [];
    few = omega arith;
    each = alone (want 3 0) (want_fits 3 (omega arith) (omega arith));
    after = refl;
  },
  refl,
)

watcher_is_answered : Step watcher_asked (events.Take 0 2 0) (outcomes.Took (takes.Answer 3 turn_told)) watcher_answered
watcher_is_answered = (
  want 3 0,
  (datagram 0 (want 3 0), (3, omega arith, refl), carries 0 (want 3 0) (want_fits 3 (omega arith) (omega arith))),
  ((λ e h. h), ((refl, refl), run_of (opening ∷ move ∷ [])), (datagram 3 turn_told, carries 3 turn_told turn_fits, refl)),
)

turn_was_sent : WasSent watcher_answered.sent 3 turn_told
turn_was_sent = (datagram 3 turn_told, (4, omega arith, refl), carries 3 turn_told turn_fits)

watcher_learns : Step watcher_answered (events.Take 3 0 0) (outcomes.Learned (learns.Grew 2)) watcher_learned
watcher_learns = (
  opening ∷ move ∷ [],
  (
    turn_told,
    turn_was_sent,
    (
      omega arith,
      refl,
      record {
        more = opening ∷ move ∷ [];
        is = refl;
        legal = move_next;
        shown = λ i e h. record { start = 1; list = opening ∷ move ∷ []; came = turn_was_sent; place = i; number = omega arith; stands = h };
      },
      λ continues. run_of (opening ∷ move ∷ []),
    ),
  ),
  refl,
)

-- the whole turn, from the opening to the watcher who sees it, is a run
abbrev first_turn : List (Event × Outcome)
first_turn =
    (events.Due 12, outcomes.Due (Ok 1))
    ∷ (events.Save 0, outcomes.Saved 1)
    ∷ (events.Tick 1, outcomes.Sent 1)
    ∷ (events.Take 0 0 0, outcomes.Took (takes.Answer 1 opening_told))
    ∷ (events.Take 1 0 0, outcomes.Learned (learns.Grew 1))
    ∷ (events.Choose X (action.Move turn), outcomes.Chose (Ok 2))
    ∷ (events.Save 1, outcomes.Saved 1)
    ∷ (events.Tick 1, outcomes.Sent 1)
    ∷ (events.Take 0 1 0, outcomes.Took (takes.Accepted 2))
    ∷ (events.Save 0, outcomes.Saved 2)
    ∷ (events.Tick 3, outcomes.Sent 1)
    ∷ (events.Take 0 2 0, outcomes.Took (takes.Answer 3 turn_told))
    ∷ (events.Take 3 0 0, outcomes.Learned (learns.Grew 2))
    ∷ []

pub first_turn_is_a_run : Run started first_turn watcher_learned
first_turn_is_a_run = (
  opened,
  game_opens,
  (
    opening_saved,
    opening_is_saved,
    (
      x_asked,
      x_asks,
      (
        x_answered,
        x_is_answered,
        (
          x_learned,
          x_learns,
          (
            x_chose,
            x_chooses,
            (
              claim_saved,
              claim_is_saved,
              (
                x_claimed,
                x_claims,
                (
                  accepted,
                  claim_is_accepted,
                  (
                    turn_saved,
                    turn_is_saved,
                    (watcher_asked, watcher_asks, (watcher_answered, watcher_is_answered, (watcher_learned, watcher_learns, refl))),
                  ),
                ),
              ),
            ),
          ),
        ),
      ),
    ),
  ),
)

-- ---- what is no run, and no step

-- no run leads to a state in which a watcher holds more than the referee has saved, as a roll that
-- is not saved
pub unsaved_roll_is_held_by_nobody : (w : ProtocolState) (log : List Entry) → log_of w 3 ≡ Some log → w.referee.saved < length log → IsReached w → ⊥
unsaved_roll_is_held_by_nobody w log holds more h =
    let p = (agreement w (reached w h)).followers 3 log (omega arith) holds in
    omega (arith, prefix_length log (saved_log w) p, length-take-most w.referee.saved w.referee.log)
  where
    length-take-most : (n : ℕ) (xs : List Entry) → length (take n xs) ≤ n
    length-take-most zero xs = omega arith
    length-take-most (suc n) [] = omega arith
    length-take-most (suc n) (x ∷ xs) = let k = length-take-most n xs in omega arith

-- the claim of the move is accepted once: where the referee holds the move, taking the same claim
-- again is no such step
pub claim_is_accepted_once : (word n : ℕ) (v : ProtocolState) → ReplyStep accepted word claim (takes.Accepted n) v → ⊥
claim_is_accepted_once word n v h = let next = h.1.1 in omega arith
