-- A worked run in which a process begins late: the referee has saved twice, and a reader that lags
-- behind still finds the first save. The process that begins with it sends what it holds, and can
-- save nothing.
use Rattle.std.specs.Prelude.{◌≡◌, ℕ, suc, ◌+◌, Some, None, [], ◌∷◌, Ok}
use Rattle.std.proofs.Common.{refl, subst, arith, lit<, lit≤}
use Rattle.std.proofs.lemmas.List.Elements.{All-cons, All-nil}
use Rattle.bg_match.specs.Match.{at_number}
use Rattle.bg_match.specs.declared.limits.Rules.TheVariants as rules
use Rattle.bg_wire.proofs.OfSaves.OneText.{empty_loads}
use Rattle.bg_wire.proofs.OfSaves.SavedLaws.{written_is_saved}
use Rattle.bg_wire.specs.Packets.PacketText.{IsPacket}
use Rattle.bg_wire.specs.Runs.{IsRun}
use Rattle.bg_wire.specs.Saved.SavedText.{IsWrittenText, SavedParts, written_text}
use Rattle.bg_wire.specs.declared.packets.Datagram.{Datagram}
use Rattle.bg_wire.specs.declared.packets.Packet.{Packet}
use Rattle.bg_wire.specs.declared.packets.Packet.TheVariants as packet
use Rattle.bg_protocol.proofs.Steps.Hands.{carries}
use Rattle.bg_protocol.specs.Devices.DeviceCalls.{datagram_of}
use Rattle.bg_protocol.specs.Protocol.RefereeTakeStep.{ShowsSaved}
use Rattle.bg_protocol.specs.Protocol.State.{Exists}
use Rattle.bg_protocol.specs.declared.events.Event.TheVariants as events
use Rattle.bg_protocol.specs.declared.events.Outcome.TheVariants as outcomes
use Rattle.bg_fences.specs.ProcessCalls.{ProcessCalls, RefereeSaves}
use Rattle.bg_fences.specs.ProcessRuns.{IsReachedByProcesses}
use Rattle.bg_fences.specs.SharedMatches.{RefereeProcess, SharedMatch, seen_by_referee}
use Rattle.bg_fences.proofs.Lists.{head_in, tail_in}
use Rattle.bg_fences.proofs.WorkedProcesses.{holds, nobody, one_point, saved, saved_written, x_due, x_next, x_opens}

-- ---- the saves

abbrev pub saved_again : SavedParts
saved_again = record saved { save = 2 }

pub again_written : IsWrittenText saved_again (written_text saved_again)
again_written = record {
  layout = record {
    in_layout = record {
      party = omega arith;
      id_fits = lit< tt;
      shortest = omega arith;
      longest = omega arith;
      rules = tt;
      first_save = omega arith;
      last_save = lit≤ tt;
      claim = tt;
      few = omega arith;
      in_range = (tt, tt);
    };
    spelled = refl;
  };
  legal = x_next;
}

-- ---- the states, one after another

abbrev begun_once : SharedMatch
begun_once = record nobody { referees = holds [] 0 0 ∷ [] }

abbrev opened : SharedMatch
opened = record nobody { referees = holds (x_opens ∷ []) 0 0 ∷ [] }

abbrev saved_once : SharedMatch
saved_once = record nobody {
  referee = record { slots = record { zero = []; one = written_text saved }; restorable = Some saved };
  referees = holds (x_opens ∷ []) 1 1 ∷ [];
}

abbrev saved_twice : SharedMatch
saved_twice = record nobody {
  referee = record { slots = record { zero = written_text saved_again; one = written_text saved }; restorable = Some saved_again };
  referees = holds (x_opens ∷ []) 1 2 ∷ [];
}

-- what the late process holds: all of the first save
abbrev pub late : RefereeProcess
late = holds (x_opens ∷ []) 1 1

abbrev pub late_begun : SharedMatch
late_begun = record saved_twice { referees = late ∷ holds (x_opens ∷ []) 1 2 ∷ [] }

-- what it sends to the seat of X
abbrev pub told : Packet
told = packet.Entries 1 rules.One 1 (x_opens ∷ [])

abbrev pub late_sent : SharedMatch
late_sent = record late_begun { sent = datagram_of 1 told ∷ [] }

-- ---- its calls

saves_once : ProcessCalls (opened ∷ begun_once ∷ nobody ∷ []) opened (events.Save 0) (outcomes.Saved 1) saved_once
saves_once = (
  holds (x_opens ∷ []) 0 0,
  (
    _,
    _,
    refl,
    (
      refl,
      (
        _,
        _,
        record {
          text = written_text saved;
          is_text = saved_written;
          after = record {
            slots = refl;
            restore = record { first = None; second = Some saved; first_loads = empty_loads; second_loads = written_is_saved _ _ saved_written; is_newer = refl };
          };
        },
        refl,
      ),
    ),
    ([], [], refl, refl),
    refl,
  ),
)

saves_twice : ProcessCalls (saved_once ∷ opened ∷ begun_once ∷ nobody ∷ []) saved_once (events.Save 0) (outcomes.Saved 2) saved_twice
saves_twice = (
  holds (x_opens ∷ []) 1 1,
  (
    _,
    _,
    refl,
    (
      refl,
      (
        _,
        _,
        record {
          text = written_text saved_again;
          is_text = again_written;
          after = record {
            slots = refl;
            restore = record {
              first = Some saved_again;
              second = Some saved;
              first_loads = written_is_saved _ _ again_written;
              second_loads = written_is_saved _ _ saved_written;
              is_newer = refl;
            };
          };
        },
        refl,
      ),
    ),
    ([], [], refl, refl),
    refl,
  ),
)

-- it finds what the slots restored a moment ago
begins_late : ProcessCalls (saved_twice ∷ saved_once ∷ opened ∷ begun_once ∷ nobody ∷ []) saved_twice (events.Restart 0) outcomes.Restarted late_begun
begins_late = (saved_once, tail_in saved_twice saved_once (saved_once ∷ opened ∷ begun_once ∷ nobody ∷ []) (head_in saved_once (opened ∷ begun_once ∷ nobody ∷ [])), refl)

told_fits : IsPacket told
told_fits = record { id_fits = lit< tt; first_entry = omega arith; some = omega arith; few = omega arith; last_entry = lit≤ tt; in_range = (tt, tt) }

told_is_saved : IsRun (x_opens ∷ []) 1 (x_opens ∷ [])
told_is_saved i e h = let next : suc i ≡ 1 + i = omega arith in subst (λ (n : ℕ). at_number (x_opens ∷ []) n ≡ Some e) next h

abbrev MayTell : Datagram → Type 0
MayTell d = Exists (seen_by_referee late_begun late) d.to × ShowsSaved (seen_by_referee late_begun late) d

tells : ProcessCalls (late_begun ∷ saved_twice ∷ saved_once ∷ opened ∷ begun_once ∷ nobody ∷ []) late_begun (events.Tick 0) (outcomes.Sent 1) late_sent
tells = (
  late,
  record (seen_by_referee late_begun late) { sent = datagram_of 1 told ∷ [] },
  (
    record {
      out = datagram_of 1 told ∷ [];
      few = omega arith;
      each = All-cons MayTell (datagram_of 1 told) [] (omega arith, (told, carries 1 told told_fits, ((refl, refl), told_is_saved))) (All-nil MayTell);
      after = refl;
    },
    refl,
  ),
  (late ∷ holds (x_opens ∷ []) 1 2 ∷ [], ([], holds (x_opens ∷ []) 1 2 ∷ [], refl, refl), refl),
)

pub late_process_tells : IsReachedByProcesses late_sent
late_process_tells = record {
  id = 1;
  terms = one_point;
  watchers = 0;
  setup = record { id_fits = lit< tt; length_in_range = (omega arith, omega arith); few = omega arith };
  history = (events.Restart 0, outcomes.Restarted) ∷ (events.Due 12, outcomes.Due (Ok 1)) ∷ (events.Save 0, outcomes.Saved 1) ∷ (events.Save 0, outcomes.Saved 2)
      ∷ (events.Restart 0, outcomes.Restarted) ∷ (events.Tick 0, outcomes.Sent 1) ∷ [];
  run = (
    begun_once,
    (nobody, head_in nobody [], refl),
    (
      opened,
      (holds [] 0 0, _, (x_opens, x_due, refl, refl), (_, ([], [], refl, refl), refl)),
      (saved_once, saves_once, (saved_twice, saves_twice, (late_begun, begins_late, (late_sent, tells, refl)))),
    ),
  );
}

-- and it can save nothing
pub late_is_refused : (k : ℕ) (n : SharedMatch) → RefereeSaves late_sent late (outcomes.Saved k) n → ⊥
late_is_refused k n h = omega (h.2, arith)
