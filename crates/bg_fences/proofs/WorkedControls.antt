-- What the fence is for: without it, or with one that lets an equal number through, entries that
-- were told are lost. So they are where a process begins late, but counts its saves from the newest.
-- And what a process of the referee holds beyond what it counts as saved is not settled.
use Rattle.std.specs.Prelude.{ℕ, ◌+◌, ◌≤◌, true, Some, [], ◌∷◌, ◌++◌, Contains}
use Rattle.std.proofs.Common.{refl, arith, lit<, lit≤}
use Rattle.bg_match.specs.Match.{IsNext}
use Rattle.bg_match.specs.declared.entries.Entry.{Entry}
use Rattle.bg_wire.proofs.OfSaves.SavedLaws.{written_is_saved}
use Rattle.bg_wire.specs.Saved.SavedText.{SavedParts, IsWrittenText, written_text}
use Rattle.bg_wire.specs.Saved.SlotLaws.{save_in}
use Rattle.bg_protocol.specs.Promises.Agreement.{IsPrefix}
use Rattle.bg_protocol.specs.Protocol.SaveStep.{RefereeSaveStep}
use Rattle.bg_protocol.specs.Protocol.State.{ProtocolState}
use Rattle.bg_protocol.specs.declared.events.Outcome.TheVariants as outcomes
use Rattle.bg_fences.specs.FencedPromises.{FencedHeadline}
use Rattle.bg_fences.specs.ProcessCalls.{IsNewest}
use Rattle.bg_fences.specs.ProcessRuns.{IsReachedByProcesses}
use Rattle.bg_fences.specs.SharedMatches.{RefereeProcess, SharedMatch, Stored, begun_referee, seen_by_referee, settled}
use Rattle.bg_fences.proofs.Lists.{head_in, tail_in}
use Rattle.bg_fences.proofs.WorkedProcesses.{holds, nobody, o_next, o_opens, one_saved, saved, saved_written, two_referees_differ, x_opens}

-- the process whose opening was not saved
abbrev stale : RefereeProcess
stale = holds (o_opens ∷ []) 0 0

-- the opening of X is no front of the opening of O
not_a_front : IsPrefix (x_opens ∷ []) (o_opens ∷ []) → ⊥
not_a_front p = let h = p.1 in absurd cc

-- what the stale process would save: save 2, with its own opening
abbrev over : SavedParts
over = record saved { save = 2; entries = o_opens ∷ [] }

over_written : IsWrittenText over (written_text over)
over_written = record {
  layout = record {
    in_layout = record {
      party = omega arith;
      id_fits = lit< tt;
      shortest = omega arith;
      longest = omega arith;
      rules = tt;
      first_save = omega arith;
      last_save = lit≤ tt;
      claim = tt;
      few = omega arith;
      in_range = (tt, tt);
    };
    spelled = refl;
  };
  legal = o_next;
}

abbrev overwritten : Stored
overwritten = record { slots = record { zero = written_text over; one = written_text saved }; restorable = Some over }

-- the row of the protocol lets it save, as it takes itself for the only process
would_save : RefereeSaveStep (seen_by_referee one_saved stale) (outcomes.Saved 2)
    (record (seen_by_referee one_saved stale) {
      referee = record { up = true; log = o_opens ∷ []; saved = 1; slots = overwritten.slots; restorable = overwritten.restorable };
    })
would_save = (
  refl,
  (
    overwritten.slots,
    Some over,
    record {
      text = written_text over;
      is_text = over_written;
      after = record {
        slots = refl;
        restore = record { first = Some over; second = Some saved; first_loads = written_is_saved _ _ over_written; second_loads = written_is_saved _ _ saved_written; is_newer = refl };
      };
    },
    refl,
  ),
)

-- what is stored then is not what the other process has told
breaks : FencedHeadline (record one_saved { referee = overwritten }) → ⊥
breaks h = not_a_front (h.told (holds (x_opens ∷ []) 1 1) (head_in (holds (x_opens ∷ []) 1 1) (stale ∷ [])))

-- so no fence at all breaks the headline
pub no_fence : ((m : SharedMatch) (p : RefereeProcess) (k : ℕ) (v : ProtocolState) → IsReachedByProcesses m → Contains m.referees p
    → RefereeSaveStep (seen_by_referee m p) (outcomes.Saved k) v
    → FencedHeadline (record m { referee = record { slots = v.referee.slots; restorable = v.referee.restorable } })) → ⊥
no_fence law = breaks (law one_saved stale 2 _ two_referees_differ (tail_in (holds (x_opens ∷ []) 1 1) stale (stale ∷ []) (head_in stale [])) would_save)

-- and so does one that takes a save whose number is that of the newest, as the next number of this
-- process is
pub equal_number : ((m : SharedMatch) (p : RefereeProcess) (k : ℕ) (v : ProtocolState) → IsReachedByProcesses m → Contains m.referees p
    → save_in m.referee.restorable ≤ p.last_save + 1 → RefereeSaveStep (seen_by_referee m p) (outcomes.Saved k) v
    → FencedHeadline (record m { referee = record { slots = v.referee.slots; restorable = v.referee.restorable } })) → ⊥
equal_number law = breaks (law one_saved stale 2 _ two_referees_differ (tail_in (holds (x_opens ∷ []) 1 1) stale (stale ∷ []) (head_in stale [])) (omega arith) would_save)

-- the process that began with what the slots of another state restored, and holds one entry more
abbrev one_later : SharedMatch → Entry → ℕ → RefereeProcess
one_later past e number = let p = begun_referee past.referee in holds (p.log ++ e ∷ []) p.saved number

-- where it counts its saves from the newest, although it began with nothing, the fence lets it
-- through
pub late_number : ((past m : SharedMatch) (e : Entry) (k : ℕ) (v : ProtocolState) → IsReachedByProcesses m
    → IsNext m.terms (begun_referee past.referee).log e → IsNewest m.referee.restorable (one_later past e (save_in m.referee.restorable)).last_save
    → RefereeSaveStep (seen_by_referee m (one_later past e (save_in m.referee.restorable))) (outcomes.Saved k) v
    → FencedHeadline (record m { referee = record { slots = v.referee.slots; restorable = v.referee.restorable } })) → ⊥
late_number law = breaks (law nobody one_saved o_opens 2 _ two_referees_differ o_next refl would_save)

-- the whole record of a process of the referee is no front of what is settled
pub whole_record : ((m : SharedMatch) → IsReachedByProcesses m → (p : RefereeProcess) → Contains m.referees p → IsPrefix p.log (settled m)) → ⊥
whole_record law = not_o (law one_saved two_referees_differ stale (tail_in (holds (x_opens ∷ []) 1 1) stale (stale ∷ []) (head_in stale [])))
  where
    not_o : IsPrefix (o_opens ∷ []) (x_opens ∷ []) → ⊥
    not_o p = let h = p.1 in absurd cc
