-- A worked run: two processes of the referee open the same game by different words. The first save
-- counts; the other process is refused.
use Rattle.std.specs.Prelude.{ℕ, Some, None, List, [], ◌∷◌, Ok}
use Rattle.std.proofs.Common.{refl, arith, inl, lit<, lit≤}
use Rattle.bg_board.specs.declared.dice.Die.TheVariants.{One, Three}
use Rattle.bg_board.specs.declared.players.Player.TheVariants.{X, O}
use Rattle.bg_turns.specs.Dice.{dice_of}
use Rattle.bg_turns.specs.declared.throws.Dice.{Dice}
use Rattle.bg_match.specs.Match.{IsNext}
use Rattle.bg_match.specs.State.{State as Standing, start_of}
use Rattle.bg_match.specs.Terms.{Terms, terms_of}
use Rattle.bg_match.specs.declared.entries.Entry.{Entry}
use Rattle.bg_match.specs.declared.entries.Entry.TheVariants as entry
use Rattle.bg_match.specs.declared.limits.Rules.TheVariants as rules
use Rattle.bg_match.specs.declared.phases.Phase.TheVariants as phase
use Rattle.bg_referee.specs.Dues.{IsDue}
use Rattle.bg_wire.proofs.OfSaves.OneText.{empty_loads}
use Rattle.bg_wire.proofs.OfSaves.SavedLaws.{written_is_saved}
use Rattle.bg_wire.specs.Saved.SavedText.{SavedParts, IsWrittenText, written_text}
use Rattle.bg_protocol.specs.declared.events.Event.TheVariants as events
use Rattle.bg_protocol.specs.declared.events.Outcome.TheVariants as outcomes
use Rattle.bg_fences.specs.SharedMatches.{RefereeProcess, SharedMatch}
use Rattle.bg_fences.specs.ProcessCalls.{RefereeSaves}
use Rattle.bg_fences.specs.ProcessRuns.{IsReachedByProcesses, no_process}
use Rattle.bg_fences.proofs.Lists.{head_in, tail_in}

abbrev pub one_point : Terms
one_point = terms_of 1 rules.One

abbrev pub x_opens : Entry
x_opens = entry.Opening Three One

abbrev pub o_opens : Entry
o_opens = entry.Opening One Three

abbrev three_one : Dice
three_one = record { first = Three; second = One }

abbrev one_three : Dice
one_three = record { first = One; second = Three }

abbrev x_to_move : Standing
x_to_move = record (start_of one_point) { phase = phase.ToMove X three_one }

abbrev o_to_move : Standing
o_to_move = record (start_of one_point) { phase = phase.ToMove O one_three }

pub x_next : IsNext one_point [] x_opens
x_next = (omega arith, (x_to_move, (x_to_move, (refl, λ h. omega arith, refl), refl)))

pub o_next : IsNext one_point [] o_opens
o_next = (omega arith, (o_to_move, (o_to_move, (refl, λ h. omega arith, refl), refl)))

pub x_due : IsDue one_point [] 12 x_opens
unfolding dice_of
x_due = (inl (three_one, refl, refl), x_next)

pub o_due : IsDue one_point [] 2 o_opens
unfolding dice_of
o_due = (inl (one_three, refl, refl), o_next)

abbrev pub saved : SavedParts
saved = record { party = 0; id = 1; terms = one_point; save = 1; claim = None; entries = x_opens ∷ [] }

pub saved_written : IsWrittenText saved (written_text saved)
saved_written = record {
  layout = record {
    in_layout = record {
      party = omega arith;
      id_fits = lit< tt;
      shortest = omega arith;
      longest = omega arith;
      rules = tt;
      first_save = omega arith;
      last_save = lit≤ tt;
      claim = tt;
      few = omega arith;
      in_range = (tt, tt);
    };
    spelled = refl;
  };
  legal = x_next;
}

abbrev pub holds : List Entry → ℕ → ℕ → RefereeProcess
holds log saved last_save = record { log = log; saved = saved; last_save = last_save }

abbrev pub nobody : SharedMatch
nobody = no_process 1 one_point 0

abbrev pub with_both : RefereeProcess → RefereeProcess → SharedMatch
with_both a b = record nobody { referees = a ∷ b ∷ [] }

-- one holds what is saved, and the other another opening
abbrev pub one_saved : SharedMatch
one_saved = record (with_both (holds (x_opens ∷ []) 1 1) (holds (o_opens ∷ []) 0 0)) {
  referee = record { slots = record { zero = []; one = written_text saved }; restorable = Some saved };
}

pub two_referees_differ : IsReachedByProcesses one_saved
two_referees_differ = record {
  id = 1;
  terms = one_point;
  watchers = 0;
  setup = record { id_fits = lit< tt; length_in_range = (omega arith, omega arith); few = omega arith };
  history = (events.Restart 0, outcomes.Restarted) ∷ (events.Restart 0, outcomes.Restarted) ∷ (events.Due 12, outcomes.Due (Ok 1))
      ∷ (events.Due 2, outcomes.Due (Ok 1)) ∷ (events.Save 0, outcomes.Saved 1) ∷ [];
  run = (
    record nobody { referees = holds [] 0 0 ∷ [] },
    (nobody, head_in nobody [], refl),
    (
      with_both (holds [] 0 0) (holds [] 0 0),
      (nobody, tail_in (record nobody { referees = holds [] 0 0 ∷ [] }) nobody (nobody ∷ []) (head_in nobody []), refl),
      (
        with_both (holds (x_opens ∷ []) 0 0) (holds [] 0 0),
        (holds [] 0 0, _, (x_opens, x_due, refl, refl), (_, ([], holds [] 0 0 ∷ [], refl, refl), refl)),
        (
          with_both (holds (x_opens ∷ []) 0 0) (holds (o_opens ∷ []) 0 0),
          (holds [] 0 0, _, (o_opens, o_due, refl, refl), (_, (holds (x_opens ∷ []) 0 0 ∷ [], [], refl, refl), refl)),
          (
            one_saved,
            (
              holds (x_opens ∷ []) 0 0,
              (
                _,
                _,
                refl,
                (
                  refl,
                  (
                    _,
                    _,
                    record {
                      text = written_text saved;
                      is_text = saved_written;
                      after = record {
                        slots = refl;
                        restore = record { first = None; second = Some saved; first_loads = empty_loads; second_loads = written_is_saved _ _ saved_written; is_newer = refl };
                      };
                    },
                    refl,
                  ),
                ),
                ([], holds (o_opens ∷ []) 0 0 ∷ [], refl, refl),
                refl,
              ),
            ),
            refl,
          ),
        ),
      ),
    ),
  );
}

-- and the other can save nothing
pub other_is_refused : (k : ℕ) (n : SharedMatch) → RefereeSaves one_saved (holds (o_opens ∷ []) 0 0) (outcomes.Saved k) n → ⊥
other_is_refused k n h = omega (h.2, arith)
