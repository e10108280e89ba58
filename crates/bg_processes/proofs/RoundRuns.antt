-- What happens in a round is a run, event by event.
use Rattle.std.proofs.Common.{◌≡◌, ℕ, zero, suc, Bool, true, false, List, [], ◌∷◌, ◌++◌, Result, Ok, Err, refl, subst}
use Rattle.std.specs.Prelude.{◌==◌, ◌||◌, if◌then◌else◌, MatchResult, is_none}
use Rattle.std.specs.Bool.{MatchBool}
use Rattle.bg_match.specs.declared.actions.Action.{Action}
use Rattle.bg_wire.specs.Entries.Codes.{referee}
use Rattle.bg_wire.specs.Parties.{party_of}
use Rattle.bg_protocol.specs.declared.events.Event.{Event}
use Rattle.bg_protocol.specs.declared.events.Event.TheVariants as events
use Rattle.bg_protocol.specs.declared.events.Outcome.{Outcome}
use Rattle.bg_protocol.specs.declared.events.Outcome.TheVariants as outcomes
use Rattle.bg_processes.specs.RefereeRounds as r
use Rattle.bg_processes.specs.SeatRounds as s
use Rattle.bg_processes.specs.WatcherRounds as w
use Rattle.bg_processes.specs.Rounds.{GoesWhere, IsOverAndSaved, count_of, ends_takes, most_taken}
use Rattle.bg_processes.specs.Runs.{FollowsSave, Repeats, Restarts, Runs, Saves}
use Rattle.bg_processes.specs.declared.processes.rounds.Going.{Going}
use Rattle.bg_processes.specs.declared.processes.rounds.Going.TheVariants.{On, Over}
use Rattle.bg_auto.specs.Attempts.{held_entries}

module _ {M : Type 0} (Happens : M → Event → Outcome → M → Type 0) where
  -- some events lead from one moment to another
  abbrev pub Leads : M → M → Type 0
  Leads old new = (happened : List (Event × Outcome)) × Runs Happens old happened new

  pub none_leads : (old new : M) → new ≡ old → Leads old new
  none_leads old new is = ([], is)

  pub one_leads : (old new : M) (event : Event) (outcome : Outcome) → Happens old event outcome new → Leads old new
  one_leads old new event outcome h = ((event, outcome) ∷ [], (new, h, refl))

  runs_both : (old : M) (xs ys : List (Event × Outcome)) (mid new : M) → Runs Happens old xs mid
      → Runs Happens mid ys new → Runs Happens old (xs ++ ys) new
  runs_both old [] ys mid new first later = subst (λ (m : M). Runs Happens m ys new) first later
  runs_both old (x ∷ xs) ys mid new first later = (first.0, first.1, runs_both first.0 xs ys mid new first.2 later)

  pub both_lead : (old mid new : M) → Leads old mid → Leads mid new → Leads old new
  both_lead old mid new first later =
      (first.0 ++ later.0, runs_both old first.0 later.0 mid new first.1 later.1)

  goes_lead : (event : Event) (outcome : Outcome) (old mid new : M) (last : Bool) (Rest : Type 0)
      → Happens old event outcome mid → (Rest → Leads mid new) → MatchBool last (new ≡ mid) Rest → Leads old new
  goes_lead event outcome old mid new true Rest h leads is = ((event, outcome) ∷ [], (mid, h, is))
  goes_lead event outcome old mid new false Rest h leads rest =
      both_lead old mid new (one_leads old mid event outcome h) (leads rest)

  pub repeats_lead : (event : M → Event) (is_last : Outcome → Bool) (most : ℕ) (old new : M)
      → Repeats Happens event is_last most old new → Leads old new
  unfolding Repeats
  repeats_lead event is_last zero old new h = ([], h)
  repeats_lead event is_last (suc most) old new h =
      goes_lead (event old) h.0 old h.1 new (is_last h.0) (Repeats Happens event is_last most h.1 new) h.2
      (repeats_lead event is_last most h.1 new) h.3

  follows_lead : (party : ℕ) (old : M) (outcome : Outcome) (result : Result Bool Outcome) (new : M)
      → FollowsSave Happens party old outcome result new → Leads old new
  follows_lead party old (outcomes.Due answer) result new h = ([], h.1)
  follows_lead party old (outcomes.Took took) result new h = ([], h.1)
  follows_lead party old (outcomes.Learned learned) result new h = ([], h.1)
  follows_lead party old (outcomes.Chose answer) result new h = ([], h.1)
  follows_lead party old (outcomes.Saved save) result new h = ([], h.1)
  follows_lead party old outcomes.SavesSpent result new h = ([], h.1)
  follows_lead party old (outcomes.Sent count) result new h = ([], h.1)
  follows_lead party old outcomes.Restarted result new h = ([], h.1)
  follows_lead party old outcomes.NoDatagram result new h = ([], h.1)
  follows_lead party old (outcomes.NotAPacket fault) result new h = ([], h.1)
  follows_lead party old outcomes.Down result new h = ([], h.1)
  follows_lead party old outcomes.NoSuchParty result new h = ([], h.1)
  follows_lead party old outcomes.LinkFault result new h = ([], h.1)
  follows_lead party old outcomes.SaveFault result new h = one_leads old new (events.Restart party) h.0 h.1
  follows_lead party old (outcomes.RestoreFault cause) result new h = ([], h.1)
  follows_lead party old outcomes.Memory result new h = ([], h.1)

  pub saves_lead : (party : ℕ) (old : M) (result : Result Bool Outcome) (new : M) → Saves Happens party old result new
      → Leads old new
  saves_lead party old result new h =
      both_lead old h.1 new (one_leads old h.1 (events.Save party) h.0 h.2)
      (follows_lead party h.1 h.0 result new h.3)

-- ---- the referee

module _ (link_honest keeper_honest : Type 0) where
  news_lead : (old : r.RefereeMoment) (result : Result Bool Outcome) (new : r.RefereeMoment)
      → r.SavesNews link_honest keeper_honest old result new
      → Leads (r.RefereeHappens link_honest keeper_honest) old new
  news_lead old result new h = go (is_none (r.log_of old)) h where
    up : (same : Bool)
        → MatchBool same ((result ≡ Ok false) × (new ≡ old))
        (Saves (r.RefereeHappens link_honest keeper_honest) referee old result new)
        → Leads (r.RefereeHappens link_honest keeper_honest) old new
    up true none = ([], none.1)
    up false saves = saves_lead (r.RefereeHappens link_honest keeper_honest) referee old result new saves

    go : (down : Bool)
        → MatchBool down (Restarts (r.RefereeHappens link_honest keeper_honest) referee old result new)
        (MatchBool (count_of (held_entries (r.log_of old)) == (old.notes).saved) ((result ≡ Ok false) × (new ≡ old))
        (Saves (r.RefereeHappens link_honest keeper_honest) referee old result new))
        → Leads (r.RefereeHappens link_honest keeper_honest) old new
    go true again =
        one_leads (r.RefereeHappens link_honest keeper_honest) old new (events.Restart referee) again.0 again.1
    go false rest = up (count_of (held_entries (r.log_of old)) == (old.notes).saved) rest

  ends_lead : (tick : Bool) (first old : r.RefereeMoment) (saved : Result Bool Outcome) (result : Result Going Outcome)
      (new : r.RefereeMoment) → Leads (r.RefereeHappens link_honest keeper_honest) first old
      → MatchResult saved (λ written. r.EndsRound link_honest keeper_honest tick old written result new)
      (λ why. (result ≡ Err why) × (new ≡ old)) → r.RunsRefereeRound link_honest keeper_honest first new
  ends_lead tick first old (Ok written) result new so_far h =
      let all = both_lead (r.RefereeHappens link_honest keeper_honest) first old h.0 so_far
      (repeats_lead (r.RefereeHappens link_honest keeper_honest) r.tick_at r.ends_pushes
      (if tick || written then r.most_pushes else 0) old h.0 h.1) in
      record { happened = all.0; last = h.0; runs = all.1; counted = (r.quiet_later ((h.0).notes).quiet tick, h.2) }
  ends_lead tick first old (Err why) result new so_far h =
      record { happened = so_far.0; last = old; runs = so_far.1; counted = ((old.notes).quiet, h.1) }

  pub referee_round_runs : (old : r.RefereeMoment) (tick : Bool) (result : Result Going Outcome) (new : r.RefereeMoment)
      → r.PlaysRefereeRound link_honest keeper_honest old tick result new
      → r.RunsRefereeRound link_honest keeper_honest old new
  referee_round_runs old tick result new h =
      let H = r.RefereeHappens link_honest keeper_honest in
      let takes = repeats_lead H r.take_at ends_takes most_taken old h.taken h.takes in
      let dues = repeats_lead H r.due_at r.ends_dues r.most_due h.taken h.added h.dues in
      let saves = news_lead h.added h.saved h.kept h.saves in
      ends_lead tick old h.kept h.saved result new
      (both_lead H old h.added h.kept (both_lead H old h.taken h.added takes dues) saves) h.ends

-- ---- a seat

module _ (link_honest keeper_honest : Type 0) where
  worth_lead : (old : s.SeatMoment) (tick : Bool) (result : Result Bool Outcome) (new : s.SeatMoment)
      → s.SavesWorth link_honest keeper_honest old tick result new
      → Leads (s.SeatHappens link_honest keeper_honest) old new
  worth_lead old tick result new h = go h.0 h.2 where
    go : (wanted : Bool)
        → MatchBool wanted (Saves (s.SeatHappens link_honest keeper_honest) (party_of old.player) old result new)
        ((result ≡ Ok false) × (new ≡ old)) → Leads (s.SeatHappens link_honest keeper_honest) old new
    go true saves = saves_lead (s.SeatHappens link_honest keeper_honest) (party_of old.player) old result new saves
    go false none = ([], none.1)

  pub kept_lead : (old : s.SeatMoment) (tick : Bool) (result : Result Bool Outcome) (new : s.SeatMoment)
      → s.RestartsOrSaves link_honest keeper_honest old tick result new
      → Leads (s.SeatHappens link_honest keeper_honest) old new
  kept_lead old tick result new h = go (is_none (s.log_of old)) h where
    go : (down : Bool)
        → MatchBool down (Restarts (s.SeatHappens link_honest keeper_honest) (party_of old.player) old result new)
        (s.SavesWorth link_honest keeper_honest old tick result new)
        → Leads (s.SeatHappens link_honest keeper_honest) old new
    go true again =
        one_leads (s.SeatHappens link_honest keeper_honest) old new (events.Restart (party_of old.player)) again.0 again.1
    go false saves = worth_lead old tick result new saves

  sends_lead : (tick : Bool) (old new : s.SeatMoment) → s.SendsWhere link_honest keeper_honest tick old new
      → Leads (s.SeatHappens link_honest keeper_honest) old new
  sends_lead true old new h =
      one_leads (s.SeatHappens link_honest keeper_honest) old new (events.Tick (party_of old.player)) h.0 h.1
  sends_lead false old new h = ([], h)

  seat_ends_lead : (tick : Bool) (old : s.SeatMoment) (saved : Result Bool Outcome) (P : Type 0)
      (result : Result Going Outcome) (new : s.SeatMoment)
      → MatchResult saved (λ _. s.SendsWhere link_honest keeper_honest tick old new × P)
      (λ why. (result ≡ Err why) × (new ≡ old)) → Leads (s.SeatHappens link_honest keeper_honest) old new
  seat_ends_lead tick old (Ok written) P result new h = sends_lead tick old new h.0
  seat_ends_lead tick old (Err why) P result new h = ([], h.1)

  pub seat_round_runs : (old : s.SeatMoment) (tick : Bool) (result : Result Going Outcome) (new : s.SeatMoment)
      → s.PlaysSeatRound link_honest keeper_honest old tick result new → s.RunsSeat link_honest keeper_honest old new
  seat_round_runs old tick result new h =
      let H = s.SeatHappens link_honest keeper_honest in
      let takes = repeats_lead H s.take_at ends_takes most_taken old h.taken h.takes in
      let saves = kept_lead h.taken tick h.saved h.kept h.saves in
      both_lead H old h.kept new (both_lead H old h.taken h.kept takes saves)
      (seat_ends_lead tick h.kept h.saved
      (MatchResult result (GoesWhere (IsOverAndSaved (s.log_of new) (new.notes).saved)) (λ _. ⊥)) result new h.ends)

  claimed_lead : (kept : s.SeatMoment) (claimed : Bool) (chosen : Outcome) (result : Result Outcome Outcome)
      (new : s.SeatMoment)
      → MatchBool claimed (s.SendsWhere link_honest keeper_honest true kept new × (result ≡ Ok chosen))
      ((result ≡ Ok outcomes.SaveFault) × (new ≡ kept))
      → Leads (s.SeatHappens link_honest keeper_honest) kept new
  claimed_lead kept true chosen result new h = sends_lead true kept new h.0
  claimed_lead kept false chosen result new h = ([], h.1)

  claim_lead : (old : s.SeatMoment) (chosen : Outcome) (result : Result Outcome Outcome) (new : s.SeatMoment)
      → s.SavesClaim link_honest keeper_honest old chosen result new
      → Leads (s.SeatHappens link_honest keeper_honest) old new
  claim_lead old chosen result new h =
      let H = s.SeatHappens link_honest keeper_honest in
      both_lead H old h.1 new (saves_lead H (party_of old.player) old h.0 h.1 h.2) (go h.0 h.3) where
        go : (saved : Result Bool Outcome)
            → MatchResult saved
            (λ _. MatchBool (s.is_claim_of chosen (s.open_claim_at h.1))
            (s.SendsWhere link_honest keeper_honest true h.1 new × (result ≡ Ok chosen))
            ((result ≡ Ok outcomes.SaveFault) × (new ≡ h.1)))
            (λ why. (result ≡ Err why) × (new ≡ h.1))
            → Leads (s.SeatHappens link_honest keeper_honest) h.1 new
        go (Ok written) later = claimed_lead h.1 (s.is_claim_of chosen (s.open_claim_at h.1)) chosen result new later
        go (Err why) later = ([], later.1)

  pub choice_runs : (old : s.SeatMoment) (action : Action) (result : Result Outcome Outcome) (new : s.SeatMoment)
      → s.PlaysChoice link_honest keeper_honest old action result new → s.RunsSeat link_honest keeper_honest old new
  choice_runs old action result new h =
      let H = s.SeatHappens link_honest keeper_honest in
      both_lead H old h.1 new (one_leads H old h.1 (events.Choose old.player action) h.0 h.2)
      (go (s.is_chosen h.0) h.3) where
        go : (chosen : Bool)
            → MatchBool chosen (s.SavesClaim link_honest keeper_honest h.1 h.0 result new)
            ((result ≡ Ok h.0) × (new ≡ h.1))
            → Leads (s.SeatHappens link_honest keeper_honest) h.1 new
        go true saves = claim_lead h.1 h.0 result new saves
        go false none = ([], none.1)

-- ---- one who watches

module _ (honest : Type 0) where
  watcher_sends : (tick : Bool) (old new : w.WatcherMoment) → w.SendsWhere honest tick old new
      → Leads (w.WatcherHappens honest) old new
  watcher_sends true old new h = one_leads (w.WatcherHappens honest) old new (w.tick_at old) h.0 h.1
  watcher_sends false old new h = ([], h)

  watcher_ends : (tick : Bool) (old : w.WatcherMoment) (result : Going) (new : w.WatcherMoment)
      → w.EndsRound honest tick old result new → Leads (w.WatcherHappens honest) old new
  watcher_ends tick old Over new h = ([], h.1)
  watcher_ends tick old On new h = watcher_sends tick old new h.1

  pub watcher_round_runs : (old : w.WatcherMoment) (tick : Bool) (result : Going) (new : w.WatcherMoment)
      → w.PlaysWatcherRound honest old tick result new → w.RunsWatcher honest old new
  watcher_round_runs old tick result new h =
      let H = w.WatcherHappens honest in
      both_lead H old h.taken new (repeats_lead H w.take_at ends_takes most_taken old h.taken h.takes)
      (watcher_ends tick h.taken result new h.ends)
