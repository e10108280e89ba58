-- Between the same two worlds an event comes to one outcome.
use Rattle.std.specs.Prelude.{◌≡◌, ◌≢◌, ◌⊎◌, ℕ, ◌+◌, ◌<◌, ◌≤◌, Option, Some, None, [], ◌∷◌, ◌++◌, length, Result, Ok, Err}
use Rattle.std.specs.Prelude.{MatchOption}
use Rattle.std.specs.Global.{Vec}
use Rattle.std.proofs.Common.{refl, sym, ◌∙◌, ap, subst, inl, inr, arith, length-append}
use Rattle.std.proofs.lemmas.Option.{same_Some}
use Rattle.bg_board.specs.declared.players.Player.{Player}
use Rattle.bg_board.specs.declared.players.Player.TheVariants.{X, O}
use Rattle.bg_turns.specs.Dice.{dice_of, first_pips, second_pips}
use Rattle.bg_turns.specs.declared.throws.Dice.{Dice}
use Rattle.bg_match.specs.Actor.{actor_in}
use Rattle.bg_match.specs.Follows.{IsEntryFault}
use Rattle.bg_match.specs.Limits.{most_entries}
use Rattle.bg_match.specs.Match.{ActsAfter, IsNext, IsRecordFault, Log, StandsAt}
use Rattle.bg_match.specs.State.{State}
use Rattle.bg_match.specs.declared.actions.Action.{Action}
use Rattle.bg_match.specs.declared.entries.Entry.{Entry}
use Rattle.bg_match.specs.declared.entries.EntryFault.{EntryFault}
use Rattle.bg_match.specs.declared.entries.EntryFault.TheVariants as entry_fault
use Rattle.bg_match.proofs.Answering.{one_answer}
use Rattle.bg_match.specs.declared.phases.Actor.TheVariants.{Referee}
use Rattle.bg_match.specs.declared.phases.Phase.TheVariants as phase
use Rattle.bg_match.proofs.Legal.{one_standing}
use Rattle.bg_match.proofs.Passing.{by_phase, not_passed}
use Rattle.bg_match.proofs.OneFault.{one_entry_fault}
use Rattle.bg_wire.specs.Saved.SavedText.{SavedParts}
use Rattle.bg_wire.specs.Saved.Saves.{IsNextSave}
use Rattle.bg_wire.specs.declared.faults.SaveRefusal.{SaveRefusal}
use Rattle.bg_wire.specs.declared.faults.SaveRefusal.TheVariants as save_refusals
use Rattle.bg_wire.specs.declared.saves.slots.Slot.{Slot}
use Rattle.bg_referee.specs.Dues.{HasOpening, IsDue, IsDueFault, OpensAfter, RefereeDues}
use Rattle.bg_referee.specs.Referee.{Appends, RefereeView, referee_after_save}
use Rattle.bg_referee.specs.declared.outcomes.DueFault.{DueFault}
use Rattle.bg_referee.specs.declared.outcomes.DueFault.TheVariants as due_faults
use Rattle.bg_party.specs.Claims.{IsChooseFault, SeatChooses, trial_dice}
use Rattle.bg_party.specs.Views.{SeatView, seat_after_save}
use Rattle.bg_party.specs.declared.outcomes.ChooseFault.{ChooseFault}
use Rattle.bg_party.specs.declared.outcomes.ChooseFault.TheVariants as choose_faults
use Rattle.bg_protocol.specs.Worlds.Calls.{ChooseCalls, DueCalls, NoCalls, SaveCalls, referee_parts, seat_parts}
use Rattle.bg_protocol.specs.Devices.KeeperCalls.{SaveCallsAt, SaveGoesOn, SaveTold}
use Rattle.bg_protocol.specs.Protocol.Roles.{role}
use Rattle.bg_protocol.specs.Worlds.Views.{KeeperView, WorldView, seat_core, seat_keeper, with_seat_core, with_seat_keeper}
use Rattle.bg_protocol.specs.Worlds.WorldLaws.{OutcomesAreFixed}
use Rattle.bg_protocol.specs.declared.devices.DeviceFault.{DeviceFault}
use Rattle.bg_protocol.specs.declared.events.Event.TheVariants as events
use Rattle.bg_protocol.specs.declared.events.Outcome.{Outcome}
use Rattle.bg_protocol.specs.declared.events.Outcome.TheVariants as outcomes
use Rattle.bg_protocol.specs.declared.roles.Role.{Role}
use Rattle.bg_protocol.specs.declared.roles.Role.TheVariants as roles

-- ---- an entry is refused for one reason

-- the record is full, or there is room and the entry has this fault where the match stands
abbrev Refused : Log → Entry → EntryFault → Type 0
Refused log e why =
    ((why ≡ entry_fault.RecordFull) × (most_entries ≤ length log.entries))
    ⊎ ((length log.entries < most_entries)
    × ((s : State) × StandsAt log.terms log.entries s × IsEntryFault why s e))

stands_refused : (log : Log) (e : Entry) → (IsNext log.terms log.entries e → ⊥) → (why : EntryFault)
    → IsRecordFault why log e → Refused log e why
stands_refused log e bad entry_fault.RecordFull h = inl (refl, h)
stands_refused log e bad entry_fault.Memory h = absurd (bad h.1)
stands_refused log e bad entry_fault.MatchOver h = inr h
stands_refused log e bad entry_fault.WrongPhase h = inr h
stands_refused log e bad entry_fault.EqualOpening h = inr h
stands_refused log e bad (entry_fault.Turn turn) h = inr h
stands_refused log e bad (entry_fault.NoDouble double) h = inr h

pub one_record_fault : (log : Log) (e : Entry) → (IsNext log.terms log.entries e → ⊥) → (a b : EntryFault)
    → IsRecordFault a log e → IsRecordFault b log e → a ≡ b
one_record_fault log e bad a b h k = at (stands_refused log e bad a h) (stands_refused log e bad b k)
  where
    at : Refused log e a → Refused log e b → a ≡ b
    at (inl x) (inl y) = x.0 ∙ sym y.0
    at (inl x) (inr y) = absurd (let full = x.1 in let room = y.0 in omega (full, room, arith))
    at (inr x) (inl y) = absurd (let full = y.1 in let room = x.0 in omega (full, room, arith))
    at (inr x) (inr y) =
        let same : y.1.0 ≡ x.1.0 = one_standing log.terms log.entries y.1.0 x.1.0 y.1.1 x.1.1 in
        one_entry_fault x.1.0 e a b x.1.2 (subst (λ (s : State). IsEntryFault b s e) same y.1.2)

-- ---- a game is opened, or not

pub not_grown : (old new : RefereeView) (e : Entry) → Appends old e new → new ≡ old → ⊥
not_grown old new e grows same =
    let longer : length (old.log.entries ++ e ∷ []) ≡ length old.log.entries =
    ap (λ (r : RefereeView). length r.log.entries) (sym grows.grown ∙ same) in
    omega (longer, length-append old.log.entries (e ∷ []), arith)

module _ (log : Log) (word : ℕ) where
  abbrev IsOnlyDueFault : DueFault → Type 0
  IsOnlyDueFault why =
      IsDueFault why log word
      × (why ≢ due_faults.Memory → (e : Entry) → IsDue log.terms log.entries word e → ⊥)

  no_dice : (dice : Dice) → dice_of word ≡ None → dice_of word ≡ Some dice → ⊥
  no_dice dice none some = let no = sym none ∙ some in absurd cc

  -- the dice of a word differ, or are equal
  not_equal : HasOpening word → ((dice : Dice) × (dice_of word ≡ Some dice) × (first_pips dice ≡ second_pips dice)) → ⊥
  not_equal has equal =
      let same : equal.0 ≡ has.0 = same_Some equal.0 has.0 (sym equal.1 ∙ has.1) in
      has.2 (subst (λ (d : Dice). first_pips d ≡ second_pips d) same equal.2)

  -- where a game is to be opened, the referee acts
  opens_acts : OpensAfter log.terms log.entries → ActsAfter log.terms log.entries Referee
  opens_acts opens =
      let none = not_passed opens.0 phase.Opening opens.2 (λ p dice is. cc) in
      (opens.0, opens.1, sym (by_phase opens.0 none ∙ ap actor_in opens.2))

  one_due_fault : (a b : DueFault) → IsOnlyDueFault a → IsOnlyDueFault b → a ≡ b
  one_due_fault due_faults.Memory due_faults.Memory h k = refl
  one_due_fault due_faults.NothingDue due_faults.NothingDue h k = refl
  one_due_fault due_faults.WordRefused due_faults.WordRefused h k = refl
  one_due_fault due_faults.EqualOpening due_faults.EqualOpening h k = refl
  one_due_fault due_faults.RecordFull due_faults.RecordFull h k = refl
  one_due_fault due_faults.Memory due_faults.NothingDue h k = absurd (k.1 (λ e. absurd cc) h.0.1.0 h.0.1.1)
  one_due_fault due_faults.Memory due_faults.WordRefused h k = absurd (k.1 (λ e. absurd cc) h.0.1.0 h.0.1.1)
  one_due_fault due_faults.Memory due_faults.EqualOpening h k = absurd (k.1 (λ e. absurd cc) h.0.1.0 h.0.1.1)
  one_due_fault due_faults.Memory due_faults.RecordFull h k = absurd (k.1 (λ e. absurd cc) h.0.1.0 h.0.1.1)
  one_due_fault due_faults.NothingDue due_faults.Memory h k = absurd (h.1 (λ e. absurd cc) k.0.1.0 k.0.1.1)
  one_due_fault due_faults.WordRefused due_faults.Memory h k = absurd (h.1 (λ e. absurd cc) k.0.1.0 k.0.1.1)
  one_due_fault due_faults.EqualOpening due_faults.Memory h k = absurd (h.1 (λ e. absurd cc) k.0.1.0 k.0.1.1)
  one_due_fault due_faults.RecordFull due_faults.Memory h k = absurd (h.1 (λ e. absurd cc) k.0.1.0 k.0.1.1)
  one_due_fault due_faults.NothingDue due_faults.WordRefused h k = absurd (h.0 (opens_acts k.0.0))
  one_due_fault due_faults.NothingDue due_faults.EqualOpening h k = absurd (h.0 (opens_acts k.0.0))
  one_due_fault due_faults.NothingDue due_faults.RecordFull h k = absurd (h.0 k.0.0)
  one_due_fault due_faults.WordRefused due_faults.NothingDue h k = absurd (k.0 (opens_acts h.0.0))
  one_due_fault due_faults.EqualOpening due_faults.NothingDue h k = absurd (k.0 (opens_acts h.0.0))
  one_due_fault due_faults.RecordFull due_faults.NothingDue h k = absurd (k.0 h.0.0)
  one_due_fault due_faults.WordRefused due_faults.EqualOpening h k = absurd (no_dice k.0.1.0 h.0.1 k.0.1.1)
  one_due_fault due_faults.WordRefused due_faults.RecordFull h k =
      let has = k.0.1 h.0.0 in absurd (no_dice has.0 h.0.1 has.1)
  one_due_fault due_faults.EqualOpening due_faults.WordRefused h k = absurd (no_dice h.0.1.0 k.0.1 h.0.1.1)
  one_due_fault due_faults.RecordFull due_faults.WordRefused h k =
      let has = h.0.1 k.0.0 in absurd (no_dice has.0 k.0.1 has.1)
  one_due_fault due_faults.EqualOpening due_faults.RecordFull h k = absurd (not_equal (k.0.1 h.0.0) h.0.1)
  one_due_fault due_faults.RecordFull due_faults.EqualOpening h k = absurd (not_equal (h.0.1 k.0.0) k.0.1)

one_due : (old new : RefereeView) (word : ℕ) (a b : Result ℕ DueFault) → RefereeDues old word a new
    → RefereeDues old word b new → a ≡ b
one_due old new word (Ok m) (Ok n) h k = ap Ok (h.dues.0 ∙ sym k.dues.0)
one_due old new word (Ok m) (Err b) h k = absurd (not_grown old new h.dues.1.0 h.dues.1.2 k.dues.1)
one_due old new word (Err a) (Ok n) h k = absurd (not_grown old new k.dues.1.0 k.dues.1.2 h.dues.1)
one_due old new word (Err a) (Err b) h k =
    ap Err (one_due_fault old.log word a b (h.dues.0, h.only) (k.dues.0, k.only))

-- what an opening comes to, by the referee's core
abbrev Opens : WorldView → ℕ → WorldView → Option RefereeView → Outcome → Type 0
Opens old word new core o =
    MatchOption core (NoCalls outcomes.Down old o new)
    (λ core. (answer : Result ℕ DueFault) × (after : RefereeView) × RefereeDues core word answer after
    × (o ≡ outcomes.Due answer) × (new ≡ record old { referee = Some after }))

pub due_fixed : (old new : WorldView) (word : ℕ) (a b : Outcome) → DueCalls old word a new → DueCalls old word b new
    → a ≡ b
due_fixed old new word a b h k = at old.referee h k
  where
    at : (core : Option RefereeView) → Opens old word new core a → Opens old word new core b → a ≡ b
    at None x y = x.0 ∙ sym y.0
    at (Some core) x y =
        let same : y.1 ≡ x.1 = same_Some y.1 x.1 (ap (λ (w : WorldView). w.referee) (sym y.4 ∙ x.4)) in
        x.3 ∙ ap outcomes.Due (one_due core x.1 word x.0 y.0 x.2
        (subst (λ (r : RefereeView). RefereeDues core word y.0 r) same y.2)) ∙ sym y.3

-- ---- an action is claimed, or not

one_choose_fault : (log : Log) (player : Player) (claim : Option (ℕ × Action)) (action : Action) (a b : ChooseFault)
    → IsChooseFault a log player claim action → IsChooseFault b log player claim action → a ≡ b
one_choose_fault log player claim action choose_faults.NotYourTurn choose_faults.NotYourTurn h k = refl
one_choose_fault log player claim action choose_faults.NotYourTurn choose_faults.AlreadyClaimed h k = absurd (h k.0)
one_choose_fault log player claim action choose_faults.NotYourTurn (choose_faults.Illegal b) h k = absurd (h k.0)
one_choose_fault log player claim action choose_faults.AlreadyClaimed choose_faults.NotYourTurn h k = absurd (k h.0)
one_choose_fault log player claim action choose_faults.AlreadyClaimed choose_faults.AlreadyClaimed h k = refl
one_choose_fault log player claim action choose_faults.AlreadyClaimed (choose_faults.Illegal b) h k =
    absurd (let above = h.1 in let within = k.1 in omega (above, within, arith))
one_choose_fault log player claim action (choose_faults.Illegal a) choose_faults.NotYourTurn h k = absurd (k h.0)
one_choose_fault log player claim action (choose_faults.Illegal a) choose_faults.AlreadyClaimed h k =
    absurd (let above = k.1 in let within = h.1 in omega (above, within, arith))
one_choose_fault log player claim action (choose_faults.Illegal a) (choose_faults.Illegal b) h k =
    let same : k.2.0 ≡ h.2.0 = one_answer action (Some trial_dice) k.2.0 h.2.0 k.2.1 h.2.1 in
    ap choose_faults.Illegal (one_record_fault log h.2.0 h.2.2 a b h.2.3
    (subst (λ (e : Entry). IsRecordFault b log e) same k.2.3))

one_choice : (old new : SeatView) (action : Action) (a b : Result ℕ ChooseFault) → SeatChooses old action a new
    → SeatChooses old action b new → a ≡ b
one_choice old new action (Ok m) (Ok n) h k = ap Ok (h.chooses.0.1 ∙ sym k.chooses.0.1)
one_choice old new action (Ok m) (Err b) h k = absurd (let ok = k.can.1 h.chooses.0.0 in absurd cc)
one_choice old new action (Err a) (Ok n) h k = absurd (let ok = h.can.1 k.chooses.0.0 in absurd cc)
one_choice old new action (Err a) (Err b) h k =
    ap Err (one_choose_fault old.follower.log old.player old.claim action a b h.chooses.0 k.chooses.0)

pub core_there : (w : WorldView) (q : Player) (s : Option SeatView) → seat_core (with_seat_core w q s) q ≡ s
core_there w X s = refl
core_there w O s = refl

-- what a choice comes to, by the seat's core
abbrev Claims : WorldView → Player → Action → WorldView → Option SeatView → Outcome → Type 0
Claims old q action new core o =
    MatchOption core (NoCalls outcomes.Down old o new)
    (λ core. (answer : Result ℕ ChooseFault) × (after : SeatView) × SeatChooses core action answer after
    × (o ≡ outcomes.Chose answer) × (new ≡ with_seat_core old q (Some after)))

pub choose_fixed : (old new : WorldView) (q : Player) (action : Action) (a b : Outcome) → ChooseCalls old q action a new
    → ChooseCalls old q action b new → a ≡ b
choose_fixed old new q action a b h k = at (seat_core old q) h k
  where
    at : (core : Option SeatView) → Claims old q action new core a → Claims old q action new core b → a ≡ b
    at None x y = x.0 ∙ sym y.0
    at (Some core) x y =
        let same : y.1 ≡ x.1 = same_Some y.1 x.1 (
        sym (core_there old q (Some y.1)) ∙ ap (λ (w : WorldView). seat_core w q) (sym y.4 ∙ x.4)
        ∙ core_there old q (Some x.1)
        ) in
        x.3 ∙ ap outcomes.Chose (one_choice core x.1 action x.0 y.0 x.2
        (subst (λ (s : SeatView). SeatChooses core action y.0 s) same y.2)) ∙ sym y.3

-- ---- a party saves, or not

module _ {C : Type 0} (parts : C → SavedParts) (after_save : C → ℕ → C) (honest : Type 0) (old new : KeeperView)
    (after : Option C) where
  told_alike : (m n : ℕ) (p q : C) (x y : Result (Unit {0}) DeviceFault) (a b : Outcome) → m ≡ n → x ≡ y
      → SaveTold m p x a after → SaveTold n q y b after → a ≡ b
  told_alike m n p q (Ok x) (Ok y) a b number same h k = h.0 ∙ ap outcomes.Saved number ∙ sym k.0
  told_alike m n p q (Ok x) (Err y) a b number same h k = absurd cc
  told_alike m n p q (Err x) (Ok y) a b number same h k = absurd cc
  told_alike m n p q (Err x) (Err y) a b number same h k = h.0 ∙ sym k.0

  once_more : (n : ℕ) → new.writes ≡ n + 1 → n ≡ old.writes → new ≡ old → ⊥
  once_more n more one same = let stays = ap (λ (v : KeeperView). v.writes) same in omega (more, one, stays, arith)

  goes_on_alike : (core : C) (x y : Result (Slot × ℕ × Vec ℕ) SaveRefusal) (a b : Outcome)
      → IsNextSave (parts core) x → IsNextSave (parts core) y → SaveGoesOn after_save honest old core x a new after
      → SaveGoesOn after_save honest old core y b new after → a ≡ b
  goes_on_alike core (Ok x) (Ok y) a b m n h k =
      told_alike x.1 y.1 (after_save core x.1) (after_save core y.1) h.0 k.0 a b (m.1 ∙ sym n.1)
      (sym h.1.written ∙ k.1.written) h.2 k.2
  goes_on_alike core (Ok x) (Err save_refusals.SavesSpent) a b m n h k = absurd (once_more old.writes h.1.writes refl k.1)
  goes_on_alike core (Ok x) (Err save_refusals.Memory) a b m n h k = absurd (once_more old.writes h.1.writes refl k.1)
  goes_on_alike core (Err save_refusals.SavesSpent) (Ok y) a b m n h k = absurd (once_more old.writes k.1.writes refl h.1)
  goes_on_alike core (Err save_refusals.Memory) (Ok y) a b m n h k = absurd (once_more old.writes k.1.writes refl h.1)
  goes_on_alike core (Err save_refusals.SavesSpent) (Err save_refusals.SavesSpent) a b m n h k = h.0 ∙ sym k.0
  goes_on_alike core (Err save_refusals.Memory) (Err save_refusals.Memory) a b m n h k = h.0 ∙ sym k.0
  goes_on_alike core (Err save_refusals.SavesSpent) (Err save_refusals.Memory) a b m n h k = absurd (omega (m, n, arith))
  goes_on_alike core (Err save_refusals.Memory) (Err save_refusals.SavesSpent) a b m n h k = absurd (omega (m, n, arith))

  one_save : (core : Option C) (a b : Outcome) → SaveCallsAt parts after_save honest old core a new after
      → SaveCallsAt parts after_save honest old core b new after → a ≡ b
  one_save None a b h k = h.0 ∙ sym k.0
  one_save (Some core) a b h k = goes_on_alike core h.0 k.0 a b h.1 k.1 h.2 k.2

pub keeper_there : (w : WorldView) (q : Player) (k : KeeperView) → seat_keeper (with_seat_keeper w q k) q ≡ k
keeper_there w X k = refl
keeper_there w O k = refl

pub core_left : (w : WorldView) (q : Player) (k : KeeperView) → seat_core (with_seat_keeper w q k) q ≡ seat_core w q
core_left w X k = refl
core_left w O k = refl

pub save_fixed : (honest : Type 0) (old new : WorldView) (r : Role) (a b : Outcome) → SaveCalls honest old r a new
    → SaveCalls honest old r b new → a ≡ b
save_fixed honest old new roles.Referee a b h k =
    let same : k.0 ≡ h.0 = ap (λ (w : WorldView). w.referee_keeper) (sym k.3 ∙ h.3) in
    let core : k.1 ≡ h.1 = ap (λ (w : WorldView). w.referee) (sym k.3 ∙ h.3) in
    one_save referee_parts referee_after_save honest old.referee_keeper h.0 h.1 old.referee a b h.2
    (subst (λ (v : KeeperView). SaveCallsAt referee_parts referee_after_save honest old.referee_keeper old.referee b v
    h.1) same (subst (λ (r : Option RefereeView). SaveCallsAt referee_parts referee_after_save honest
    old.referee_keeper old.referee b k.0 r) core k.2))
save_fixed honest old new (roles.Seat q) a b h k =
    let worlds = sym k.3 ∙ h.3 in
    let mid : Option SeatView → WorldView = with_seat_core old q in
    let same : k.0 ≡ h.0 =
    sym (keeper_there (mid k.1) q k.0) ∙ ap (λ (w : WorldView). seat_keeper w q) worlds ∙ keeper_there (mid h.1) q h.0 in
    let core : k.1 ≡ h.1 =
    sym (core_left (mid k.1) q k.0 ∙ core_there old q k.1) ∙ ap (λ (w : WorldView). seat_core w q) worlds
    ∙ (core_left (mid h.1) q h.0 ∙ core_there old q h.1) in
    one_save seat_parts seat_after_save honest (seat_keeper old q) h.0 h.1 (seat_core old q) a b h.2
    (subst (λ (v : KeeperView). SaveCallsAt seat_parts seat_after_save honest (seat_keeper old q) (seat_core old q) b v
    h.1) same (subst (λ (s : Option SeatView). SaveCallsAt seat_parts seat_after_save honest (seat_keeper old q)
    (seat_core old q) b k.0 s) core k.2))
save_fixed honest old new (roles.Watcher i) a b h k = h.0 ∙ sym k.0

pub outcomes_fixed : (lh kh : Type 0) → OutcomesAreFixed lh kh
outcomes_fixed lh kh old (events.Due word) a b new hears h k = due_fixed old new word a b h k
outcomes_fixed lh kh old (events.Choose q action) a b new hears h k = choose_fixed old new q action a b h k
outcomes_fixed lh kh old (events.Save party) a b new hears h k = save_fixed kh old new (role party) a b h k
outcomes_fixed lh kh old (events.Take party pick word) a b new hears h k = absurd hears
outcomes_fixed lh kh old (events.Tick party) a b new hears h k = absurd hears
outcomes_fixed lh kh old (events.Restart party) a b new hears h k = absurd hears
