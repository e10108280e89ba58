-- One call of one process of a match that many share.
use Rattle.std.specs.Prelude.{◌≡◌, ◌⊎◌, ℕ, ◌+◌, ◌<◌, Option, List, [], ◌∷◌, Contains}
use Rattle.bg_board.specs.declared.players.Player.{Player}
use Rattle.bg_match.specs.declared.entries.Entry.{Entry}
use Rattle.bg_wire.specs.Entries.Codes.{referee, first_watcher}
use Rattle.bg_wire.specs.Parties.{party_of}
use Rattle.bg_wire.specs.Saved.SavedText.{SavedParts}
use Rattle.bg_wire.specs.Saved.SlotLaws.{save_in}
use Rattle.bg_protocol.specs.declared.events.Event.{Event}
use Rattle.bg_protocol.specs.declared.events.Event.TheVariants as events
use Rattle.bg_protocol.specs.declared.events.Outcome.{Outcome}
use Rattle.bg_protocol.specs.declared.events.Outcome.TheVariants as outcomes
use Rattle.bg_protocol.specs.declared.roles.Role.{Role}
use Rattle.bg_protocol.specs.declared.roles.Role.TheVariants.{Referee as AsReferee, Seat as AsSeat}
use Rattle.bg_protocol.specs.declared.roles.Role.TheVariants.{Watcher as AsWatcher}
use Rattle.bg_protocol.specs.Protocol.ChooseStep.{ChooseStep}
use Rattle.bg_protocol.specs.Protocol.Datagrams.{Carries}
use Rattle.bg_protocol.specs.Protocol.DueStep.{DueStep}
use Rattle.bg_protocol.specs.Protocol.FollowerTakeStep.{FollowerTakeStep}
use Rattle.bg_protocol.specs.Protocol.RefereeTakeStep.{RefereeTakeStep}
use Rattle.bg_protocol.specs.Protocol.Roles.{role}
use Rattle.bg_protocol.specs.Protocol.SaveStep.{RefereeSaveStep, SeatSaveStep}
use Rattle.bg_protocol.specs.Protocol.State.{ProtocolState, SeatState, seat_in}
use Rattle.bg_protocol.specs.Protocol.TickStep.{TickStep, SendsOnTick, want_packet}
use Rattle.bg_fences.specs.SharedMatches.{RefereeProcess, SeatProcess, WatcherProcess}
use Rattle.bg_fences.specs.SharedMatches.{SharedMatch, stored_of, seats_of, with_stored, with_seats}
use Rattle.bg_fences.specs.SharedMatches.{at_rest, seen_by_referee, seen_by_seat, seat_as_seen}
use Rattle.bg_fences.specs.SharedMatches.{referee_process, seat_process, begun_referee, begun_seat}
use Rattle.bg_fences.specs.SharedMatches.{Becomes}

-- The fence: a save is taken only where its number is one more than that of the newest save in the
-- slots. A process numbers its saves from the one that it made last or began with, so that one is
-- the newest.
abbrev pub IsNewest : Option SavedParts → ℕ → Type 0
IsNewest restorable last_save = last_save ≡ save_in restorable

-- ---- calls that save nothing: the process goes on as the protocol's party would, and the number
-- ---- of its last save stays

abbrev pub RefereeGoes : SharedMatch → RefereeProcess → ProtocolState → SharedMatch → Type 0
RefereeGoes m p v n =
    (rs : List RefereeProcess)
    × Becomes m.referees p (referee_process v.referee p.last_save ∷ []) rs
    × (n ≡ record m { referees = rs; sent = v.sent })

abbrev pub SeatGoes : SharedMatch → Player → SeatProcess → ProtocolState → SharedMatch → Type 0
SeatGoes m q f v n =
    (fs : List SeatProcess)
    × Becomes (seats_of m q) f (seat_process (seat_in v q) f.last_save ∷ []) fs
    × (n ≡ record (with_seats m q fs) { sent = v.sent })

-- a watcher's record becomes this one
abbrev pub WatcherBecomes : SharedMatch → WatcherProcess → List Entry → SharedMatch → Type 0
WatcherBecomes m p log n =
    (ps : List WatcherProcess) × Becomes m.watching p (record p { log = log } ∷ []) ps
    × (n ≡ record m { watching = ps })

-- ---- saves

-- A save that is taken is the protocol's save of the newest process. One that fails leaves the
-- process gone: either it was refused, whatever its number, and the slots stay; or its number was
-- the next one and it was torn, as the protocol's may be.
abbrev pub RefereeSaves : SharedMatch → RefereeProcess → Outcome → SharedMatch → Type 0
RefereeSaves m p (outcomes.Saved k) n =
    (v : ProtocolState) × (rs : List RefereeProcess)
    × IsNewest m.referee.restorable p.last_save
    × RefereeSaveStep (seen_by_referee m p) (outcomes.Saved k) v
    × Becomes m.referees p (referee_process v.referee k ∷ []) rs
    × (n ≡ record m {
      referees = rs;
      referee = record { slots = v.referee.slots; restorable = v.referee.restorable };
    })
RefereeSaves m p outcomes.SaveFault n =
    (rs : List RefereeProcess) × Becomes m.referees p [] rs
    × ((n ≡ record m { referees = rs })
    ⊎ ((v : ProtocolState) × IsNewest m.referee.restorable p.last_save
    × RefereeSaveStep (seen_by_referee m p) outcomes.SaveFault v
    × (n ≡ record m {
      referees = rs;
      referee = record { slots = v.referee.slots; restorable = v.referee.restorable };
    })))
RefereeSaves m p outcomes.SavesSpent n = n ≡ m
RefereeSaves m p outcomes.Memory n = n ≡ m
RefereeSaves m p _ n = ⊥

abbrev pub SeatSaves : SharedMatch → Player → SeatProcess → Outcome → SharedMatch → Type 0
SeatSaves m q f (outcomes.Saved k) n =
    let old = seat_as_seen (stored_of m q) f in
    (new : SeatState) × (fs : List SeatProcess)
    × IsNewest (stored_of m q).restorable f.last_save
    × SeatSaveStep m.id m.terms q (outcomes.Saved k) old new
    × Becomes (seats_of m q) f (seat_process new k ∷ []) fs
    × (n ≡ with_stored (with_seats m q fs) q
    (record { slots = new.slots; restorable = new.restorable }))
SeatSaves m q f outcomes.SaveFault n =
    let old = seat_as_seen (stored_of m q) f in
    (fs : List SeatProcess) × Becomes (seats_of m q) f [] fs
    × ((n ≡ with_seats m q fs)
    ⊎ ((new : SeatState) × IsNewest (stored_of m q).restorable f.last_save
    × SeatSaveStep m.id m.terms q outcomes.SaveFault old new
    × (n ≡ with_stored (with_seats m q fs) q
    (record { slots = new.slots; restorable = new.restorable }))))
SeatSaves m q f outcomes.SavesSpent n = n ≡ m
SeatSaves m q f outcomes.Memory n = n ≡ m
SeatSaves m q f _ n = ⊥

-- ---- one call of some process of a party

abbrev pub ProcessTakes : SharedMatch → Role → ℕ → Outcome → SharedMatch → Type 0
ProcessTakes m AsReferee word o n =
    (p : RefereeProcess) × (v : ProtocolState) × RefereeTakeStep (seen_by_referee m p) word o v
    × RefereeGoes m p v n
ProcessTakes m (AsSeat q) word o n =
    (f : SeatProcess) × (log : List Entry) × (fs : List SeatProcess)
    × FollowerTakeStep m.id m.terms m.sent (party_of q) o f.log log
    × Becomes (seats_of m q) f (record f { log = log } ∷ []) fs
    × (n ≡ with_seats m q fs)
ProcessTakes m (AsWatcher index) word o n =
    (p : WatcherProcess) × (log : List Entry) × (p.index ≡ index)
    × FollowerTakeStep m.id m.terms m.sent (first_watcher + index) o p.log log
    × WatcherBecomes m p log n

abbrev pub ProcessSaves : SharedMatch → Role → Outcome → SharedMatch → Type 0
ProcessSaves m AsReferee o n = (p : RefereeProcess) × RefereeSaves m p o n
ProcessSaves m (AsSeat q) o n = (f : SeatProcess) × SeatSaves m q f o n
ProcessSaves m (AsWatcher index) o n = n ≡ m

abbrev pub ProcessTicks : SharedMatch → Role → Outcome → SharedMatch → Type 0
ProcessTicks m AsReferee o n =
    (p : RefereeProcess) × (v : ProtocolState) × TickStep (seen_by_referee m p) AsReferee o v
    × RefereeGoes m p v n
ProcessTicks m (AsSeat q) o n =
    (f : SeatProcess) × (v : ProtocolState) × TickStep (seen_by_seat m q f) (AsSeat q) o v
    × SeatGoes m q f v n
ProcessTicks m (AsWatcher index) o n =
    (p : WatcherProcess) × (v : ProtocolState) × (p.index ≡ index)
    × SendsOnTick
    (λ d. Carries d referee (want_packet m.id m.terms (first_watcher + index) p.log)) 1
    (at_rest m) o v
    × WatcherBecomes (record m { sent = v.sent }) p p.log n

-- One process more. It begins with what the slots restored at one of these moments, however long
-- ago that was. Or there is none, where reading or memory failed. A process that is killed makes no
-- more calls, so no row is needed for that.
abbrev pub ProcessBegins : List SharedMatch → SharedMatch → Role → Outcome → SharedMatch → Type 0
ProcessBegins moments m AsReferee outcomes.Restarted n =
    (past : SharedMatch) × Contains moments past
    × (n ≡ record m { referees = begun_referee past.referee ∷ m.referees })
ProcessBegins moments m (AsSeat q) outcomes.Restarted n =
    (past : SharedMatch) × Contains moments past
    × (n ≡ with_seats m q (begun_seat (stored_of past q) ∷ seats_of m q))
ProcessBegins moments m (AsWatcher index) outcomes.Restarted n =
    (index < m.watchers)
    × (n ≡ record m { watching = record { index = index; log = [] } ∷ m.watching })
ProcessBegins moments m r o n = n ≡ m

-- some process of the party that the event names makes the call that the event is; the moments are
-- those of the match so far, this one too
abbrev pub ProcessCalls : List SharedMatch → SharedMatch → Event → Outcome → SharedMatch → Type 0
ProcessCalls moments m (events.Due word) o n =
    (p : RefereeProcess) × (v : ProtocolState) × DueStep (seen_by_referee m p) word o v
    × RefereeGoes m p v n
ProcessCalls moments m (events.Take party pick word) o n = ProcessTakes m (role party) word o n
ProcessCalls moments m (events.Choose q action) o n =
    (f : SeatProcess) × (new : SeatState) × (fs : List SeatProcess)
    × ChooseStep m.terms q action o (seat_as_seen (stored_of m q) f) new
    × Becomes (seats_of m q) f (seat_process new f.last_save ∷ []) fs
    × (n ≡ with_seats m q fs)
ProcessCalls moments m (events.Save party) o n = ProcessSaves m (role party) o n
ProcessCalls moments m (events.Tick party) o n = ProcessTicks m (role party) o n
ProcessCalls moments m (events.Restart party) o n =
    ProcessBegins moments m (role party) o n
