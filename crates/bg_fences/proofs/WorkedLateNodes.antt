-- A worked run of nodes: another node saves between the two reads of a restart. The node that restarts
-- finds slot 0 as it was before, and slot 1 as it is then. It comes up with the first save, although
-- there is a second, and its own save is refused.
use Rattle.std.specs.Prelude.{◌≡◌, ℕ, ◌+◌, Some, None, List, [], ◌∷◌, Ok, Err, ⊤}
use Rattle.std.specs.Global.{Vec}
use Rattle.std.proofs.Common.{refl, sym, subst, inl, inr, arith, lit<}
use Rattle.bg_referee.specs.Referee.{RefereeView, referee_after_save, resumed_referee}
use Rattle.bg_wire.proofs.OfSaves.OneText.{empty_loads}
use Rattle.bg_wire.proofs.OfSaves.SavedLaws.{written_is_saved}
use Rattle.bg_wire.specs.Saved.Restoring.{SlotsRestore}
use Rattle.bg_wire.specs.Saved.SavedText.{IsWrittenText, written_text}
use Rattle.bg_wire.specs.Saved.SlotLaws.{Slots, bytes_in}
use Rattle.bg_wire.specs.declared.saves.Saved.{Saved}
use Rattle.bg_wire.specs.declared.saves.slots.Slot.{Slot}
use Rattle.bg_wire.specs.declared.saves.slots.Slot.TheVariants.{Zero, One}
use Rattle.bg_protocol.specs.Devices.DeviceCalls.{ReadsOnce, WritesOnce}
use Rattle.bg_protocol.specs.Devices.Honesty.{Writes}
use Rattle.bg_protocol.specs.Protocol.Slots.{empty_slots}
use Rattle.bg_protocol.specs.Worlds.Nodes.{RefereeNodeRestarts, RefereeNodeSaves}
use Rattle.bg_protocol.specs.declared.devices.DeviceFault.TheVariants.{Failed}
use Rattle.bg_protocol.specs.declared.events.Event.TheVariants as events
use Rattle.bg_protocol.specs.declared.events.Outcome.TheVariants as outcomes
use Rattle.bg_fences.specs.NodeActs.{AreReadOf, IsReachedByNodes, NodeActs, referee_with}
use Rattle.bg_fences.specs.SharedNodes.{SharedNodes}
use Rattle.bg_fences.proofs.Lists.{head_in, tail_in}
use Rattle.bg_fences.proofs.WorkedLateProcesses.{again_written, saved_again}
use Rattle.bg_fences.proofs.WorkedNodes.{due, fresh, holding, kept, read_now, two_nodes}
use Rattle.bg_fences.proofs.WorkedProcesses.{one_point, saved, saved_written, x_due, x_opens}

-- the first save, as the core resumes from it
abbrev first : Saved
first = record { party = 0; save = 1; claim = None; log = (holding x_opens).log }

abbrev once : RefereeView
once = referee_after_save (holding x_opens) 1

abbrev twice : RefereeView
twice = referee_after_save once 2

-- whatever these vectors are, by their bytes
module _ (none of_first of_second : Vec ℕ)
    (no_bytes : none.items ≡ [])
    (first_bytes : of_first.items ≡ written_text saved)
    (second_bytes : of_second.items ≡ written_text saved_again) where
  abbrev first_slots : Slots
  first_slots = record { zero = []; one = of_first.items }

  abbrev second_slots : Slots
  second_slots = record { zero = of_second.items; one = of_first.items }

  -- ---- what the slots restore

  none_restored : SlotsRestore [] [] None
  none_restored = record { first = None; second = None; first_loads = empty_loads; second_loads = empty_loads; is_newer = refl }

  nothing_restored : SlotsRestore none.items none.items None
  nothing_restored =
      subst (λ (l : List ℕ). SlotsRestore l l None) (sym no_bytes) none_restored

  first_restored : SlotsRestore [] of_first.items (Some saved)
  first_restored =
      subst (λ (l : List ℕ). SlotsRestore [] l (Some saved)) (sym first_bytes)
      (record { first = None; second = Some saved; first_loads = empty_loads; second_loads = written_is_saved _ _ saved_written; is_newer = refl })

  -- ---- devices

  reads : (slots : Slots) (slot : Slot) (n : ℕ) (found : Vec ℕ) → found.items ≡ bytes_in slots slot → ReadsOnce ⊤ (kept slots 0 n 0) slot (Ok found) (kept slots 0 (n + 1) 0)
  reads slots slot n found e = record {
    reads = refl;
    writes = refl;
    written = refl;
    plan = refl;
    cause = record { later = omega arith; failed = λ k. cc };
    same = λ h. refl;
    bytes = λ h. e;
    planned = tt;
    counted = tt;
  }

  writes : (old new : Slots) (slot : Slot) (text : Vec ℕ) → Writes old slot text.items new (Ok tt) → WritesOnce ⊤ (kept old 0 0 0) slot text.items (Ok tt) (kept new 1 0 0)
  writes old new slot text h = record {
    writes = refl;
    reads = refl;
    written = refl;
    plan = refl;
    cause = record { later = omega arith; failed = λ k. cc };
    slots = λ honest. h;
    planned = tt;
    counted = tt;
  }

  -- ---- the states, one after another

  abbrev start : SharedNodes
  start = two_nodes None None empty_slots

  abbrev begun : SharedNodes
  begun = two_nodes (Some fresh) None empty_slots

  abbrev opened : SharedNodes
  opened = two_nodes (Some (holding x_opens)) None empty_slots

  abbrev saved_once : SharedNodes
  saved_once = two_nodes (Some once) None first_slots

  abbrev saved_twice : SharedNodes
  saved_twice = two_nodes (Some twice) None second_slots

  abbrev pub late_begun : SharedNodes
  late_begun = two_nodes (Some twice) (Some (resumed_referee first)) second_slots

  -- ---- what the nodes do

  begins : RefereeNodeRestarts ⊤ (kept empty_slots 0 0 0) (referee_with start None) outcomes.Restarted (kept empty_slots 0 2 0) (referee_with start (Some fresh))
  begins = (
    (
      Ok None,
      (Ok none, kept empty_slots 0 1 0, reads empty_slots Zero 0 none no_bytes, (Ok none, reads empty_slots One 1 none no_bytes, (Ok None, (nothing_restored, no_bytes), refl))),
      (refl, refl),
    ),
    refl,
  )

  saves_once : RefereeNodeSaves ⊤ (kept empty_slots 0 0 0) (referee_with opened (Some (holding x_opens))) (outcomes.Saved 1) (kept first_slots 1 0 0) (referee_with opened (Some once))
  saves_once = (
    (
      Ok (One, 1, of_first),
      (refl, refl, subst (IsWrittenText saved) (sym first_bytes) saved_written),
      (Ok tt, writes empty_slots first_slots One of_first refl, (refl, refl)),
    ),
    refl,
  )

  saves_twice : RefereeNodeSaves ⊤ (kept first_slots 0 0 0) (referee_with saved_once (Some once)) (outcomes.Saved 2) (kept second_slots 1 0 0) (referee_with saved_once (Some twice))
  saves_twice = (
    (
      Ok (Zero, 2, of_second),
      (refl, refl, subst (IsWrittenText saved_again) (sym second_bytes) again_written),
      (Ok tt, writes first_slots second_slots Zero of_second refl, (refl, refl)),
    ),
    refl,
  )

  -- slot 0 is read before the second save, and slot 1 after it
  reads_apart : (before : List SharedNodes) → AreReadOf (λ past. past.referee_slots) (saved_twice ∷ saved_once ∷ before) first_slots
  reads_apart before =
      (saved_once, saved_twice, tail_in saved_twice saved_once (saved_once ∷ before) (head_in saved_once before), head_in saved_twice (saved_once ∷ before), refl)

  begins_late : RefereeNodeRestarts ⊤ (kept first_slots 0 0 0) (referee_with saved_twice None) outcomes.Restarted (kept first_slots 0 2 0)
      (referee_with saved_twice (Some (resumed_referee first)))
  begins_late = (
    (
      Ok (Some first),
      (
        Ok none,
        kept first_slots 0 1 0,
        reads first_slots Zero 0 none no_bytes,
        (
          Ok of_first,
          reads first_slots One 1 of_first refl,
          (
            Ok (Some first),
            (subst (λ (l : List ℕ). SlotsRestore l of_first.items (Some saved)) (sym no_bytes) first_restored, record { party = refl; id = refl; terms = refl }),
            refl,
          ),
        ),
      ),
      (refl, refl),
    ),
    refl,
  )

  pub late_node_begins : IsReachedByNodes late_begun
  late_node_begins = record {
    id = 1;
    terms = one_point;
    watchers = 0;
    setup = record { id_fits = lit< tt; length_in_range = (omega arith, omega arith); few = omega arith };
    referees = 2;
    xs = 0;
    os = 0;
    history = (events.Restart 0, outcomes.Restarted) ∷ (events.Due 12, outcomes.Due (Ok 1)) ∷ (events.Save 0, outcomes.Saved 1) ∷ (events.Save 0, outcomes.Saved 2)
        ∷ (events.Restart 0, outcomes.Restarted) ∷ [];
    run = (
      begun,
      (None, kept empty_slots 0 0 0, kept empty_slots 0 2 0, referee_with start (Some fresh), _, read_now start [], begins, ([], None ∷ [], refl, refl), refl),
      (
        opened,
        (
          Some fresh,
          referee_with begun (Some (holding x_opens)),
          _,
          (Ok 1, holding x_opens, due 12 x_opens x_due, refl, refl),
          ([], None ∷ [], refl, refl),
          refl,
        ),
        (
          saved_once,
          (
            Some (holding x_opens),
            kept empty_slots 0 0 0,
            kept first_slots 1 0 0,
            referee_with opened (Some once),
            _,
            refl,
            (saves_once, inl (None, none_restored, refl)),
            ([], None ∷ [], refl, refl),
            refl,
          ),
          (
            saved_twice,
            (
              Some once,
              kept first_slots 0 0 0,
              kept second_slots 1 0 0,
              referee_with saved_once (Some twice),
              _,
              refl,
              (saves_twice, inl (Some saved, first_restored, refl)),
              ([], None ∷ [], refl, refl),
              refl,
            ),
            (
              late_begun,
              (
                None,
                kept first_slots 0 0 0,
                kept first_slots 0 2 0,
                referee_with saved_twice (Some (resumed_referee first)),
                _,
                reads_apart (opened ∷ begun ∷ start ∷ []),
                begins_late,
                (Some twice ∷ [], [], refl, refl),
                refl,
              ),
              refl,
            ),
          ),
        ),
      ),
    );
  }

  -- its save is refused: the slots stay, and it is down
  pub late_is_refused : (moments : List SharedNodes) → NodeActs moments late_begun (events.Save 0) outcomes.SaveFault saved_twice
  late_is_refused moments = (
    Some (resumed_referee first),
    kept second_slots 0 2 0,
    record (kept second_slots 1 2 1) { written = Err Failed },
    referee_with late_begun None,
    _,
    refl,
    (
      (
        (
          Ok (Zero, 2, of_second),
          (refl, refl, subst (IsWrittenText saved_again) (sym second_bytes) again_written),
          (
            Err Failed,
            record {
              writes = refl;
              reads = refl;
              written = refl;
              plan = refl;
              cause = record { later = omega arith; failed = λ k. omega arith };
              slots = λ h. record { left = of_second.items; torn = inl refl; after = refl };
              planned = tt;
              counted = tt;
            },
            (refl, refl),
          ),
        ),
        refl,
      ),
      inr refl,
    ),
    (Some twice ∷ [], [], refl, refl),
    refl,
  )
