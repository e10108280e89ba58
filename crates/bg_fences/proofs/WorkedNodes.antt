-- A worked run of nodes: two nodes of the referee begin over one empty store, and open one game by
-- different words. The save of the first is taken, and that of the second refused.
use Rattle.std.specs.Prelude.{◌≡◌, ℕ, ◌+◌, Some, None, Option, List, [], ◌∷◌, Ok, Err, ⊤}
use Rattle.std.specs.Global.{Vec}
use Rattle.std.proofs.Common.{refl, sym, ◌∙◌, subst, inl, inr, arith, lit<, lit≤}
use Rattle.bg_match.specs.declared.entries.Entry.{Entry}
use Rattle.bg_referee.specs.Dues.{IsDue, RefereeDues}
use Rattle.bg_referee.specs.Referee.{RefereeView, fresh_referee, referee_after_save}
use Rattle.bg_wire.proofs.OfSaves.OneText.{empty_loads}
use Rattle.bg_wire.specs.Saved.Restoring.{SlotsRestore}
use Rattle.bg_wire.specs.Saved.SavedText.{SavedParts, IsWrittenText, written_text}
use Rattle.bg_wire.specs.Saved.SlotLaws.{Slots, bytes_in}
use Rattle.bg_wire.specs.declared.saves.slots.Slot.{Slot}
use Rattle.bg_wire.specs.declared.saves.slots.Slot.TheVariants.{Zero, One}
use Rattle.bg_protocol.specs.Devices.DeviceCalls.{ReadsOnce}
use Rattle.bg_protocol.specs.Protocol.Slots.{empty_slots}
use Rattle.bg_protocol.specs.Worlds.Nodes.{RefereeNodeRestarts, RefereeNodeSaves}
use Rattle.bg_protocol.specs.Worlds.Views.{KeeperView}
use Rattle.bg_protocol.specs.declared.devices.DeviceFault.TheVariants.{Failed}
use Rattle.bg_protocol.specs.declared.events.Event.TheVariants as events
use Rattle.bg_protocol.specs.declared.events.Outcome.TheVariants as outcomes
use Rattle.bg_fences.specs.NodeActs.{AreReadOf, IsReachedByNodes, NodeActs, no_node_begun, referee_with}
use Rattle.bg_fences.specs.SharedNodes.{SharedNodes}
use Rattle.bg_fences.proofs.Lists.{head_in}
use Rattle.bg_fences.proofs.WorkedProcesses.{o_due, o_next, o_opens, one_point, saved, saved_written, x_due, x_opens}

abbrev pub fresh : RefereeView
fresh = fresh_referee 1 one_point

-- a core that holds one entry, which is not saved
abbrev pub holding : Entry → RefereeView
holding e = record fresh { log = record (fresh.log) { entries = e ∷ [] } }

abbrev pub two_nodes : Option RefereeView → Option RefereeView → Slots → SharedNodes
two_nodes a b slots = record (no_node_begun 1 one_point 0 2 0 0) { referees = a ∷ b ∷ []; referee_slots = slots }

-- a keeper that was asked for so many writes and reads, of which so many failed
abbrev pub kept : Slots → ℕ → ℕ → ℕ → KeeperView
kept slots writes reads faults =
    record { plan = None; slots = slots; faults = faults; writes = writes; reads = reads; written = Ok tt }

abbrev pub saved_o : SavedParts
saved_o = record saved { entries = o_opens ∷ [] }

pub o_written : IsWrittenText saved_o (written_text saved_o)
o_written = record {
  layout = record {
    in_layout = record {
      party = omega arith;
      id_fits = lit< tt;
      shortest = omega arith;
      longest = omega arith;
      rules = tt;
      first_save = omega arith;
      last_save = lit≤ tt;
      claim = tt;
      few = omega arith;
      in_range = (tt, tt);
    };
    spelled = refl;
  };
  legal = o_next;
}

-- both slots are read as they are
pub read_now : (m : SharedNodes) (before : List SharedNodes) → AreReadOf (λ past. past.referee_slots) (m ∷ before) m.referee_slots
read_now m before = (m, m, head_in m before, head_in m before, refl)

pub due : (word : ℕ) (e : Entry) → IsDue one_point [] word e → RefereeDues fresh word (Ok 1) (holding e)
due word e h = record { dues = (refl, (e, h, record { spare = λ l. omega (l, arith); grown = refl })); only = tt }

-- whatever these vectors are, by their bytes
module _ (none of_x of_o : Vec ℕ)
    (no_bytes : none.items ≡ [])
    (x_bytes : of_x.items ≡ written_text saved)
    (o_bytes : of_o.items ≡ written_text saved_o) where
  nothing_restored : SlotsRestore none.items none.items None
  nothing_restored =
      subst (λ (l : List ℕ). SlotsRestore l l None) (sym no_bytes)
      (record { first = None; second = None; first_loads = empty_loads; second_loads = empty_loads; is_newer = refl })

  reads : (slot : Slot) (n : ℕ) → [] ≡ bytes_in empty_slots slot → ReadsOnce ⊤ (kept empty_slots 0 n 0) slot (Ok none) (kept empty_slots 0 (n + 1) 0)
  reads slot n e = record {
    reads = refl;
    writes = refl;
    written = refl;
    plan = refl;
    cause = record { later = omega arith; failed = λ k. cc };
    same = λ h. refl;
    bytes = λ h. no_bytes ∙ e;
    planned = tt;
    counted = tt;
  }

  begins : RefereeNodeRestarts ⊤ (kept empty_slots 0 0 0) (referee_with (two_nodes None None empty_slots) None) outcomes.Restarted
      (kept empty_slots 0 2 0) (referee_with (two_nodes None None empty_slots) (Some fresh))
  begins = (
    (Ok None, (Ok none, kept empty_slots 0 1 0, reads Zero 0 refl, (Ok none, reads One 1 refl, (Ok None, (nothing_restored, no_bytes), refl))), (refl, refl)),
    refl,
  )

  -- the slots once the first has saved
  abbrev x_slots : Slots
  x_slots = record { zero = []; one = of_x.items }

  saves : RefereeNodeSaves ⊤ (kept empty_slots 0 0 0) (referee_with (two_nodes None None empty_slots) (Some (holding x_opens))) (outcomes.Saved 1)
      (kept x_slots 1 0 0) (referee_with (two_nodes None None empty_slots) (Some (referee_after_save (holding x_opens) 1)))
  saves = (
    (
      Ok (One, 1, of_x),
      (refl, refl, subst (IsWrittenText saved) (sym x_bytes) saved_written),
      (
        Ok tt,
        record {
          writes = refl;
          reads = refl;
          written = refl;
          plan = refl;
          cause = record { later = omega arith; failed = λ k. cc };
          slots = λ h. refl;
          planned = tt;
          counted = tt;
        },
        (refl, refl),
      ),
    ),
    refl,
  )

  first_restores : SlotsRestore [] [] None
  first_restores = record { first = None; second = None; first_loads = empty_loads; second_loads = empty_loads; is_newer = refl }

  -- one has saved its opening, and the other holds another
  abbrev pub one_saved_node : SharedNodes
  one_saved_node = two_nodes (Some (referee_after_save (holding x_opens) 1)) (Some (holding o_opens)) x_slots

  pub two_nodes_differ : IsReachedByNodes one_saved_node
  two_nodes_differ = record {
    id = 1;
    terms = one_point;
    watchers = 0;
    setup = record { id_fits = lit< tt; length_in_range = (omega arith, omega arith); few = omega arith };
    referees = 2;
    xs = 0;
    os = 0;
    history = (events.Restart 0, outcomes.Restarted) ∷ (events.Restart 0, outcomes.Restarted) ∷ (events.Due 12, outcomes.Due (Ok 1))
        ∷ (events.Due 2, outcomes.Due (Ok 1)) ∷ (events.Save 0, outcomes.Saved 1) ∷ [];
    run = (
      two_nodes (Some fresh) None empty_slots,
      (None, kept empty_slots 0 0 0, kept empty_slots 0 2 0, referee_with (two_nodes None None empty_slots) (Some fresh), _, read_now (two_nodes None None empty_slots) [], begins, ([], None ∷ [], refl, refl), refl),
      (
        two_nodes (Some fresh) (Some fresh) empty_slots,
        (None, kept empty_slots 0 0 0, kept empty_slots 0 2 0, referee_with (two_nodes None None empty_slots) (Some fresh), _, read_now (two_nodes (Some fresh) None empty_slots) (two_nodes None None empty_slots ∷ []), begins, (Some fresh ∷ [], [], refl, refl), refl),
        (
          two_nodes (Some (holding x_opens)) (Some fresh) empty_slots,
          (
            Some fresh,
            referee_with (two_nodes None None empty_slots) (Some (holding x_opens)),
            _,
            (Ok 1, holding x_opens, due 12 x_opens x_due, refl, refl),
            ([], Some fresh ∷ [], refl, refl),
            refl,
          ),
          (
            two_nodes (Some (holding x_opens)) (Some (holding o_opens)) empty_slots,
            (
              Some fresh,
              referee_with (two_nodes None None empty_slots) (Some (holding o_opens)),
              _,
              (Ok 1, holding o_opens, due 2 o_opens o_due, refl, refl),
              (Some (holding x_opens) ∷ [], [], refl, refl),
              refl,
            ),
            (
              one_saved_node,
              (
                Some (holding x_opens),
                kept empty_slots 0 0 0,
                kept x_slots 1 0 0,
                referee_with (two_nodes None None empty_slots) (Some (referee_after_save (holding x_opens) 1)),
                _,
                refl,
                (saves, inl (None, first_restores, refl)),
                ([], Some (holding o_opens) ∷ [], refl, refl),
                refl,
              ),
              refl,
            ),
          ),
        ),
      ),
    );
  }

  -- the other saves, and is refused: the slots stay, and it is down
  pub second_is_refused : (moments : List SharedNodes) → NodeActs moments one_saved_node (events.Save 0) outcomes.SaveFault
      (two_nodes (Some (referee_after_save (holding x_opens) 1)) None x_slots)
  second_is_refused moments = (
    Some (holding o_opens),
    kept x_slots 1 2 0,
    record (kept x_slots 2 2 1) { written = Err Failed },
    referee_with (two_nodes None None empty_slots) None,
    _,
    refl,
    (
      (
        (
          Ok (One, 1, of_o),
          (refl, refl, subst (IsWrittenText saved_o) (sym o_bytes) o_written),
          (
            Err Failed,
            record {
              writes = refl;
              reads = refl;
              written = refl;
              plan = refl;
              cause = record { later = omega arith; failed = λ k. omega arith };
              slots = λ h. record { left = of_x.items; torn = inl refl; after = refl };
              planned = tt;
              counted = tt;
            },
            (refl, refl),
          ),
        ),
        refl,
      ),
      inr refl,
    ),
    (Some (referee_after_save (holding x_opens) 1) ∷ [], [], refl, refl),
    refl,
  )
