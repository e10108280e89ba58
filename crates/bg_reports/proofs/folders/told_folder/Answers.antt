use Rattle.std.proofs.Common.{◌≡◌, ◌++◌, List, ℕ, [], refl, rules}
use Rattle.std.specs.Option.{option_copied}
use Rattle.bg_wire.specs.Saved.Restoring.{newer, parts_in}
use Rattle.bg_text.specs.Boards.BoardText.{line_text}
use Rattle.bg_reports.specs.Folder.{own, slot_lines, further as further_of}
use Rattle.bg_reports.specs.Show.{held_of, loaded_of}
use Rattle.bg_reports.proofs.folders.told_folder.Goals as goal

seven : (s0 s1 s2 p0 p1 p2 b : List ℕ)
    → ((((((([] ++ s0) ++ s1) ++ s2) ++ p0) ++ p1) ++ p2) ++ b) ≡ s0 ++ s1 ++ s2 ++ p0 ++ p1 ++ p2 ++ b
seven s0 s1 s2 p0 p1 p2 b = search rules

pub returns : goal.returns
returns c =
    let restored0 = newer (loaded_of c.args.held0.now.zero) (loaded_of c.args.held0.now.one) in
    let restored1 = newer (loaded_of c.args.held1.now.zero) (loaded_of c.args.held1.now.one) in
    let restored2 = newer (loaded_of c.args.held2.now.zero) (loaded_of c.args.held2.now.one) in
    let leads : parts_in (option_copied c.further-leader.result)
    ≡ further_of (further_of (own 0 restored0) (own 1 restored1)) (own 2 restored2) =
    rw (c.further-leader.ensures, c.further.ensures, c.own_save-saved0.ensures, c.own_save-saved1.ensures, c.own_save-saved2.ensures) refl in
    let party0 = c.in_ok-put_party.ensures in
    let party1 = c.in_ok-put_party-2.ensures in
    let party2 = c.in_ok-put_party-3.ensures in
    let board = c.in_ok-put_leader.ensures in
    let slots0 =
    slot_lines 0 c.args.referee.now.zero.items c.args.referee.now.one.items (held_of c.args.held0.now.zero)
    (held_of c.args.held0.now.one) in
    let slots1 =
    slot_lines 1 c.args.x.now.zero.items c.args.x.now.one.items (held_of c.args.held1.now.zero)
    (held_of c.args.held1.now.one) in
    let slots2 =
    slot_lines 2 c.args.o.now.zero.items c.args.o.now.one.items (held_of c.args.held2.now.zero)
    (held_of c.args.held2.now.one) in
    record {
      zero0 = held_of c.args.held0.now.zero;
      zero1 = held_of c.args.held0.now.one;
      one0 = held_of c.args.held1.now.zero;
      one1 = held_of c.args.held1.now.one;
      two0 = held_of c.args.held2.now.zero;
      two1 = held_of c.args.held2.now.one;
      referee = own 0 restored0;
      x = own 1 restored1;
      o = own 2 restored2;
      held_by_referee = record {
        first = c.requires.of_referee.first;
        second = c.requires.of_referee.second;
        restored = restored0;
        restores = record {
          first = loaded_of c.args.held0.now.zero;
          second = loaded_of c.args.held0.now.one;
          first_loads = c.requires.of_referee.first_loads;
          second_loads = c.requires.of_referee.second_loads;
          is_newer = refl;
        };
        is_own = refl;
      };
      held_by_x = record {
        first = c.requires.of_x.first;
        second = c.requires.of_x.second;
        restored = restored1;
        restores = record {
          first = loaded_of c.args.held1.now.zero;
          second = loaded_of c.args.held1.now.one;
          first_loads = c.requires.of_x.first_loads;
          second_loads = c.requires.of_x.second_loads;
          is_newer = refl;
        };
        is_own = refl;
      };
      held_by_o = record {
        first = c.requires.of_o.first;
        second = c.requires.of_o.second;
        restored = restored2;
        restores = record {
          first = loaded_of c.args.held2.now.zero;
          second = loaded_of c.args.held2.now.one;
          first_loads = c.requires.of_o.first_loads;
          second_loads = c.requires.of_o.second_loads;
          is_newer = refl;
        };
        is_own = refl;
      };
      line0 = party0.0;
      line1 = party1.0;
      line2 = party2.0;
      of_referee = rw (← leads, ← c.own_save-saved0.ensures) party0.1;
      of_x = rw (← leads, ← c.own_save-saved1.ensures) party1.1;
      of_o = rw (← leads, ← c.own_save-saved2.ensures) party2.1;
      board = board.0;
      drawn = rw (← leads) board.1;
      printed = rw (
        board.2,
        party2.2,
        party1.2,
        party0.2,
        c.in_ok-put_slots-3.ensures,
        c.in_ok-put_slots-2.ensures,
        c.in_ok-put_slots.ensures,
        c.new-text.ensures.items,
      ) (seven slots0 slots1 slots2 (line_text party0.0) (line_text party1.0) (line_text party2.0) board.0);
      flag = c.one_loads.ensures;
    }
