use Rattle.std.proofs.Common.{◌≡◌, ◌++◌, List, ℕ, [], refl, rules}
use Rattle.bg_wire.specs.Saved.Restoring.{newer}
use Rattle.bg_text.specs.Boards.BoardText.{line_text}
use Rattle.bg_reports.specs.Folder.{own, slot_lines}
use Rattle.bg_reports.specs.Show.{held_of, loaded_of}
use Rattle.bg_reports.proofs.folders.party_text.Goals as goal

three : (s p b : List ℕ) → ((([] ++ s) ++ p) ++ b) ≡ s ++ p ++ b
three s p b = search rules

pub returns : goal.returns
returns c =
    let restored = newer (loaded_of c.in_ok-held.held.zero) (loaded_of c.in_ok-held.held.one) in
    let party = c.in_ok-put_party.ensures in
    let board = c.in_ok-put_leader.ensures in
    let slots =
    slot_lines c.args.party c.args.slots.now.zero.items c.args.slots.now.one.items (held_of c.in_ok-held.held.zero)
    (held_of c.in_ok-held.held.one) in
    record {
      zero = held_of c.in_ok-held.held.zero;
      one = held_of c.in_ok-held.held.one;
      saved = own c.args.party restored;
      held = record {
        first = c.in_ok-held.ensures.first;
        second = c.in_ok-held.ensures.second;
        restored = restored;
        restores = record {
          first = loaded_of c.in_ok-held.held.zero;
          second = loaded_of c.in_ok-held.held.one;
          first_loads = c.in_ok-held.ensures.first_loads;
          second_loads = c.in_ok-held.ensures.second_loads;
          is_newer = refl;
        };
        is_own = refl;
      };
      line = party.0;
      told = rw (← c.own_save-saved.ensures) party.1;
      board = board.0;
      drawn = rw (← c.own_save-saved.ensures) board.1;
      printed = rw (board.2, party.2, c.in_ok-put_slots.ensures, c.new-text.ensures.items) (three slots (line_text party.0) board.0);
      flag = c.loads.ensures;
    }
