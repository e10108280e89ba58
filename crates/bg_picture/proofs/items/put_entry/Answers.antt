use Rattle.std.proofs.Common.{rules}
use Rattle.bg_match.specs.Follows.{Follows}
use Rattle.bg_picture.proofs.Written.{goes_on, ends}
use Rattle.bg_picture.proofs.items.put_entry.Goals as goal
use Rattle.bg_picture.proofs.items.put_entry.Goals.{in-None+in_ok-put_entry_item-in-None, in-Some+in_ok-put_entry_item-in-Some+in_ok-put_result_item-in-Some+in_ok-put_next_start-in-Some}

pub returns : goal.returns
returns c =
    let s = c.args.standing.now in
    let e = c.args.entry.now in
    let next = c.unwrap-next.result in
    let follows : Follows s e next = first_of (search rules, cc) in
    elim c.match-end_of.branch [
      | in-None+in_ok-put_entry_item-in-None w ↦ (
        follows,
        rw w.out-is (goes_on c.args.number s e next _ _ (rw w.in-None.is at c.end_of.ensures) w.in_ok-put_entry_item-in-None.ensures),
      )
      | in-Some+in_ok-put_entry_item-in-Some+in_ok-put_result_item-in-Some+in_ok-put_next_start-in-Some w ↦
          (let won = rw w.in-Some.is at c.end_of.ensures in (
            follows,
            rw w.out-is (ends c.args.number s e next w.in-Some.end.win w.in-Some.end.standing _ _ _ _ won.0 won.1
                w.in_ok-put_entry_item-in-Some.ensures w.in_ok-put_result_item-in-Some.ensures
                w.in_ok-put_next_start-in-Some.ensures),
          ))
    ]
