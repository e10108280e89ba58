-- A choice is what the schedule names.
use Rattle.std.proofs.Common.{◌≡◌, ◌≤◌, ◌%◌, ℕ, Some, None, subst, sym, ◌∙◌, arith}
use Rattle.bg_board.specs.declared.players.Player.{Player}
use Rattle.bg_match.specs.Match.{Log}
use Rattle.bg_protocol.specs.Worlds.Views.{WorldView}
use Rattle.bg_protocol.specs.declared.events.Event.{Event}
use Rattle.bg_auto.specs.AutoAction.{IsAutoAction}
use Rattle.bg_auto.specs.Schedule.{IsChoice, IsScheduled, named_player, seat_log}

pub chosen : (w : WorldView) (parties word a b : ℕ) (event : Event) → 7 ≤ a % 16 → a % 16 ≤ 8
    → IsChoice w (named_player b) event → IsScheduled w parties word a b event
chosen w parties word a b event low high h = record {
  due = λ is. absurd (omega arith);
  take = λ above below. absurd (omega arith);
  choose = λ above below. h;
  tick = λ above below. absurd (omega arith);
  save = λ above below. absurd (omega arith);
  restart = λ is rest. absurd (omega arith);
  no_restart = λ is rest. absurd (omega arith);
}

-- a seat whose player does nothing after the record that it holds
pub does_nothing : (w : WorldView) (player : Player) (held : Log) → seat_log w player ≡ Some held
    → IsAutoAction held player None → (log : Log) → seat_log w player ≡ Some log → IsAutoAction log player None
does_nothing w player held is h log also =
    let same : Some held ≡ Some log = sym is ∙ also in
    let equal : held ≡ log = cc in
    subst (λ (x : Log). IsAutoAction x player None) equal h
