use Rattle.std.proofs.Common.{◌++◌, ◌∙◌, ap, subst, ℕ, List}
use Rattle.bg_board.specs.Position.{opponent}
use Rattle.bg_board.specs.declared.players.Player.{Player}
use Rattle.bg_table.specs.LastEntries.{AddsLastLine}
use Rattle.bg_table.specs.Views.{heading_text, table_text}
use Rattle.bg_table.proofs.views.seat_view_text.Goals as goal

pub returns : goal.returns
returns c =
    let s = c.standing-standing.result in
    let heading = heading_text s c.args.reader in
    let table = table_text s c.args.reader c.args.drawing in
    let headed = c.in_ok-put_heading.ensures ∙ ap (λ xs. xs ++ heading) c.new-out.ensures.items in
    let seen = c.in_ok-put_table.ensures ∙ ap (λ xs. xs ++ table) headed in
    let text = c.put_last.new.out.items in
    let last = subst (λ (p : Player). AddsLastLine c.args.log.now p c.put_table.new.out.items text) c.opponent.ensures c.in_ok-put_last.ensures in
    let added = subst (λ (xs : List ℕ). AddsLastLine c.args.log.now (opponent c.args.reader) xs text) seen last in
    (s, text, c.standing-standing.ensures.stands, added, c.in_ok-put_next.ensures)
