use Rattle.std.proofs.Common.{◌∙◌, sym, arith}
use Rattle.bg_wire.proofs.OfSaves.Loading.{not_both}
use Rattle.bg_wire.proofs.OfSaves.Replaying.{wants_memory}
use Rattle.bg_wire.proofs.saves.saving.load_record.Goals as goal

pub returns-then-is_err : goal.returns-then-is_err
returns-then-is_err c =
    let front = c.in_ok-front.front in
    rw c.in_ok-front.ensures.reads (wants_memory front c.in_ok-front.reader c.in_ok-pass_entries.ensures
    (λ none. not_both c.reserve.result (sym c.is_err.ensures.value ∙ c.if-is_err.true) (c.reserve.ensures.there (omega (arith, none, c.at_most.ensures))).0))
