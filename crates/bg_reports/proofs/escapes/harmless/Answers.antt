use Rattle.std.proofs.Common.{◌∙◌, ◌⊎◌, inl, inr, ◌<◌, ◌≤◌, length, ap, arith}
use Rattle.bg_reports.proofs.CutLines.{cut_front, nat_order}
use Rattle.bg_reports.specs.Harmless.{cut}
use Rattle.bg_reports.proofs.escapes.harmless.Goals as goal

pub returns : goal.returns
returns c =
    let within : c.min-seen.result ≤ length c.args.bytes.now = omega arith in
    let split : (length c.args.bytes.now ≤ c.min-seen.result) ⊎ (c.args.room < c.min-seen.result) =
    elim (nat_order (length c.args.bytes.now) c.min-seen.result) [ inl all ↦ inl all | inr more ↦ inr (omega arith) ] in
    c.in_ok-cut_off.ensures ∙ ap (cut c.args.room) c.in_ok-text.ensures
    ∙ cut_front c.args.room c.min-seen.result c.args.bytes.now within split
