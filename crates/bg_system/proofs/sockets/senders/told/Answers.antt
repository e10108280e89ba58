use Rattle.std.proofs.Common.{◌≡◌, ℕ, subst}
use Rattle.bg_wire.specs.Entries.Codes.{referee}
use Rattle.bg_system.specs.Senders.{IsAddressOf}
use Rattle.bg_system.proofs.Hearing.{told_by}
use Rattle.bg_system.proofs.sockets.senders.told.Goals as goal

pub returns : goal.returns
returns c =
    let same : c.in_ok-party_at.field-0 ≡ referee = cc in
    let there =
    subst (λ (p : ℕ). IsAddressOf c.args.port p c.args.from) same c.in_ok-party_at.ensures in
    told_by c.args.keys.now c.args.port c.args.own c.args.datagram.now c.args.from c.in_ok-open.field-0.now
    c.of_notice.result there c.in_ok-open.ensures c.of_notice.ensures
