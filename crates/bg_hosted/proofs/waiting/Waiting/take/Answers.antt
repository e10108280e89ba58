use Rattle.std.proofs.Common.{rules, ◌≡◌, ◌<◌, ℕ, List, true, length, ap, sym, ◌∙◌, subst}
use Rattle.std.specs.Prelude.{Contains}
use Rattle.bg_wire.specs.declared.packets.Datagram.{Datagram}
use Rattle.bg_hosted.proofs.Queued.{sent_at, were_sent_remove}
use Rattle.bg_hosted.specs.Queues.{were_sent}
use Rattle.bg_hosted.proofs.waiting.Waiting.take.Goals as goal

pub invariant_of-self-clause-sent_before : goal.invariant_of-self-clause-sent_before
invariant_of-self-clause-sent_before c =
    let sent = c.args.self.now.sent.datagrams in
    let waiting = c.args.self.now.datagrams.items in
    let before : were_sent sent waiting ≡ true = search rules in
    rw c.remove-datagram.ensures.items (were_sent_remove sent waiting c.in_ok-index.index before)

pub returns-clause-taken : goal.returns-clause-taken
returns-clause-taken c =
    let sent = c.args.self.now.sent.datagrams in
    let waiting = c.args.self.now.datagrams.items in
    let d : Datagram = c.remove-datagram.result in
    let before : were_sent sent waiting ≡ true = search rules in
    let within : c.in_ok-index.index < length waiting = search rules in
    let found = sent_at sent waiting c.in_ok-index.index d before within c.remove-datagram.ensures.value in
    let to : d.to ≡ c.args.party = ap (λ (x : Datagram). x.to) c.remove-datagram.ensures.value ∙ c.in_ok-index.ensures.theirs d in
    let same : d ≡ record { to = c.args.party; bytes = c.bytes_of.result.items } =
    ap (λ (n : ℕ). record d { to = n }) to
    ∙ ap (λ (xs : List ℕ). record { to = c.args.party; bytes = xs }) (sym c.bytes_of.ensures) in
    subst (Contains sent) same found
