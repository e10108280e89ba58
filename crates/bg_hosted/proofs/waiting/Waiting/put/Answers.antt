use Rattle.std.proofs.Common.{rules, ◌≡◌, true, List, [], ◌∷◌, ◌++◌, sym, subst}
use Rattle.bg_wire.specs.declared.packets.Datagram.{Datagram}
use Rattle.bg_hosted.proofs.Queued.{were_sent_push}
use Rattle.bg_hosted.specs.Queues.{were_sent}
use Rattle.bg_hosted.proofs.waiting.Waiting.put.Goals as goal

pub invariant_of-self-2-clause-sent_before : goal.invariant_of-self-2-clause-sent_before
invariant_of-self-2-clause-sent_before c =
    let sent = c.args.self.now.sent.datagrams in
    let waiting = c.args.self.now.datagrams.items in
    let d = c.args.datagram.now in
    let before : were_sent sent waiting ≡ true = search rules in
    let items : c.push.new.self.items ≡ waiting ++ d ∷ [] = cc (c.in_ok-push.ensures.items) in
    let all : c.then-self.result.datagrams ≡ sent ++ d ∷ [] = c.then-self.ensures in
    let pushed = were_sent_push sent waiting d before in
    subst (λ (xs : List Datagram). were_sent c.then-self.result.datagrams xs ≡ true) (sym items)
    (subst (λ (xs : List Datagram). were_sent xs (waiting ++ d ∷ []) ≡ true) (sym all) pushed)
