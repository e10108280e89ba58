use Rattle.std.proofs.Common.{◌≡◌, ℕ, List, subst, arith}
use Rattle.bg_system.specs.Keyrings.{IsSealedBy}
use Rattle.bg_system.specs.Senders.{IsWord}
use Rattle.bg_system.proofs.Hearing.{one_said}
use Rattle.bg_system.proofs.sockets.senders.heard.Goals as goal

pub returns-in_err-party : goal.returns-in_err-party
returns-in_err-party c = rw c.from_residual.ensures (λ party bytes small is. c.in_err-party.ensures party small is.sent_there)

pub returns-then-not-is_word : goal.returns-then-not-is_word
returns-then-not-is_word c = λ party bytes small is.
    let same : party ≡ c.in_ok-party.party = omega (arith, is.sent_there.1, c.in_ok-party.ensures.1) in
    let sealed =
    subst (λ (p : ℕ). IsSealedBy c.args.keys.now p c.args.own bytes c.args.datagram.now) same is.sealed in
    let one : bytes ≡ c.in_ok-bytes.bytes.now =
    one_said c.args.keys.now c.in_ok-party.party c.args.own c.args.datagram.now bytes c.in_ok-bytes.bytes.now sealed
    c.in_ok-bytes.ensures in
    let said : IsWord c.in_ok-bytes.bytes.now c.in_ok-party.party =
    subst (λ (b : List ℕ). IsWord b c.in_ok-party.party) one (subst (λ (p : ℕ). IsWord bytes p) same is.said) in
    absurd (cc (c.is_word.ensures.1 said, c.if-not-is_word.true))
