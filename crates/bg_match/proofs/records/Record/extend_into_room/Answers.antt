use Rattle.std.proofs.Common.{◌≡◌, ◌+◌, ◌++◌, ◌∙◌, ℕ, length, take, ap, sym}
use Rattle.bg_match.specs.Match.{IsNext, Log}
use Rattle.bg_match.proofs.Extending.{not_legal, not_ok, on_err, stops_at}
use Rattle.bg_match.proofs.records.Record.extend_into_room.Goals as goal

pub returns-then-is_err-clause-fault : goal.returns-then-is_err-clause-fault
returns-then-is_err-clause-fault c =
    let log = c.args.self.now in
    let front = log.entries ++ take c.loop-entry.entry-index c.args.entries.now in
    let entries : c.loop-entry.self.entries ≡ front = ap (λ (l : Log). l.entries) c.loop-entry.invariant.same in
    let terms : c.loop-entry.self.terms ≡ log.terms = ap (λ (l : Log). l.terms) c.loop-entry.invariant.same in
    let legal = rw (entries, terms) at c.loop-entry.invariant.log.legal in
    let stuck : IsNext log.terms front c.entry-item.result → ⊥ = λ next.
    not_ok c.push_into_room.result (sym c.is_err.ensures.value ∙ c.if-is_err.true)
    (c.push_into_room.ensures.ok.1 (rw (entries, terms, c.copy.ensures) next)) in
    let number : c.len-number.result + 1 ≡ length front + 1 =
    ap (λ (n : ℕ). n + 1)
    (c.len-number.ensures.value
    ∙ ap (λ (l : Log). length l.entries)
    (on_err c.push_into_room.result _ (sym c.is_err.ensures.value ∙ c.if-is_err.true) c.push_into_room.ensures.err)
    ∙ ap length entries) in
    stops_at log.terms log.entries c.args.entries.now c.loop-entry.entry-index _ c.entry-item.result
    c.loop-entry-test.true c.entry-item.is number legal stuck

pub returns-then-is_err-clause-ok : goal.returns-then-is_err-clause-ok
returns-then-is_err-clause-ok c = (
  λ ok. absurd cc,
  λ legal. absurd (not_legal _ _ _ (returns-then-is_err-clause-fault c) legal),
)
