use Rattle.std.proofs.Common.{◌≡◌, ◌+◌, ◌++◌, ◌∙◌, ℕ, length, take, ap, sym, arith}
use Rattle.bg_match.specs.Match.{IsNext}
use Rattle.bg_match.proofs.Extending.{goes_on, length_with, not_legal, not_next, not_ok, on_ok, stops_at, too_many}
use Rattle.bg_match.proofs.records.Record.after_all.Goals as goal
use Rattle.bg_match.proofs.records.Record.after_all.Goals.{then-number-gt-MOST_ENTRIES-via-then-number-gt-MOST_ENTRIES, then-number-gt-MOST_ENTRIES-via-else-number-gt-MOST_ENTRIES+then-is_err}

pub returns-then-number-gt-MOST_ENTRIES-clause-first : goal.returns-then-number-gt-MOST_ENTRIES-clause-first
returns-then-number-gt-MOST_ENTRIES-clause-first c =
    let log = c.args.self.now in
    let held = c.loop-entry.invariant in
    let front = log.entries ++ take c.loop-entry.entry-index c.args.entries.now in
    let many : length front ≡ c.loop-entry.number =
    length_with log.entries c.args.entries.now c.loop-entry.entry-index (omega arith) ∙ sym held.number in
    let stuck : IsNext log.terms front c.entry-item.result → ⊥ = elim c.then-number-gt-MOST_ENTRIES.branch [
      | then-number-gt-MOST_ENTRIES-via-then-number-gt-MOST_ENTRIES w ↦
          too_many log.terms front c.entry-item.result (omega (arith, many, w.if-number-gt-MOST_ENTRIES.true))
      | then-number-gt-MOST_ENTRIES-via-else-number-gt-MOST_ENTRIES+then-is_err w ↦
          not_next log.terms front c.entry-item.result c.loop-entry.standing
          (omega (arith, many, w.if-number-gt-MOST_ENTRIES.false)) held.stands
          (λ can. not_ok w.apply.result (sym w.is_err.ensures.value ∙ w.if-is_err.true) (w.apply.ensures.ok.1 can))
    ] in
    stops_at log.terms log.entries c.args.entries.now c.loop-entry.entry-index (c.loop-entry.number + 1)
    c.entry-item.result c.loop-entry-test.true c.entry-item.is (ap (λ (n : ℕ). n + 1) (sym many))
    (omega (arith, many, held.few), (c.loop-entry.standing, held.stands)) stuck

pub returns-then-number-gt-MOST_ENTRIES-clause-ok : goal.returns-then-number-gt-MOST_ENTRIES-clause-ok
returns-then-number-gt-MOST_ENTRIES-clause-ok c = (
  λ ok. absurd cc,
  λ legal. absurd (not_legal _ _ _ (returns-then-number-gt-MOST_ENTRIES-clause-first c) legal),
)

pub loop-entry-preserved : goal.loop-entry-preserved
loop-entry-preserved c =
    let held = c.loop-entry.invariant in
    record {
      number = omega (arith, held.number);
      few = omega (arith, c.if-number-gt-MOST_ENTRIES.false);
      stands = goes_on c.args.self.now.terms c.args.self.now.entries c.args.entries.now c.loop-entry.entry-index
          c.entry-item.result c.loop-entry.standing c.apply.new.self c.loop-entry-test.true c.entry-item.is held.stands
          (on_ok c.apply.result _ (sym c.is_err.ensures.value ∙ c.if-is_err.false) c.apply.ensures.after);
    }
