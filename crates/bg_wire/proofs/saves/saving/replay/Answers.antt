use Rattle.std.proofs.Common.{◌≡◌, ◌∙◌, ◌+◌, ◌-◌, ◌++◌, ◌∷◌, [], length, ℕ, Err, sym, ap, subst, refl}
use Rattle.std.proofs.lemmas.List.{length-append}
use Rattle.std.proofs.lemmas.Result.{err_from_is_err_and}
use Rattle.bg_match.specs.Match.{Log, IsLegalRecord, IsNext}
use Rattle.bg_match.specs.Terms.{Terms}
use Rattle.bg_wire.specs.declared.faults.LoadFault.{LoadFault}
use Rattle.bg_wire.specs.Entries.Reading.{fault_at, many_at}
use Rattle.bg_wire.specs.Entries.EntryReading.{entry_at}
use Rattle.bg_wire.specs.Saved.SavedReading.{load_fault}
use Rattle.bg_wire.proofs.Many.{goes_on, ends, is_done}
use Rattle.bg_wire.proofs.OfSaves.Loading.{same_more}
use Rattle.bg_wire.proofs.OfSaves.Replaying.{whole, rest_fails, rest_ends, not_next, refused_at, replays_to}
use Rattle.bg_wire.proofs.saves.saving.replay.Goals as goal

pub returns-in-Err : goal.returns-in-Err
returns-in-Err c =
    let all = many_at (entry_at c.args.layout) c.args.count c.args.reader.now in
    rw (ends (entry_at c.args.layout) c.loop-done.log.entries c.args.count c.loop-done.done c.loop-done.reader all
    (fault_at c.in-Err.fault c.entry.new.reader.at) c.loop-done-test.true c.in-Err.ensures c.loop-done.invariant.read)
    (ap (λ (f : LoadFault). Err f) (c.of.ensures ∙ ap load_fault c.fault.ensures))

pub returns-in_err-pass_entries : goal.returns-in_err-pass_entries
returns-in_err-pass_entries c =
    let p = err_from_is_err_and c.from_residual.result c.from_residual.ensures.1 in
    let all = many_at (entry_at c.args.layout) c.args.count c.args.reader.now in
    let front = c.loop-done.log.entries ++ c.in-Ok.entry ∷ [] in
    let so_far =
    goes_on (entry_at c.args.layout) c.loop-done.log.entries c.args.count c.loop-done.done c.loop-done.reader all
    c.in-Ok.entry c.entry.new.reader c.loop-done-test.true c.in-Ok.ensures c.loop-done.invariant.read in
    let fails =
    rest_fails front (many_at (entry_at c.args.layout) (c.args.count - (c.loop-done.done + 1)) c.entry.new.reader)
    c.in_err-pass_entries.field-0.0 c.in_err-pass_entries.ensures in
    rw (p.1, p.2, ap whole (sym so_far) ∙ fails) refl

pub returns-in-Err-push : goal.returns-in-Err-push
returns-in-Err-push c =
    let all = many_at (entry_at c.args.layout) c.args.count c.args.reader.now in
    let front = c.loop-done.log.entries ++ c.in-Ok.entry ∷ [] in
    let so_far =
    goes_on (entry_at c.args.layout) c.loop-done.log.entries c.args.count c.loop-done.done c.loop-done.reader all
    c.in-Ok.entry c.entry.new.reader c.loop-done-test.true c.in-Ok.ensures c.loop-done.invariant.read in
    let rest =
    rest_ends front (many_at (entry_at c.args.layout) (c.args.count - (c.loop-done.done + 1)) c.entry.new.reader)
    c.in_ok-pass_entries.ensures in
    let m : c.loop-done.log.terms ≡ c.args.log.now.terms = ap (λ (l : Log). l.terms) c.loop-done.invariant.same in
    let len : c.loop-done.done + 1 ≡ length c.loop-done.log.entries + 1 = ap (λ (n : ℕ). n + 1) (sym c.loop-done.invariant.len) in
    rw (c.append_fault.ensures, ap whole (sym so_far) ∙ rest.1)
    (refused_at c.in-Err-push.fault (c.loop-done.done + 1) c.args.log.now c.push.new.self c.loop-done.log.entries rest.0 (front ++ rest.0) c.in-Ok.entry len refl c.loop-done.invariant.legal
    (λ ample next. not_next c.in-Err-push.fault (IsNext c.loop-done.log.terms c.loop-done.log.entries c.in-Ok.entry) c.in-Err-push.ensures.ok ample (subst (λ (m : Terms). IsNext m c.loop-done.log.entries c.in-Ok.entry) (sym m) next)))

pub loop-done-preserved : goal.loop-done-preserved
loop-done-preserved c =
    let all = many_at (entry_at c.args.layout) c.args.count c.args.reader.now in
    let added = c.in_default.ensures.appended in
    let entries : c.push.new.self.entries ≡ c.loop-done.log.entries ++ c.in-Ok.entry ∷ [] = ap (λ (l : Log). l.entries) added in
    let same = same_more c.args.log.now c.loop-done.log c.push.new.self (c.loop-done.log.entries ++ c.in-Ok.entry ∷ []) c.loop-done.invariant.same added in
    record {
      read =
          rw entries (goes_on (entry_at c.args.layout) c.loop-done.log.entries c.args.count c.loop-done.done
          c.loop-done.reader all c.in-Ok.entry c.entry.new.reader c.loop-done-test.true c.in-Ok.ensures
          c.loop-done.invariant.read);
      len = ap length entries ∙ length-append c.loop-done.log.entries (c.in-Ok.entry ∷ []) ∙ ap (λ (n : ℕ). n + 1) c.loop-done.invariant.len;
      same = same;
      legal = subst (λ (m : Terms). IsLegalRecord m c.push.new.self.entries) (ap (λ (l : Log). l.terms) same) c.in_default.ensures.legal;
    }

pub returns : goal.returns
returns c =
    let all = many_at (entry_at c.args.layout) c.args.count c.args.reader.now in
    replays_to all c.loop-done.reader c.end.result c.args.log.now c.loop-done.log
    (is_done (entry_at c.args.layout) c.loop-done.log.entries c.args.count c.loop-done.done c.loop-done.reader all
    c.loop-done-test.false c.loop-done.invariant.read)
    c.end.ensures c.loop-done.invariant.same c.loop-done.invariant.legal
