use Rattle.std.proofs.Common.{◌<◌, ◌∙◌, length, map, ap, arith, rules, refl}
use Rattle.std.proofs.lemmas.List.{length-map}
use Rattle.bg_match.specs.Actor.{seat_of}
use Rattle.bg_match.specs.Limits.{most_entries}
use Rattle.bg_match.specs.Match.{IsKept}
use Rattle.bg_match.proofs.Kept.{kept_log, IsKept-made}
use Rattle.bg_match.proofs.Runs.{legal_follow, record_fault}
use Rattle.bg_match.proofs.records.Record.push_into_room.Goals as goal

pub returns-then-len-clause-log : goal.returns-then-len-clause-log
returns-then-len-clause-log c = rw (← c.self.view_is) (kept_log _ _ _ _ _ _ c.self.invariant)

pub returns-in_err-apply-clause-ok : goal.returns-in_err-apply-clause-ok
returns-in_err-apply-clause-ok c =
    let few : length (map (λ m. m.entry) c.self.inside.made.items) < most_entries = rw length-map (omega arith) in
    let follow = legal_follow _ _ c.args.entry _ c.self.invariant.stands few in
    rw (← c.self.view_is) (
      λ ok. search (rules, ok, c.from_residual.ensures),
      λ legal. search (rules, c.in_err-apply.ensures.ok.1 (follow.0 legal)),
    )

pub returns-in_err-apply-clause-fault : goal.returns-in_err-apply-clause-fault
returns-in_err-apply-clause-fault c =
    let few : length (map (λ m. m.entry) c.self.inside.made.items) < most_entries = rw length-map (omega arith) in
    let fault = record_fault _ _ c.args.entry _ c.self.invariant.stands few c.in_err-apply.field-0.0 c.args.self.now.id c.args.self.now.spare c.in_err-apply.ensures.fault in
    rw (← c.self.view_is) (search (rules, fault, c.from_residual.ensures))

kept : (c : goal.After-push_reserved) → IsKept c.self.inside.terms (map (λ m. m.entry) c.push_reserved.new.self.items) (map (λ m. m.seat) c.push_reserved.new.self.items) c.apply.new.self
kept c =
    rw c.push_reserved.ensures.items
    (IsKept-made _ c.self.inside.made.items _ _ _ c.self.invariant (omega arith) (c.seat-seat.ensures ∙ ap seat_of c.actor.ensures) c.in_ok-apply.ensures.after)

pub invariant_of-self-2 : goal.invariant_of-self-2
invariant_of-self-2 c = kept c

pub returns-clause-ok : goal.returns-clause-ok
returns-clause-ok c =
    let few : length (map (λ m. m.entry) c.self.inside.made.items) < most_entries = rw length-map (omega arith) in
    let follow = legal_follow _ _ c.args.entry _ c.self.invariant.stands few in
    rw (← c.self.view_is) (λ ok. follow.1 (_, c.in_ok-apply.ensures.after), λ legal. refl)

pub returns-clause-legal : goal.returns-clause-legal
returns-clause-legal c = ((kept c).few, (_, (kept c).stands))

pub returns-clause-log : goal.returns-clause-log
returns-clause-log c = kept_log _ _ _ _ _ _ (kept c)
