use Rattle.std.proofs.Common.{None, Some, refl, sym, ◌∙◌, ap}
use Rattle.bg_match.specs.State.{State}
use Rattle.bg_match.proofs.Runs.{CanFollow-Opening, CanFollow-Rolled, CanFollow-Doubled, CanFollow-Taken, CanFollow-Dropped, CanFollow-Moved, CanFollow-Resigned, CanFollow-Accepted, CanFollow-Rejected}
use Rattle.bg_match.proofs.standings.Standing.play.Goals as goal

pub returns-in-Opening-Opening-clause-ok : goal.returns-in-Opening-Opening-clause-ok
returns-in-Opening-Opening-clause-ok c =
    let phase = ap (λ (s : State). s.phase) (sym c.self.view_is) ∙ c.in-Opening-Opening.is-0 in
    let follow = CanFollow-Opening _ c.in-Opening-Opening.x c.in-Opening-Opening.o phase in
    rw c.in-Opening-Opening.is-1 (λ ok. follow.1 (c.open.ensures.ok.0 ok), λ can. c.open.ensures.ok.1 (follow.0 can))

pub returns-in-ToAct-Rolled-clause-ok : goal.returns-in-ToAct-Rolled-clause-ok
returns-in-ToAct-Rolled-clause-ok c =
    let phase = ap (λ (s : State). s.phase) (sym c.self.view_is) ∙ c.in-ToAct-Rolled.is-0 in
    rw c.in-ToAct-Rolled.is-1 (λ ok. CanFollow-Rolled _ _ c.in-ToAct-Rolled.dice phase, λ can. refl)

pub returns-in-ToAct-Doubled-clause-ok : goal.returns-in-ToAct-Doubled-clause-ok
returns-in-ToAct-Doubled-clause-ok c =
    let phase = ap (λ (s : State). s.phase) (sym c.self.view_is) ∙ c.in-ToAct-Doubled.is-0 in
    let follow = CanFollow-Doubled _ _ phase in
    rw c.in-ToAct-Doubled.is-1 (λ ok. follow.1 (c.double_by.ensures.ok.0 ok), λ can. c.double_by.ensures.ok.1 (follow.0 can))

pub returns-in-ToAct-Resigned-clause-ok : goal.returns-in-ToAct-Resigned-clause-ok
returns-in-ToAct-Resigned-clause-ok c =
    let phase = ap (λ (s : State). s.phase) (sym c.self.view_is) ∙ c.in-ToAct-Resigned.is-0 in
    rw c.in-ToAct-Resigned.is-1 (λ ok. CanFollow-Resigned _ _ None c.in-ToAct-Resigned.level phase c.requires, λ can. refl)

pub returns-in-Doubled-Taken-clause-ok : goal.returns-in-Doubled-Taken-clause-ok
returns-in-Doubled-Taken-clause-ok c =
    let phase = ap (λ (s : State). s.phase) (sym c.self.view_is) ∙ c.in-Doubled-Taken.is-0 in
    rw c.in-Doubled-Taken.is-1 (λ ok. CanFollow-Taken c.args.self.now _ phase, λ can. refl)

pub returns-in-Doubled-Dropped-clause-ok : goal.returns-in-Doubled-Dropped-clause-ok
returns-in-Doubled-Dropped-clause-ok c =
    let phase = ap (λ (s : State). s.phase) (sym c.self.view_is) ∙ c.in-Doubled-Dropped.is-0 in
    rw c.in-Doubled-Dropped.is-1 (λ ok. CanFollow-Dropped _ _ phase, λ can. refl)

pub returns-in-ToMove-Moved-clause-ok : goal.returns-in-ToMove-Moved-clause-ok
returns-in-ToMove-Moved-clause-ok c =
    let phase = ap (λ (s : State). s.phase) (sym c.self.view_is) ∙ c.in-ToMove-Moved.is-0 in
    let follow = CanFollow-Moved _ _ _ c.in-ToMove-Moved.turn phase c.requires in
    rw c.in-ToMove-Moved.is-1 (λ ok. follow.1 (c.move_by.ensures.ok.0 ok), λ can. c.move_by.ensures.ok.1 (follow.0 can))

pub returns-in-ToMove-Resigned-clause-ok : goal.returns-in-ToMove-Resigned-clause-ok
returns-in-ToMove-Resigned-clause-ok c =
    let phase = ap (λ (s : State). s.phase) (sym c.self.view_is) ∙ c.in-ToMove-Resigned.is-0 in
    rw c.in-ToMove-Resigned.is-1 (λ ok. CanFollow-Resigned _ _ (Some c.in-ToMove-Resigned.dice) c.in-ToMove-Resigned.level phase c.requires, λ can. refl)

pub returns-in-Resigned-Accepted-clause-ok : goal.returns-in-Resigned-Accepted-clause-ok
returns-in-Resigned-Accepted-clause-ok c =
    let phase = ap (λ (s : State). s.phase) (sym c.self.view_is) ∙ c.in-Resigned-Accepted.is-0 in
    rw c.in-Resigned-Accepted.is-1 (λ ok. CanFollow-Accepted _ _ _ _ phase, λ can. refl)

pub returns-in-Resigned-Rejected-clause-ok : goal.returns-in-Resigned-Rejected-clause-ok
returns-in-Resigned-Rejected-clause-ok c =
    let phase = ap (λ (s : State). s.phase) (sym c.self.view_is) ∙ c.in-Resigned-Rejected.is-0 in
    rw c.in-Resigned-Rejected.is-1 (λ ok. CanFollow-Rejected _ _ _ _ phase, λ can. refl)
