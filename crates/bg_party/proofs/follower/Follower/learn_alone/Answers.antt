use Rattle.std.proofs.Common.{◌≡◌, ◌++◌, [], length, ap, arith, refl}
use Rattle.bg_match.specs.Match.{Log, IsLegalRecord}
use Rattle.bg_party.specs.Views.{FollowerView}
use Rattle.bg_party.specs.Window.{early_behind}
use Rattle.bg_party.proofs.Growing.{appends_alone, follows_none}
use Rattle.bg_party.proofs.follower.Follower.learn_alone.Goals as goal

pub returns-in-Ok-clause-learns : goal.returns-in-Ok-clause-learns
returns-in-Ok-clause-learns c =
    let log = c.self.inside.log in
    let new = c.args.new.now in
    let early = early_behind c.self.inside.window (length new) in
    let f : FollowerView = record { log = log; early = c.self.inside.window; retry = c.self.inside.retry } in
    let alone : early ≡ [] = rw (← c.self.view_is) at c.requires.alone in
    let legal : IsLegalRecord log.terms (log.entries ++ new) = (c.in-Ok.ensures.ok (λ h. absurd (cc h))).0 refl in
    rw (← c.self.view_is, c.at_once-self-inside.ensures) (
      0,
      legal,
      follows_none log.terms (log.entries ++ new) early alone legal,
      appends_alone f new early (length new) c.extend.new.self c.pass.new.self alone refl c.in-Ok.ensures.appended
          c.in-Ok.ensures.spare c.pass.ensures,
    )

pub returns-in-Err-Memory-clause-learns : goal.returns-in-Err-Memory-clause-learns
returns-in-Err-Memory-clause-learns c =
    let log = c.self.inside.log in
    let new = c.args.new.now in
    let early = early_behind c.self.inside.window (length new) in
    let alone : early ≡ [] = rw (← c.self.view_is) at c.requires.alone in
    let fault = rw c.in-Err-Memory.field-0-is at c.in-Err-Memory.ensures.fault in
    rw (← c.self.view_is) (
      0,
      fault.1,
      follows_none log.terms (log.entries ++ new) early alone fault.1,
      (
        omega (arith, fault.0),
        ap (λ (l : Log). record { log = l; early = c.self.inside.window; retry = c.self.inside.retry })
            c.in-Err-Memory.ensures.err,
      ),
    )
