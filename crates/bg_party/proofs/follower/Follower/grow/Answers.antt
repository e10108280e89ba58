use Rattle.std.proofs.Common.{◌≡◌, take, length, ap, arith, refl}
use Rattle.std.proofs.lemmas.List.{length-take-le}
use Rattle.bg_match.specs.Match.{Log}
use Rattle.bg_party.specs.Views.{FollowerView}
use Rattle.bg_party.proofs.Growing.{grown_by}
use Rattle.bg_party.proofs.follower.Follower.grow.Goals as goal

pub overflow_cast-result : goal.overflow_cast-result
overflow_cast-result c = omega (arith, c.requires.follow.within, c.requires.room, c.requires.few)

pub returns-clause-appends : goal.returns-clause-appends
returns-clause-appends c =
    let f : FollowerView =
    record { log = c.self.inside.log; early = c.self.inside.window; retry = c.self.inside.retry } in
    let early = c.args.early.now in
    let size : length (take c.args.count early) ≡ c.args.count =
    length-take-le c.args.count early c.requires.follow.within in (
      refl,
      rw (← c.self.view_is, c.at_once-self-inside.ensures)
          (grown_by f c.args.new.now early c.args.count c.reserve.new.self c.append.new.log c.append-2.new.log
          c.pass.new.self c.reserve.ensures.same c.append.ensures.same c.append-2.ensures.same c.pass.ensures),
      rw (← c.self.view_is) (λ enough.
          let spare = ap (λ (l : Log). l.spare) (c.reserve.ensures.there enough).1 in
          omega (arith, size, spare, c.append.ensures.room, c.append-2.ensures.room)),
    )
