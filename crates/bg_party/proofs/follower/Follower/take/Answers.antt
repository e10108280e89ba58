use Rattle.bg_party.proofs.Holding.{keeps}
use Rattle.bg_party.proofs.Telling.{all_told}
use Rattle.bg_party.proofs.follower.Follower.take.Goals as goal

pub returns-clause-takes : goal.returns-clause-takes
returns-clause-takes c =
    let e = c.learn_from.ensures in
    record {
      learns = e.learns;
      after = e.after;
      keeps = keeps c.args.self.now c.args.packet.now c.learn_from.result c.learn_from.new.self c.requires e.learns
          e.after;
      told = all_told c.args.self.now c.args.packet.now c.learn_from.result c.learn_from.new.self e.follower e.learns
          e.after;
    }
