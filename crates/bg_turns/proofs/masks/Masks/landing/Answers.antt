use Rattle.bg_turns.proofs.Bits.Single.{landing_inside, landing_outside}
use Rattle.bg_turns.proofs.masks.Masks.landing.Goals as goal

pub returns-clause-inside : goal.returns-clause-inside
returns-clause-inside c q small inside =
    landing_inside c.args.self.held c.args.self.blocked c.args.die c.args.below c.requires.low c.requires.high c.requires.inside q small inside

pub returns-clause-outside : goal.returns-clause-outside
returns-clause-outside c q outside =
    landing_outside c.args.self.held c.args.self.blocked c.args.die c.args.below c.requires.low c.requires.high c.requires.inside q outside
