use Rattle.bg_turns.proofs.Bits.ByBytes.{eight_few}
use Rattle.bg_turns.proofs.masks.eights.downward.Goals as goal

pub returns-clause-few : goal.returns-clause-few
returns-clause-few c i =
    eight_few _ _ _ _ _ _ _ _ (c.requires.few _) (c.requires.few _) (c.requires.few _) (c.requires.few _) (c.requires.few _) (c.requires.few _) (c.requires.few _) (c.requires.few _) i
