use Rattle.std.proofs.Common.{◌≡◌, ◌++◌}
use Rattle.bg_world.specs.Texts.FinalText.{parties_text}
use Rattle.bg_protocol.specs.Worlds.World.{view_of}
use Rattle.bg_world.proofs.texts.final_texts.put_parties.Given as goal

abbrev pub invariant-loop-party : goal.invariant-loop-party
invariant-loop-party g l =
    (l.out).items ≡ (l.fn.out).items ++ parties_text (view_of g.L.Link g.K.Keeper l.world) l.party
