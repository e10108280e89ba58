use Rattle.std.proofs.Common.{subst}
use Rattle.bg_world.specs.Texts.ScriptText.{IsScriptText, IsTextFrom}
use Rattle.bg_protocol.specs.Worlds.Views.{WorldView}
use Rattle.bg_world.proofs.Lines.ScriptLines.{script_known}
use Rattle.bg_world.proofs.texts.scripts.script.Goals as goal

pub returns-in-Ok-carry_in_memory-clause-printed : goal.returns-in-Ok-carry_in_memory-clause-printed
returns-in-Ok-carry_in_memory-clause-printed g c =
    let told = c.in-Ok-carry_in_memory.ensures.printed in
    let start = c.in-Ok.ensures.start in
    let verdict = c.in-Ok-carry_in_memory.verdict in
    let text : IsScriptText c.args.setup told.0 told.1 verdict = (
      start.0,
      start.1,
      subst (λ (w : WorldView). IsTextFrom (Unit {0}) (Unit {0}) w told.0 told.1 verdict) start.2 told.3,
    ) in (
      told.0,
      told.1,
      told.2,
      text,
      told.4,
      script_known c.args.setup (g.S.Source.remaining c.args.source.now) told.0 told.1 verdict told.2.known text,
    )
