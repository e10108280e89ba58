use Rattle.std.proofs.Common.{refl, ap, rules}
use Rattle.bg_wire.specs.declared.packets.Packet.{Packet}
use Rattle.bg_referee.specs.declared.outcomes.TakeOutcome.TheVariants as outcome
use Rattle.bg_referee.proofs.Taking.{taken}
use Rattle.bg_referee.proofs.referee.Referee.take.Goals.{in-OtherMatch, in-Nothing, in-Ahead, in-NotYourTurn, in-WordRefused, in-Refused-Memory}
use Rattle.bg_referee.proofs.referee.Referee.take.Goals as goal

pub returns-in-Shows : goal.returns-in-Shows
returns-in-Shows c =
    let e = c.rule-ruling.ensures in
    taken c.args.self.now c.rule-ruling.new.self c.args.packet.now c.args.word c.rule-ruling.result _ c.self.inside.log c.self.inside.saved _ c.self.inside.sessions _
    e.rules e.showable e.unchanged e.referee c.self.view_is c.hear.ensures (let s = c.packet_from.ensures.shows in rw c.in-Shows.is (s.0, s.1, ap (λ (a : Packet). outcome.Answer c.in-Shows.party a) s.2)) c.packet_from.ensures.fits

pub returns-in-Refused : goal.returns-in-Refused
returns-in-Refused c =
    let e = c.rule-ruling.ensures in
    taken c.args.self.now c.rule-ruling.new.self c.args.packet.now c.args.word c.rule-ruling.result _ c.self.inside.log c.self.inside.saved _ c.self.inside.sessions _
    e.rules e.showable e.unchanged e.referee c.self.view_is c.hear.ensures (rw c.in-Refused.is (search rules)) tt

pub returns-in-Accepted : goal.returns-in-Accepted
returns-in-Accepted c =
    let e = c.rule-ruling.ensures in
    taken c.args.self.now c.rule-ruling.new.self c.args.packet.now c.args.word c.rule-ruling.result _ c.self.inside.log c.self.inside.saved _ c.self.inside.sessions _
    e.rules e.showable e.unchanged e.referee c.self.view_is c.hear.ensures (rw c.in-Accepted.is refl) tt

pub returns : goal.returns
returns c =
    let e = c.rule-ruling.ensures in
    elim c.match-ruling.branch [
      | in-OtherMatch w ↦ rw w.result-is
          (taken c.args.self.now c.rule-ruling.new.self c.args.packet.now c.args.word c.rule-ruling.result _ c.self.inside.log c.self.inside.saved _ c.self.inside.sessions _
          e.rules e.showable e.unchanged e.referee c.self.view_is c.hear.ensures (rw w.in-OtherMatch.is refl) tt)
      | in-Nothing w ↦ rw w.result-is
          (taken c.args.self.now c.rule-ruling.new.self c.args.packet.now c.args.word c.rule-ruling.result _ c.self.inside.log c.self.inside.saved _ c.self.inside.sessions _
          e.rules e.showable e.unchanged e.referee c.self.view_is c.hear.ensures (rw w.in-Nothing.is refl) tt)
      | in-Ahead w ↦ rw w.result-is
          (taken c.args.self.now c.rule-ruling.new.self c.args.packet.now c.args.word c.rule-ruling.result _ c.self.inside.log c.self.inside.saved _ c.self.inside.sessions _
          e.rules e.showable e.unchanged e.referee c.self.view_is c.hear.ensures (rw w.in-Ahead.is refl) tt)
      | in-NotYourTurn w ↦ rw w.result-is
          (taken c.args.self.now c.rule-ruling.new.self c.args.packet.now c.args.word c.rule-ruling.result _ c.self.inside.log c.self.inside.saved _ c.self.inside.sessions _
          e.rules e.showable e.unchanged e.referee c.self.view_is c.hear.ensures (rw w.in-NotYourTurn.is refl) tt)
      | in-WordRefused w ↦ rw w.result-is
          (taken c.args.self.now c.rule-ruling.new.self c.args.packet.now c.args.word c.rule-ruling.result _ c.self.inside.log c.self.inside.saved _ c.self.inside.sessions _
          e.rules e.showable e.unchanged e.referee c.self.view_is c.hear.ensures (rw w.in-WordRefused.is refl) tt)
      | in-Refused-Memory w ↦ rw w.result-is
          (taken c.args.self.now c.rule-ruling.new.self c.args.packet.now c.args.word c.rule-ruling.result _ c.self.inside.log c.self.inside.saved _ c.self.inside.sessions _
          e.rules e.showable e.unchanged e.referee c.self.view_is c.hear.ensures (rw w.in-Refused-Memory.is (search rules)) tt)
    ]
