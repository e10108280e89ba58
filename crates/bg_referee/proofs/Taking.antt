-- What a ruling comes to is what the referee promises to make of a packet.
use Rattle.std.proofs.Common.{◌≡◌, ℕ, refl, ap, sym, subst, ◌∙◌}
use Rattle.bg_match.specs.Actor.{actor_of}
use Rattle.bg_match.specs.Match.{Log, ActsAfter}
use Rattle.bg_wire.specs.declared.packets.Packet.{Packet}
use Rattle.bg_referee.specs.declared.outcomes.TakeOutcome.{TakeOutcome}
use Rattle.bg_referee.specs.declared.rulings.Ruling.{Ruling}
use Rattle.bg_referee.specs.Referee.{RefereeView, IsReferee}
use Rattle.bg_referee.specs.Rulings.{RulesOn, ComesTo, IsShowable, IsUnchanged, hear_ruling}
use Rattle.bg_referee.specs.Sessions.{SessionsView}
use Rattle.bg_referee.specs.Claims.{Accepts}
use Rattle.bg_referee.specs.Takes.{Replies, AnswerFits, RefereeTakes, reply_to}
use Rattle.bg_referee.proofs.Accepting.{accepts}
use Rattle.bg_referee.proofs.Answering.{answers_sender}
use Rattle.bg_referee.proofs.Hearing.{replies_keep, with_old, came, ruling_hears}

-- the promise follows from what is known of a ruling on a packet, after which the referee is `mid`,
-- of what it taught, and of the outcome
pub taken : (old mid : RefereeView) (p : Packet) (word : ℕ) (r : Ruling) (result : TakeOutcome)
    → (log : Log) (saved next_save : ℕ) (sessions heard : SessionsView)
    → RulesOn old word p r mid → IsShowable old.saved r → IsUnchanged old r mid → IsReferee old
    → record { log = log; saved = saved; next_save = next_save; sessions = sessions } ≡ mid
    → heard ≡ hear_ruling sessions saved p r
    → ComesTo (record { log = log; saved = saved; next_save = next_save; sessions = heard }) r result → AnswerFits result
    → RefereeTakes old p word result (record { log = log; saved = saved; next_save = next_save; sessions = heard })
taken old mid p word r result log saved next_save sessions heard rules showable unchanged referee view hears comes_now fits =
    let stands = referee.legal.1 in
    let actor = actor_of stands.0 in
    let acts : ActsAfter old.log.terms old.log.entries actor = (stands.0, stands.1, refl) in
    let reply = reply_to old actor p in
    let comes = came old mid log saved next_save sessions heard r result view unchanged comes_now in
    let replies : Replies old word reply result mid = rules actor acts result comes in
    let keep = replies_keep old mid word reply result replies in
    let same = with_old old mid log saved next_save sessions view keep.1 in
    let still : saved ≡ old.saved = ap (λ (v : RefereeView). v.saved) view ∙ keep.0 in
    let told : sessions ≡ old.sessions = ap (λ (v : RefereeView). v.sessions) view ∙ keep.1 in
    let all : Accepts old p word result mid = accepts old mid actor p word result referee acts replies in
    record {
      takes = (actor, acts, subst (λ (v : RefereeView). Replies old word reply result v) (sym same) replies);
      accepts = subst (λ (v : RefereeView). Accepts old p word result v) (sym same) all;
      hears = hears ∙ rw (still, told) (ruling_hears old old.sessions p r result showable comes);
      answers = answers_sender old mid actor p word result replies;
      fits = fits;
    }
