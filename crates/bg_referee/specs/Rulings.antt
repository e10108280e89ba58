-- What a packet comes to before the entries of an answer are read: words of private contracts, of
-- which no public clause speaks.
use Rattle.std.specs.Prelude.{◌≡◌, ℕ, ◌+◌, ◌-◌, ◌≤◌, Bool, List, min, Option}
use Rattle.bg_turns.specs.declared.throws.Dice.{Dice}
use Rattle.bg_match.specs.Terms.{rules_of}
use Rattle.bg_match.specs.Match.{ActsAfter}
use Rattle.bg_match.specs.declared.actions.Action.{Action}
use Rattle.bg_match.specs.declared.entries.Entry.{Entry}
use Rattle.bg_match.specs.declared.phases.Actor.{Actor}
use Rattle.bg_wire.specs.Entries.Codes.{most_in_packet}
use Rattle.bg_wire.specs.declared.packets.Packet.{Packet}
use Rattle.bg_wire.specs.declared.packets.Packet.TheVariants as packet
use Rattle.bg_referee.specs.declared.outcomes.TakeOutcome.{TakeOutcome}
use Rattle.bg_referee.specs.declared.outcomes.TakeOutcome.TheVariants as outcome
use Rattle.bg_referee.specs.declared.rulings.Ruling.{Ruling}
use Rattle.bg_referee.specs.declared.rulings.Ruling.TheVariants as ruling
use Rattle.bg_referee.specs.Referee.{RefereeView, IsShown}
use Rattle.bg_referee.specs.Sessions.{SessionsView, tell, hear_sender}
use Rattle.bg_referee.specs.Takes.{Reply, Replies, reply_to, reply_to_claim, refusal, ComesOf, is_on_turn}

-- the outcome that a ruling comes to, where this referee shows its entries
abbrev pub ComesTo : RefereeView → Ruling → TakeOutcome → Type 0
ComesTo r ruling.OtherMatch what = what ≡ outcome.OtherMatch
ComesTo r ruling.Nothing what = what ≡ outcome.Nothing
ComesTo r (ruling.Shows party start) what =
    (list : List Entry) × IsShown r start list
    × (what ≡ outcome.Answer party (packet.Entries r.log.id (rules_of r.log.terms) start list))
ComesTo r ruling.Ahead what = what ≡ outcome.Ahead
ComesTo r ruling.NotYourTurn what = what ≡ outcome.NotYourTurn
ComesTo r ruling.WordRefused what = what ≡ outcome.WordRefused
ComesTo r (ruling.Refused why) what = what ≡ refusal why
ComesTo r (ruling.Accepted n) what = what ≡ outcome.Accepted n

-- what the ruling comes to is the outcome that the reply asks for
abbrev pub Rules : RefereeView → ℕ → Reply → Ruling → RefereeView → Type 0
Rules old word reply r new = (what : TakeOutcome) → ComesTo old r what → Replies old word reply what new

-- so it is of the reply to a claim, and of that to a packet, whoever acts
abbrev pub RulesOnClaim : RefereeView → ℕ → ℕ → ℕ → Action → Ruling → RefereeView → Type 0
RulesOnClaim old word sender number action r new =
    (actor : Actor) → ActsAfter old.log.terms old.log.entries actor
    → Rules old word (reply_to_claim old actor sender number action) r new

abbrev pub RulesOn : RefereeView → ℕ → Packet → Ruling → RefereeView → Type 0
RulesOn old word p r new =
    (actor : Actor) → ActsAfter old.log.terms old.log.entries actor → Rules old word (reply_to old actor p) r new

-- the same of trying the entry of an action
abbrev pub Tries : RefereeView → Action → Option Dice → Ruling → RefereeView → Type 0
Tries old action dice r new = (what : TakeOutcome) → ComesTo old r what → ComesOf old action dice what new

-- whether the party sits for the one who acts
abbrev pub TellsTurn : RefereeView → ℕ → Bool → Type 0
TellsTurn r party is =
    (actor : Actor) → ActsAfter r.log.terms r.log.entries actor → is ≡ is_on_turn actor party

-- what is to be shown begins with a saved entry
abbrev pub IsShowable : ℕ → Ruling → Type 0
IsShowable saved (ruling.Shows party start) = (1 ≤ start) × (start ≤ saved)
IsShowable saved _ = Unit {0}

-- where entries are to be shown nothing has changed
abbrev pub IsUnchanged : RefereeView → Ruling → RefereeView → Type 0
IsUnchanged old (ruling.Shows party start) new = new ≡ old
IsUnchanged old _ new = Unit {0}

-- what a ruling on a packet teaches, while so many entries are saved
abbrev pub hear_ruling : SessionsView → ℕ → Packet → Ruling → SessionsView
hear_ruling s saved p (ruling.Shows party start) = tell s party (min saved (start - 1 + most_in_packet))
hear_ruling s saved p ruling.Nothing = hear_sender s saved p
hear_ruling s saved p (ruling.Accepted n) = hear_sender s saved p
hear_ruling s saved p _ = s
