-- The referee's opening of a game is a row of the protocol, and what a referee that grew is in its
-- state.
use Rattle.std.specs.Prelude.{◌≡◌, ℕ, List, Option, Some, None, Result, Ok, Err}
use Rattle.std.proofs.Common.{refl, sym, ◌∙◌, ap, ap₂, subst}
use Rattle.bg_match.specs.declared.entries.Entry.{Entry}
use Rattle.bg_match.specs.Terms.{Terms, rules_of}
use Rattle.bg_wire.specs.declared.packets.Datagram.{Datagram}
use Rattle.bg_wire.specs.Saved.SavedText.{SavedParts}
use Rattle.bg_wire.specs.declared.packets.Packet.{Packet}
use Rattle.bg_wire.specs.declared.packets.Packet.TheVariants as packet
use Rattle.bg_referee.specs.declared.outcomes.DueFault.{DueFault}
use Rattle.bg_referee.specs.Dues.{IsDue, RefereeDues}
use Rattle.bg_referee.specs.Referee.{Appends, RefereeView, with_sessions_of}
use Rattle.bg_referee.specs.Takes.{TellsSaved}
use Rattle.bg_protocol.specs.declared.events.Event.TheVariants as events
use Rattle.bg_protocol.specs.declared.events.Outcome.{Outcome}
use Rattle.bg_protocol.specs.declared.events.Outcome.TheVariants as outcomes
use Rattle.bg_protocol.specs.Protocol.State.{ProtocolState}
use Rattle.bg_protocol.specs.Worlds.WorldState.{CoresMatch, RefereeMatches, Restorable, referee_state, protocol_state}
use Rattle.bg_protocol.specs.Protocol.DueStep.{DueStep, with_entry}
use Rattle.bg_protocol.specs.Worlds.Calls.{DueCalls}
use Rattle.bg_protocol.specs.Protocol.RefereeTakeStep.{IsOfSaved}
use Rattle.bg_protocol.specs.Worlds.Views.{WorldView}
use Rattle.bg_protocol.proofs.Steps.Sides.{StepsTo, goes_at}

pub referee_grew : (id : ℕ) (terms : Terms) (found : Option SavedParts) (r : RefereeView) (e : Entry) (r' : RefereeView)
    → Appends r e r' → RefereeMatches id terms found r → RefereeMatches id terms found r'
referee_grew id terms found r e r' a fits = record {
  log = (
    ap (λ (x : RefereeView). x.log.id) a.grown ∙ fits.log.0,
    ap (λ (x : RefereeView). x.log.terms) a.grown
        ∙ fits.log.1,
  );
  next = ap (λ (x : RefereeView). x.next_save) a.grown ∙ fits.next;
}

-- the sessions of a referee are not in the state
pub other_sessions : (id : ℕ) (terms : Terms) (found : Option SavedParts) (r r' : RefereeView)
    → RefereeMatches id terms found (with_sessions_of r r') → RefereeMatches id terms found r'
other_sessions id terms found r r' fits = record { log = fits.log; next = fits.next }

-- the state with this list, and a referee that is up
abbrev pub at_referee : WorldView → Restorable → List Datagram → RefereeView → ProtocolState
at_referee w c sent r =
    record (protocol_state w c) { sent = sent; referee = referee_state (Some r) w.referee_keeper.slots c.referee }

pub same_state : (w : WorldView) (c : Restorable) (sent new : List Datagram) (r r' : RefereeView) → new ≡ sent → r' ≡ r
    → at_referee w c new r' ≡ at_referee w c sent r
same_state w c sent new r r' e f = ap₂ (at_referee w c) e f

pub grown_state : (w : WorldView) (c : Restorable) (sent new : List Datagram) (r r' : RefereeView) (e : Entry)
    → new ≡ sent → Appends r e r' → at_referee w c new r' ≡ with_entry (at_referee w c sent r) e
grown_state w c sent new r r' e same a = ap₂ (at_referee w c) same a.grown

-- what the core tells is what the state has saved
pub of_saved : (w : WorldView) (c : Restorable) (r : RefereeView) → RefereeMatches w.id w.terms c.referee r
    → (answer : Packet) → TellsSaved r answer → IsOfSaved (at_referee w c w.link.sent r) answer
of_saved w c r fits (packet.Entries id rules start list) h = ((h.0.0 ∙ fits.log.0, h.0.1 ∙ ap rules_of fits.log.1), h.1.run)
of_saved w c r fits (packet.Want id rules sender held) h = absurd h
of_saved w c r fits (packet.Claim id rules sender n a) h = absurd h

module _ (w : WorldView) (c : Restorable) (word : ℕ) where
  due_told : (r r' : RefereeView) (told : Result ℕ DueFault) → RefereeMatches w.id w.terms c.referee r
      → RefereeDues r word told r'
      → DueStep (at_referee w c w.link.sent r) word (outcomes.Due told) (at_referee w c w.link.sent r')
      × RefereeMatches w.id w.terms c.referee r'
  due_told r r' (Ok n) fits h =
      let d = h.dues in (
        (
          d.1.0,
          subst (λ (m : Terms). IsDue m r.log.entries word d.1.0) fits.log.1 d.1.1,
          grown_state w c w.link.sent w.link.sent r r' d.1.0 refl d.1.2,
          d.0,
        ),
        referee_grew w.id w.terms c.referee r d.1.0 r' d.1.2 fits,
      )
  due_told r r' (Err f) fits h =
      let d = h.dues in (
        (
          λ aside e o. h.only aside e (subst (λ (m : Terms). IsDue m r.log.entries word e) (sym fits.log.1) o),
          same_state w c w.link.sent w.link.sent r r' refl d.1,
        ),
        subst (RefereeMatches w.id w.terms c.referee) (sym d.1) fits,
      )

  pub due_goes : (o : Outcome) (new : WorldView) → CoresMatch w c → DueCalls w word o new
      → StepsTo w c (events.Due word) o new
  due_goes o new fits h = at w.referee fits h
    where
      at : (r : Option RefereeView) → CoresMatch (record w { referee = r }) c
          → DueCalls (record w { referee = r }) word o new
          → StepsTo (record w { referee = r }) c (events.Due word) o new
      at None f k =
          goes_at (record w { referee = None }) c (events.Due word) o outcomes.Down new
          (record w { referee = None }) k.0 k.1
          (record { restorable = c; step = (refl, refl); cores = f })
      at (Some r) f k =
          let t = due_told r k.1 k.0 f.referee.1 k.2 in
          goes_at (record w { referee = Some r }) c (events.Due word) o (outcomes.Due k.0) new
          (record w { referee = Some k.1 }) k.3 k.4
          (record {
            restorable = c;
            step = t.0;
            cores = record { referee = (f.referee.0, t.1); x = f.x; o = f.o; watchers = f.watchers };
          })
