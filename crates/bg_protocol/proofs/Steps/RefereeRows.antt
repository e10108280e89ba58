-- The referee's take of a packet is a row of the protocol.
use Rattle.std.specs.Prelude.{◌≡◌, ◌⊎◌, ℕ, ◌<◌, Bool, true, false, List, [], ◌∷◌, ◌++◌, Option, Some, None, Result, Ok, Err, nat_lt}
use Rattle.std.specs.Bool.{MatchBool}
use Rattle.std.proofs.Common.{refl, sym, ◌∙◌, ap, subst, inl, inr, arith}
use Rattle.std.proofs.lemmas.Bool.Decides.{nat_tests}
use Rattle.std.proofs.lemmas.List.{length-map}
use Rattle.bg_board.specs.declared.players.Player.{Player}
use Rattle.bg_board.specs.declared.players.Player.TheVariants.{X, O}
use Rattle.bg_match.specs.declared.entries.Entry.{Entry}
use Rattle.bg_match.specs.Terms.{Terms}
use Rattle.bg_wire.specs.declared.packets.Datagram.{Datagram}
use Rattle.bg_wire.specs.declared.packets.Packet.{Packet}
use Rattle.bg_wire.specs.declared.packets.Packet.TheVariants as packet
use Rattle.bg_wire.specs.Packets.PacketText.{IsPacket}
use Rattle.bg_wire.specs.Parties.{party_of}
use Rattle.bg_referee.specs.declared.outcomes.TakeOutcome.{TakeOutcome}
use Rattle.bg_referee.specs.declared.outcomes.TakeOutcome.TheVariants as takes
use Rattle.bg_referee.specs.Claims.{Accepts, Grants, IsAccepted}
use Rattle.bg_referee.specs.Referee.{RefereeView, with_sessions_of}
use Rattle.bg_referee.specs.Takes.{AnswerFits, AnswersSender, IsSentBy, TellsSaved}
use Rattle.bg_protocol.specs.declared.devices.DeviceFault.{DeviceFault}
use Rattle.bg_protocol.specs.declared.devices.DeviceFault.TheVariants as faults
use Rattle.bg_protocol.specs.declared.events.Event.TheVariants as events
use Rattle.bg_protocol.specs.declared.events.Outcome.{Outcome}
use Rattle.bg_protocol.specs.declared.events.Outcome.TheVariants as outcomes
use Rattle.bg_protocol.specs.declared.roles.Role.TheVariants as roles
use Rattle.bg_protocol.specs.Worlds.WorldState.{CoresMatch, RefereeMatches, Restorable, protocol_state, watcher_entries}
use Rattle.bg_protocol.specs.Protocol.Datagrams.{WasSent}
use Rattle.bg_protocol.specs.Devices.LinkCalls.{AnswerCalls, ComesTo, RefereeHandles, RefereeTakeCalls}
use Rattle.bg_protocol.specs.Protocol.RefereeTakeStep.{AcceptsNone, RefereeTakeStep, ReplyStep, ShowsSaved}
use Rattle.bg_protocol.specs.Worlds.Calls.{TakeCalls}
use Rattle.bg_protocol.specs.Worlds.Views.{LinkView, WorldView, parties}
use Rattle.bg_protocol.specs.Promises.Refusals.{IsSound}
use Rattle.bg_protocol.specs.Protocol.Frames.{SendsAtMost}
use Rattle.bg_protocol.specs.Devices.DeviceCalls.{Posts, Receives, datagram_of, link_outcome}
use Rattle.bg_protocol.specs.Devices.Honesty.{Sends as LinkSends}
use Rattle.bg_protocol.proofs.Protocol.Invariant.{Inv}
use Rattle.bg_protocol.proofs.Steps.Hands.{IsEmptyHand, fault, memory, nothing, no_packet, empty_hand, carries, grows_none, grows_one}
use Rattle.bg_protocol.proofs.Steps.Sides.{StepsTo, goes_at}
use Rattle.bg_protocol.proofs.Steps.DueRows.{at_referee, referee_grew, same_state, grown_state, of_saved, other_sessions}

-- the referee takes what is in hand, and leaves this list and this referee
abbrev TakesTo : WorldView → Restorable → ℕ → RefereeView → Outcome → List Datagram → RefereeView → Type 0
TakesTo w c word r o sent r' = RefereeTakeStep (at_referee w c w.link.sent r) word o (at_referee w c sent r')

module _ (w : WorldView) (c : Restorable) (word : ℕ) (r : RefereeView)
    (fits : RefereeMatches w.id w.terms c.referee r)
    (inv : Inv (at_referee w c w.link.sent r)) where
  fits_same : (r' : RefereeView) → r' ≡ r → RefereeMatches w.id w.terms c.referee r'
  fits_same r' e = subst (RefereeMatches w.id w.terms c.referee) (sym e) fits

  -- nothing was in hand
  nothing_taken : (o : Outcome) (sent : List Datagram) (r' : RefereeView) → IsEmptyHand o → sent ≡ w.link.sent
      → r' ≡ r → TakesTo w c word r o sent r'
  nothing_taken o sent r' hand s f = at hand
    where
      same : at_referee w c sent r' ≡ at_referee w c w.link.sent r
      same = same_state w c w.link.sent sent r r' s f

      at : IsEmptyHand o → TakesTo w c word r o sent r'
      at (fault e) = subst (λ (x : Outcome). TakesTo w c word r x sent r') (sym e) (grows_none _ 1 _ _ same)
      at (memory e) = subst (λ (x : Outcome). TakesTo w c word r x sent r') (sym e) (grows_none _ 1 _ _ same)
      at (nothing e) = subst (λ (x : Outcome). TakesTo w c word r x sent r') (sym e) same
      at (no_packet why e) = subst (λ (x : Outcome). TakesTo w c word r x sent r') (sym e) same

  module _ (p : Packet) (came : WasSent w.link.sent 0 p) where
    -- what the core grants is what the protocol accepts
    granted : (e : Entry) → Grants r p word e → IsAccepted w.id w.terms r.log.entries word p e
    granted e g =
        subst (λ (i : ℕ). IsAccepted i w.terms r.log.entries word p e) fits.log.0
        (subst (λ (m : Terms). IsAccepted r.log.id m r.log.entries word p e) fits.log.1 g)

    none_accepted : ((e : Entry) → Grants r p word e → ⊥) → AcceptsNone (at_referee w c w.link.sent r) word p
    none_accepted h e g =
        h e (subst (λ (i : ℕ). IsAccepted i r.log.terms r.log.entries word p e) (sym fits.log.0)
        (subst (λ (m : Terms). IsAccepted w.id m r.log.entries word p e) (sym fits.log.1) g))

    -- an answer goes to a party that exists
    sender_exists : (to : ℕ) → IsSentBy to p → to < parties w
    sender_exists to h = at p (inv.datagrams 0 p came) h
      where
        seats : (q : Player) (sender : ℕ) → sender ≡ party_of q → to ≡ sender → to < parties w
        seats X sender e f = omega (e, f, arith)
        seats O sender e f = omega (e, f, arith)

        at : (x : Packet) → IsSound (at_referee w c w.link.sent r) x → IsSentBy to x → to < parties w
        at (packet.Want id rules sender held) s t = let there = s.1 in omega
            (there, t, length-map w.watchers watcher_entries, arith)
        at (packet.Claim id rules sender n a) s t = seats s.1.0 sender s.1.1 t
        at (packet.Entries id rules start list) s t = absurd t

    module _ (honest : Type 0) (is_honest : honest) (mid n : LinkView) (same : mid.sent ≡ w.link.sent) where
      shows : (to : ℕ) (answer : Packet) → IsPacket answer → TellsSaved r answer
          → ShowsSaved (at_referee w c w.link.sent r) (datagram_of to answer)
      shows to answer range h = (answer, carries to answer range, of_saved w c r fits answer h)

      list_after : (l : List Datagram) (r' : RefereeView) (d : Datagram) → r' ≡ r → l ≡ mid.sent ++ d ∷ []
          → at_referee w c l r' ≡ record (at_referee w c w.link.sent r) { sent = w.link.sent ++ d ∷ [] }
      list_after l r' d f e =
          same_state w c (w.link.sent ++ d ∷ []) l r r' (e ∙ ap (λ (x : List Datagram). x ++ d ∷ []) same) f

      -- the send of an answer failed
      not_sent : (to : ℕ) (answer : Packet) (x : DeviceFault) (r' : RefereeView) → IsPacket answer
          → TellsSaved r answer → r' ≡ r
          → (n.sent ≡ mid.sent) ⊎ (n.sent ≡ mid.sent ++ datagram_of to answer ∷ [])
          → TakesTo w c word r (link_outcome x) n.sent r'
      not_sent to answer x r' range tells f list = named x
        where
          grows : SendsAtMost (ShowsSaved (at_referee w c w.link.sent r)) 1 (at_referee w c w.link.sent r)
              (at_referee w c n.sent r')
          grows = at list
            where
              at : (n.sent ≡ mid.sent) ⊎ (n.sent ≡ mid.sent ++ datagram_of to answer ∷ [])
                  → SendsAtMost (ShowsSaved (at_referee w c w.link.sent r)) 1 (at_referee w c w.link.sent r)
                  (at_referee w c n.sent r')
              at (inl e) = grows_none _ 1 _ _ (same_state w c w.link.sent n.sent r r' (e ∙ same) f)
              at (inr e) =
                  grows_one _ 1 _ _ (datagram_of to answer) (omega arith) (shows to answer range tells)
                  (list_after n.sent r' (datagram_of to answer) f e)

          named : (y : DeviceFault)
              → TakesTo w c word r (link_outcome y) n.sent r'
          named faults.Failed = grows
          named faults.Memory = grows

      answered : (to : ℕ) (answer : Packet) (result : Outcome) (r' : RefereeView)
          → ((e : Entry) → Grants r p word e → ⊥) → r' ≡ r → IsSentBy to p → TellsSaved r answer → IsPacket answer
          → (b : Bool) → nat_lt to (parties w) ≡ b
          → MatchBool b
          ((sent : Result (Unit {0}) DeviceFault) × Posts honest mid to answer sent n
          × ComesTo (outcomes.Took (takes.Answer to answer)) sent result)
          ((result ≡ outcomes.Took (takes.Answer to answer)) × (n ≡ mid))
          → TakesTo w c word r result n.sent r'
      answered to answer result r' none f by tells range false e h = let there = sender_exists to by in absurd
          (grind (arith, nat_tests))
      answered to answer result r' none f by tells range true e h = told h.0 (h.1.sent is_honest) h.2
        where
          told : (sent : Result (Unit {0}) DeviceFault) → LinkSends mid.sent (datagram_of to answer) n.sent sent
              → ComesTo (outcomes.Took (takes.Answer to answer)) sent result
              → TakesTo w c word r result n.sent r'
          told (Ok u) list is =
              subst (λ (x : Outcome). TakesTo w c word r x n.sent r') (sym is) (
                p,
                came,
                (
                  none_accepted none,
                  of_saved w c r fits answer tells,
                  (
                    datagram_of to answer,
                    carries to answer range,
                    list_after n.sent r' (datagram_of to answer) f list,
                  ),
                ),
              )
          told (Err x) list is =
              subst (λ (o : Outcome). TakesTo w c word r o n.sent r') (sym is)
              (not_sent to answer x r' range tells f list)

      -- the record stays, and so does the list
      idle : (t : TakeOutcome) (result : Outcome) (r' : RefereeView)
          → ReplyStep (at_referee w c w.link.sent r) word p t (at_referee w c n.sent r') → result ≡ outcomes.Took t
          → TakesTo w c word r result n.sent r'
      idle t result r' took e =
          subst (λ (x : Outcome). TakesTo w c word r x n.sent r') (sym e) (p, came, took)

      same_at : (r' : RefereeView) → n ≡ mid → r' ≡ r → at_referee w c n.sent r' ≡ at_referee w c w.link.sent r
      same_at r' e f = same_state w c w.link.sent n.sent r r' (ap (λ (x : LinkView). x.sent) e ∙ same) f

      -- of a referee that has the sessions that it had
      took_row : (t : TakeOutcome) (result : Outcome) (r' : RefereeView) → Accepts r p word t r' → AnswersSender r p t
          → AnswerFits t → AnswerCalls honest (parties w) mid t result n
          → TakesTo w c word r result n.sent r' × RefereeMatches w.id w.terms c.referee r'
      took_row (takes.Accepted k) result r' g by fit a = (
        idle (takes.Accepted k) result r' (
          g.1.0,
          granted g.1.0 g.1.1,
          grown_state w c w.link.sent n.sent r r' g.1.0 (ap (λ (x : LinkView). x.sent) a.1 ∙ same) g.1.2,
          g.0,
        ) a.0,
        referee_grew w.id w.terms c.referee r g.1.0 r' g.1.2 fits,
      )
      took_row (takes.Answer to answer) result r' g by fit a = (
        answered to answer result r' g.0 g.1 by.0 by.1 fit (nat_lt to (parties w)) refl a,
        fits_same r' g.1,
      )
      took_row takes.Memory result r' g by fit a =
          (idle takes.Memory result r' (same_at r' a.1 g.2) a.0, fits_same r' g.2)
      took_row takes.OtherMatch result r' g by fit a =
          (idle takes.OtherMatch result r' (none_accepted g.0, same_at r' a.1 g.1) a.0, fits_same r' g.1)
      took_row takes.Nothing result r' g by fit a =
          (idle takes.Nothing result r' (none_accepted g.0, same_at r' a.1 g.1) a.0, fits_same r' g.1)
      took_row takes.Ahead result r' g by fit a =
          (idle takes.Ahead result r' (none_accepted g.0, same_at r' a.1 g.1) a.0, fits_same r' g.1)
      took_row takes.NotYourTurn result r' g by fit a =
          (idle takes.NotYourTurn result r' (none_accepted g.0, same_at r' a.1 g.1) a.0, fits_same r' g.1)
      took_row takes.WordRefused result r' g by fit a =
          (idle takes.WordRefused result r' (none_accepted g.0, same_at r' a.1 g.1) a.0, fits_same r' g.1)
      took_row (takes.Illegal why) result r' g by fit a =
          (idle (takes.Illegal why) result r' (none_accepted g.0, same_at r' a.1 g.1) a.0, fits_same r' g.1)

  take_row : (honest : Type 0) → honest → (pick : ℕ) (result : Outcome) (n : LinkView) (r' : RefereeView)
      → RefereeTakeCalls honest (parties w) w.link r pick word result n r'
      → TakesTo w c word r result n.sent r' × RefereeMatches w.id w.terms c.referee r'
  take_row honest is_honest pick result n r' h = at h.0 h.1 h.2 h.3
    where
      at : (hand : Result Packet Outcome) (mid : LinkView) → Receives honest w.link 0 pick hand mid
          → RefereeHandles honest (parties w) mid r word hand result n r'
          → TakesTo w c word r result n.sent r' × RefereeMatches w.id w.terms c.referee r'
      at (Err trouble) mid receives k =
          let same : n.sent ≡ w.link.sent = ap (λ (x : LinkView). x.sent) k.1 ∙ receives.same is_honest in
          let t = nothing_taken trouble n.sent r' (empty_hand mid.taken trouble receives.is_hand) same k.2 in
          (subst (λ (x : Outcome). TakesTo w c word r x n.sent r') (sym k.0) t, fits_same r' k.2)
      at (Ok p) mid receives k =
          let took = k.1 in
          let row = took_row p (receives.was_sent is_honest) honest is_honest mid n
          (receives.same is_honest) k.0 result (with_sessions_of r r') took.accepts took.answers took.fits k.2 in
          (row.0, other_sessions w.id w.terms c.referee r r' row.1)

pub take_referee_goes : (w : WorldView) (c : Restorable) (honest : Type 0) → honest
    → (party pick word : ℕ) (o : Outcome) (new : WorldView) → CoresMatch w c → Inv (protocol_state w c)
    → TakeCalls honest w roles.Referee party pick word o new → StepsTo w c (events.Take 0 pick word) o new
take_referee_goes w c honest is_honest party pick word o new fits inv h = at w.referee fits inv h
  where
    at : (r : Option RefereeView) → CoresMatch (record w { referee = r }) c
        → Inv (protocol_state (record w { referee = r }) c)
        → TakeCalls honest (record w { referee = r }) roles.Referee party pick word o new
        → StepsTo (record w { referee = r }) c (events.Take 0 pick word) o new
    at None f i k =
        goes_at (record w { referee = None }) c (events.Take 0 pick word) o outcomes.Down new
        (record w { referee = None }) k.0 k.1
        (record { restorable = c; step = (refl, refl); cores = f })
    at (Some r) f i k =
        let t = take_row w c word r f.referee.1 i honest is_honest pick o k.0 k.1 k.2 in
        goes_at (record w { referee = Some r }) c (events.Take 0 pick word) o o new
        (record w { link = k.0; referee = Some k.1 }) refl k.3
        (record {
          restorable = c;
          step = t.0;
          cores = record { referee = (f.referee.0, t.1); x = f.x; o = f.o; watchers = f.watchers };
        })
