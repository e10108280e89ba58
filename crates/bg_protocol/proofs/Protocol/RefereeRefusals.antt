-- The referee of a reached state refuses no packet that was sent to it.
use Rattle.std.specs.Prelude.{◌≡◌, ◌==◌, ℕ, ◌+◌, ◌≤◌, Bool, true, false, not, nat_lt, nat_le, List, [], ◌∷◌, ◌++◌, length}
use Rattle.std.proofs.Common.{refl, sym, ◌∙◌, ap, subst, inl, inr, arith}
use Rattle.std.proofs.lemmas.Bool.Decides.{nat_tests}
use Rattle.bg_match.specs.declared.limits.Rules.{Rules}
use Rattle.bg_turns.specs.Dice.{dice_of}
use Rattle.bg_match.specs.Match.{IsLegalRecord, ActsAfter}
use Rattle.bg_match.specs.Terms.{Terms, rules_of}
use Rattle.bg_match.specs.declared.actions.Action.{Action}
use Rattle.bg_match.specs.declared.entries.Entry.{Entry}
use Rattle.bg_match.specs.declared.phases.Actor.{Actor}
use Rattle.bg_match.specs.declared.phases.Actor.TheVariants.{Seat}
use Rattle.bg_match.proofs.Legal.{one_actor}
use Rattle.bg_wire.specs.Entries.Codes.{referee}
use Rattle.bg_wire.specs.Packets.PacketText.{IsOfMatch, is_of_match}
use Rattle.bg_wire.specs.Parties.{party_of}
use Rattle.bg_wire.specs.declared.packets.Packet.{Packet}
use Rattle.bg_wire.specs.declared.packets.Packet.TheVariants as packet
use Rattle.bg_referee.specs.Referee.{RefereeView}
use Rattle.bg_referee.specs.Takes.{Takes, Replies, ComesOf, Shows, is_on_turn, reply_to_want, reply_to_claim}
use Rattle.bg_referee.specs.declared.outcomes.TakeOutcome.{TakeOutcome}
use Rattle.bg_referee.specs.declared.outcomes.TakeOutcome.TheVariants as takes
use Rattle.bg_referee.proofs.Accepting.{either}
use Rattle.bg_referee.proofs.Matching.{not_of_match}
use Rattle.bg_protocol.specs.Protocol.Datagrams.{WasSent}
use Rattle.bg_protocol.specs.Worlds.NotRefused.{IsNotRefusedByReferee}
use Rattle.bg_protocol.specs.Promises.Refusals.{IsNoPacketRefused}
use Rattle.bg_protocol.specs.Protocol.State.{ProtocolState}
use Rattle.bg_protocol.specs.Worlds.WorldState.{IsLogOf}

module _ (v : ProtocolState) (refused : IsNoPacketRefused v) (r r' : RefereeView) (log : IsLogOf v.id v.terms r.log)
    (entries : r.log.entries ≡ v.referee.log) (saved : r.saved ≡ v.referee.saved) (word : ℕ) where
  said : (what t : TakeOutcome) → IsNotRefusedByReferee what → (t ≡ what) × (r' ≡ r) → IsNotRefusedByReferee t
  said what t h k = subst IsNotRefusedByReferee (sym k.0) h

  shown : (party start : ℕ) (t : TakeOutcome) → Replies r word (Shows party start) t r' → IsNotRefusedByReferee t
  shown party start t h = subst IsNotRefusedByReferee (sym h.0.2) tt

  -- this is the match
  of_this : (p : Packet) → IsOfMatch v.id (rules_of v.terms) p → IsOfMatch r.log.id (rules_of r.log.terms) p
  of_this p h = (h.0 ∙ sym log.0, h.1 ∙ ap rules_of (sym log.1))

  to_want : (sender held : ℕ) (t : TakeOutcome) → held ≤ v.referee.saved
      → Replies r word (reply_to_want r sender held) t r' → IsNotRefusedByReferee t
  to_want sender held t low h =
      elim (either r r' word (nat_lt held r.saved) _ _ t h) [
        | inl a ↦ shown sender (held + 1) t a.1
        | inr a ↦ elim (either r r' word (held == r.saved) _ _ t a.1) [
          | inl b ↦ said takes.Nothing t tt b.1
          | inr b ↦ (let above = a.0 in let other = b.0 in absurd (grind (arith, nat_tests)))
        ]
      ]

  comes : (action : Action) (id : ℕ) (rules : Rules) (sender n : ℕ) (t : TakeOutcome)
      → WasSent v.sent referee (packet.Claim id rules sender n action) → n ≡ length v.referee.log + 1
      → ComesOf r action (dice_of word) t r' → IsNotRefusedByReferee t
  comes action id rules sender n takes.WordRefused came next h = tt
  comes action id rules sender n takes.Memory came next h = tt
  comes action id rules sender n (takes.Accepted k) came next h = tt
  comes action id rules sender n (takes.Illegal why) came next h =
      let e = h.0.0 in
      let legal = refused.claims.legal id rules sender n action came next (dice_of word) e h.0.1 in
      let l = subst (λ (m : Terms). IsLegalRecord m (v.referee.log ++ e ∷ [])) (sym log.1) legal in
      h.0.2 (subst (λ (x : List Entry). IsLegalRecord r.log.terms (x ++ e ∷ [])) (sym entries) l)
  comes action id rules sender n takes.OtherMatch came next h = absurd h
  comes action id rules sender n takes.Nothing came next h = tt
  comes action id rules sender n (takes.Answer to p) came next h = tt
  comes action id rules sender n takes.Ahead came next h = absurd h
  comes action id rules sender n takes.NotYourTurn came next h = absurd h

  off : (b : Bool) → not b ≡ true → b ≡ false
  off true h = cc
  off false h = refl

  -- who sends the next claim is on turn
  on_turn : (actor : Actor) (id : ℕ) (rules : Rules) (sender n : ℕ) (action : Action) → ActsAfter r.log.terms r.log.entries actor
      → WasSent v.sent referee (packet.Claim id rules sender n action) → n ≡ length v.referee.log + 1
      → is_on_turn actor sender ≡ true
  on_turn actor id rules sender n action acts came next =
      let turn = refused.claims.turn id rules sender n action came next in
      let there : ActsAfter r.log.terms r.log.entries (Seat turn.0) =
      subst (λ (x : List Entry). ActsAfter r.log.terms x (Seat turn.0)) (sym entries)
      (subst (λ (m : Terms). ActsAfter m v.referee.log (Seat turn.0)) (sym log.1) turn.2) in
      let same : actor ≡ Seat turn.0 = one_actor r.log.terms r.log.entries actor (Seat turn.0) acts there in
      ap (λ (a : Actor). is_on_turn a sender) same ∙ ap (λ (s : ℕ). s == party_of turn.0) turn.1
      ∙ equal (party_of turn.0)
    where
      equal : (k : ℕ) → (k == k) ≡ true
      equal k = grind (arith, nat_tests)

  to_claim : (actor : Actor) (id : ℕ) (rules : Rules) (sender n : ℕ) (action : Action) (t : TakeOutcome)
      → ActsAfter r.log.terms r.log.entries actor → WasSent v.sent referee (packet.Claim id rules sender n action)
      → Replies r word (reply_to_claim r actor sender n action) t r' → IsNotRefusedByReferee t
  to_claim actor id rules sender n action t acts came h =
      let high = refused.claims.not_ahead id rules sender n action came in
      let long : length r.log.entries ≡ length v.referee.log = ap length entries in
      elim (either r r' word (nat_le n r.saved) _ _ t h) [
        | inl a ↦ shown sender n t a.1
        | inr a ↦ elim (either r r' word (nat_le n (length r.log.entries)) _ _ t a.1) [
          | inl b ↦ said takes.Nothing t tt b.1
          | inr b ↦ elim (either r r' word (nat_lt (length r.log.entries + 1) n) _ _ t b.1) [
            | inl d ↦ (let ahead = d.0 in absurd (grind (arith, nat_tests)))
            | inr d ↦ (
                let above = b.0 in
                let next : n ≡ length v.referee.log + 1 = grind (arith, nat_tests) in
                elim (either r r' word (not (is_on_turn actor sender)) _ _ t d.1) [
                  | inl e ↦ (let on = on_turn actor id rules sender n action acts came next in let not_on = off
                      (is_on_turn actor sender) e.0 in absurd cc)
                  | inr e ↦ comes action id rules sender n t came next e.1
                ])
          ]
        ]
      ]

  pub not_refused : (p : Packet) (t : TakeOutcome) → WasSent v.sent referee p → Takes r p word t r'
      → IsNotRefusedByReferee t
  not_refused (packet.Want id rules sender held) t came h =
      let p = packet.Want id rules sender held in
      let sound = refused.sound referee p came in
      elim (either r r' word (is_of_match r.log.id (rules_of r.log.terms) p) _ _ t h.2) [
        | inl a ↦ to_want sender held t sound.2 a.1
        | inr a ↦ absurd (not_of_match r.log.id (rules_of r.log.terms) p a.0 (of_this p sound.0))
      ]
  not_refused (packet.Claim id rules sender n action) t came h =
      let p = packet.Claim id rules sender n action in
      let sound = refused.sound referee p came in
      elim (either r r' word (is_of_match r.log.id (rules_of r.log.terms) p) _ _ t h.2) [
        | inl a ↦ to_claim h.0 id rules sender n action t h.1 came a.1
        | inr a ↦ absurd (not_of_match r.log.id (rules_of r.log.terms) p a.0 (of_this p sound.0))
      ]
  not_refused (packet.Entries id rules start list) t came h =
      let p = packet.Entries id rules start list in
      let sound = refused.sound referee p came in
      elim (either r r' word (is_of_match r.log.id (rules_of r.log.terms) p) _ _ t h.2) [
        | inl a ↦ said takes.Nothing t tt a.1
        | inr a ↦ absurd (not_of_match r.log.id (rules_of r.log.terms) p a.0 (of_this p sound.0))
      ]
