-- What a core that follows makes of what is in hand is what the protocol says of its record.
use Rattle.std.specs.Prelude.{◌≡◌, ◌≢◌, ℕ, suc, ◌+◌, ◌<◌, List, [], ◌∷◌, ◌++◌, Result, Ok, Err, length, take}
use Rattle.std.proofs.Common.{refl, sym, ap, subst, arith, length-append}
use Rattle.std.proofs.lemmas.List.{length-take-le}
use Rattle.bg_match.specs.declared.limits.Rules.{Rules}
use Rattle.bg_match.specs.declared.entries.Entry.{Entry}
use Rattle.bg_match.specs.Match.{IsLegalRecord}
use Rattle.bg_match.specs.Terms.{Terms, rules_of}
use Rattle.bg_wire.specs.declared.packets.Datagram.{Datagram}
use Rattle.bg_wire.specs.declared.packets.Packet.{Packet}
use Rattle.bg_wire.specs.declared.packets.Packet.TheVariants as packet
use Rattle.bg_party.specs.declared.outcomes.Learned.{Learned}
use Rattle.bg_party.specs.declared.outcomes.Learned.TheVariants as learned
use Rattle.bg_party.specs.Views.{FollowerView, SeatView, WatcherView}
use Rattle.bg_wire.proofs.Numbers.{get_taken}
use Rattle.bg_party.specs.Learns.{GrowsBy, coming, new_entries}
use Rattle.bg_party.specs.Takes.{Continues, FollowerTakes, Holds, IsAfter, IsAllTold, Kept, grown}
use Rattle.bg_party.proofs.Holding.{grown_so_far}
use Rattle.bg_party.proofs.Telling.{coming_told}
use Rattle.bg_protocol.specs.declared.events.Outcome.{Outcome}
use Rattle.bg_protocol.specs.Worlds.WorldState.{IsLogOf, KeepsWhatWasShown}
use Rattle.bg_protocol.specs.Protocol.Datagrams.{WasSent, WasShown}
use Rattle.bg_protocol.specs.Devices.LinkCalls.{FollowerHandles, FollowerTakeCalls}
use Rattle.bg_protocol.specs.Protocol.FollowerTakeStep.{FollowerTakeStep, HoldsWhatContinues, LearnStep}
use Rattle.bg_protocol.specs.Worlds.Calls.{SeatTakes, WatcherTakes}
use Rattle.bg_protocol.specs.Worlds.Views.{LinkView}
use Rattle.bg_protocol.specs.Devices.DeviceCalls.{Receives}
use Rattle.bg_protocol.proofs.Protocol.EarlyEntries.{told_shown}
use Rattle.bg_protocol.proofs.Steps.Hands.{IsEmptyHand, fault, memory, nothing, no_packet, empty_hand}

-- there is something in a list that isn't empty
some_length : (xs : List Entry) → xs ≢ [] → 0 < length xs
some_length [] h = absurd (h refl)
some_length (x ∷ xs) h = omega arith

-- a packet whose entries come grows the record by one at least
grows_by_some : (f : FollowerView) (start : ℕ) (list : List Entry) (k : ℕ) → GrowsBy f start list k → 0 < k
grows_by_some f start list k h =
    let new = new_entries f.log.entries start list in
    let more = grown_so_far f start list k h in
    let some = some_length new h.0.1 in
    omega (
      some,
      ap length more.1,
      length-append f.log.entries (take k (coming f start list)),
      length-take-le k (coming f start list) h.1.within,
      length-append (f.log.entries ++ new) more.0,
      length-append f.log.entries new,
      arith,
    )

module _ (id : ℕ) (terms : Terms) (sent : List Datagram) (party : ℕ) (old : FollowerView)
    (is : IsLogOf id terms old.log) (kept : KeepsWhatWasShown id terms sent party old) where
  -- what the core keeps is what the protocol asks for
  holds : (p : Packet) (entries : List Entry)
      → (Continues old.log.id old.log.terms old.log.entries p → Holds entries p)
      → HoldsWhatContinues id terms old.log.entries p entries
  holds p entries h c =
      h (subst (λ (i : ℕ). Continues i old.log.terms old.log.entries p) (sym is.0)
      (subst (λ (m : Terms). Continues id m old.log.entries p) (sym is.1) c))

  -- what is appended came in the packet, or before
  grew : (i : ℕ) (rules : Rules) (start : ℕ) (list : List Entry) (k : ℕ) (new : FollowerView)
      → (i ≡ old.log.id) × (rules ≡ rules_of old.log.terms)
      → WasSent sent party (packet.Entries i rules start list) → GrowsBy old start list k
      → new ≡ grown old (packet.Entries i rules start list) k new.log.spare
      → HoldsWhatContinues id terms old.log.entries (packet.Entries i rules start list) new.log.entries
      → LearnStep id terms sent party (packet.Entries i rules start list) (learned.Grew k) old.log.entries new.log.entries
  grew i rules start list k new of came grows after keeps =
      let had = old.log.entries in
      let comes = coming old start list in
      let more = take k comes in
      let entries : new.log.entries ≡ had ++ more = ap (λ (f : FollowerView). f.log.entries) after in
      let many : length more ≡ k = length-take-le k comes grows.1.within in (
        grows_by_some old start list k grows,
        (omega (ap length entries, length-append had more, many, arith)),
        (record {
          more = more;
          is = entries;
          legal = subst (λ (l : List Entry). IsLegalRecord terms l) (sym entries)
              (subst (λ (m : Terms). IsLegalRecord m (had ++ more)) is.1 grows.1.legal);
          shown = λ j e g.
              let number : length had + 1 + j ≡ suc (length had + j) = omega arith in
              subst (λ (n : ℕ). WasShown id terms sent party n e) number
              (told_shown id terms sent party old (packet.Entries i rules start list) (length had + 1 + j) e is.0 is.1 came kept
              (coming_told old i rules start list j e of grows.0.0.1 (get_taken k comes j e g)));
        }),
        keeps,
      )

  -- no other answer changes the record
  same : (new : FollowerView) → new ≡ old → new.log.entries ≡ old.log.entries
  same new e = ap (λ (f : FollowerView). f.log.entries) e

  same_kept : (p : Packet) (new : FollowerView) → Kept old p new → new.log.entries ≡ old.log.entries
  same_kept (packet.Entries i rules start list) new h = ap (λ (f : FollowerView). f.log.entries) h.1
  same_kept (packet.Want i rules sender held) new h = absurd h
  same_kept (packet.Claim i rules sender n a) new h = absurd h

  learns_row : (p : Packet) (l : Learned) (new : FollowerView) → WasSent sent party p → FollowerTakes old p l new
      → LearnStep id terms sent party p l old.log.entries new.log.entries
  learns_row (packet.Entries i rules start list) (learned.Grew k) new came t =
      let taught = t.learns in
      let after = t.after in
      grew i rules start list k new taught.0 came taught.1 after.0
      (holds (packet.Entries i rules start list) new.log.entries t.keeps)
  learns_row (packet.Want i rules sender held) (learned.Grew k) new came t = let no = t.learns.1 in absurd cc
  learns_row (packet.Claim i rules sender n a) (learned.Grew k) new came t = let no = t.learns.1 in absurd cc
  learns_row p learned.Memory new came t = same new t.after
  learns_row p learned.OtherMatch new came t = (holds p new.log.entries t.keeps, same new t.after)
  learns_row p learned.Nothing new came t = (holds p new.log.entries t.keeps, same new t.after)
  learns_row p learned.Gap new came t = (holds p new.log.entries t.keeps, same_kept p new t.after)
  learns_row p (learned.Conflict n) new came t = (holds p new.log.entries t.keeps, same new t.after)
  learns_row p (learned.Illegal n) new came t = (holds p new.log.entries t.keeps, same new t.after)

  -- the record is still of the match
  is_same : (new : FollowerView) → new ≡ old → IsLogOf id terms new.log
  is_same new e = subst (λ (f : FollowerView). IsLogOf id terms f.log) (sym e) is

  is_grown : (p : Packet) (k spare : ℕ) → IsLogOf id terms (grown old p k spare).log
  is_grown (packet.Entries i rules start list) k spare = is
  is_grown (packet.Want i rules sender held) k spare = is
  is_grown (packet.Claim i rules sender n a) k spare = is

  is_kept : (p : Packet) (new : FollowerView) → Kept old p new → IsLogOf id terms new.log
  is_kept (packet.Entries i rules start list) new h = subst (λ (f : FollowerView). IsLogOf id terms f.log) (sym h.1) is
  is_kept (packet.Want i rules sender held) new h = absurd h
  is_kept (packet.Claim i rules sender n a) new h = absurd h

  log_of_match : (p : Packet) (l : Learned) (new : FollowerView) → IsAfter old p l new → IsLogOf id terms new.log
  log_of_match p (learned.Grew k) new after =
      subst (λ (f : FollowerView). IsLogOf id terms f.log) (sym after.0) (is_grown p k new.log.spare)
  log_of_match p learned.Memory new after = is_same new after
  log_of_match p learned.OtherMatch new after = is_same new after
  log_of_match p learned.Nothing new after = is_same new after
  log_of_match p learned.Gap new after = is_kept p new after
  log_of_match p (learned.Conflict n) new after = is_same new after
  log_of_match p (learned.Illegal n) new after = is_same new after

  -- what it keeps then was shown to it
  still_shown : (p : Packet) (new : FollowerView) → WasSent sent party p → IsAllTold old p new
      → KeepsWhatWasShown id terms sent party new
  still_shown p new came t n e early = told_shown id terms sent party old p n e is.0 is.1 came kept (t.early n e early)

  -- nothing was in hand
  nothing_taken : (o : Outcome) → IsEmptyHand o
      → FollowerTakeStep id terms sent party o old.log.entries old.log.entries
  nothing_taken o (fault e) =
      subst (λ (x : Outcome). FollowerTakeStep id terms sent party x old.log.entries old.log.entries) (sym e) refl
  nothing_taken o (memory e) =
      subst (λ (x : Outcome). FollowerTakeStep id terms sent party x old.log.entries old.log.entries) (sym e) refl
  nothing_taken o (nothing e) =
      subst (λ (x : Outcome). FollowerTakeStep id terms sent party x old.log.entries old.log.entries) (sym e) refl
  nothing_taken o (no_packet why e) =
      subst (λ (x : Outcome). FollowerTakeStep id terms sent party x old.log.entries old.log.entries) (sym e) refl

-- ---- a core that follows: its record alone changes

-- what a take comes to: the record has taken a step of the protocol, and is of the match, and what
-- is kept beside it was shown
abbrev pub FollowerStep : ℕ → Terms → List Datagram → ℕ → Outcome → FollowerView → FollowerView → Type 0
FollowerStep id terms sent party o old new =
    FollowerTakeStep id terms sent party o old.log.entries new.log.entries × IsLogOf id terms new.log
    × KeepsWhatWasShown id terms sent party new

module _ {C : Type 0} (CoreTakes : C → Packet → Learned → C → Type 0) (follower : C → FollowerView)
    (with_follower : C → FollowerView → C)
    (follows : (s : C) (p : Packet) (l : Learned) (s' : C) → CoreTakes s p l s' → FollowerTakes (follower s) p l
    (follower s'))
    (alone : (s : C) (p : Packet) (l : Learned) (s' : C) → CoreTakes s p l s' → s' ≡ with_follower s (follower s'))
    (put_back : (s : C) → with_follower s (follower s) ≡ s) where
  core_takes : (id : ℕ) (terms : Terms) (honest : Type 0) → honest
      → (party pick : ℕ) (link n : LinkView) (s : C) (o : Outcome) (s' : C)
      → IsLogOf id terms (follower s).log → KeepsWhatWasShown id terms link.sent party (follower s)
      → FollowerTakeCalls CoreTakes honest party link s pick o n s'
      → FollowerStep id terms link.sent party o (follower s) (follower s') × (s' ≡ with_follower s (follower s'))
      × (n.sent ≡ link.sent)
  core_takes id terms honest is_honest party pick link n s o s' is kept h = at h.0 h.1 h.2
    where
      at : (hand : Result Packet Outcome) → Receives honest link party pick hand n
          → FollowerHandles CoreTakes s hand o s'
          → FollowerStep id terms link.sent party o (follower s) (follower s')
          × (s' ≡ with_follower s (follower s')) × (n.sent ≡ link.sent)
      at (Err x) receives k =
          let t = nothing_taken id terms link.sent party (follower s) is kept x
          (empty_hand n.taken x receives.is_hand) in
          let stays = sym k.1 in (
            subst (λ (y : Outcome). FollowerStep id terms link.sent party y (follower s) (follower s')) (sym k.0)
                (subst (λ (c : C). FollowerStep id terms link.sent party x (follower s) (follower c)) stays
                (t, is, kept)),
            subst (λ (c : C). c ≡ with_follower s (follower c)) stays (sym (put_back s)),
            receives.same is_honest,
          )
      at (Ok p) receives k =
          let t = follows s p k.0 s' k.1 in
          let came = receives.was_sent is_honest in (
            subst (λ (y : Outcome). FollowerStep id terms link.sent party y (follower s) (follower s')) (sym k.2) (
              (p, came, learns_row id terms link.sent party (follower s) is kept p k.0 (follower s') came t),
              log_of_match id terms link.sent party (follower s) is kept p k.0 (follower s') t.after,
              still_shown id terms link.sent party (follower s) is kept p (follower s') came t.told,
            ),
            alone s p k.0 s' k.1,
            receives.same is_honest,
          )

pub seat_takes : (id : ℕ) (terms : Terms) (honest : Type 0) → honest
    → (party pick : ℕ) (link n : LinkView) (s : SeatView) (o : Outcome) (s' : SeatView)
    → IsLogOf id terms s.follower.log → KeepsWhatWasShown id terms link.sent party s.follower
    → FollowerTakeCalls SeatTakes honest party link s pick o n s'
    → FollowerStep id terms link.sent party o s.follower s'.follower × (s' ≡ record s { follower = s'.follower })
    × (n.sent ≡ link.sent)
seat_takes =
    core_takes SeatTakes (λ s. s.follower) (λ s f. record s { follower = f }) (λ s p l s' h. h.takes)
    (λ s p l s' h. h.same) (λ s. refl)

pub watcher_takes : (id : ℕ) (terms : Terms) (honest : Type 0) → honest
    → (party pick : ℕ) (link n : LinkView) (s : WatcherView) (o : Outcome) (s' : WatcherView)
    → IsLogOf id terms s.follower.log → KeepsWhatWasShown id terms link.sent party s.follower
    → FollowerTakeCalls WatcherTakes honest party link s pick o n s'
    → FollowerStep id terms link.sent party o s.follower s'.follower × (s' ≡ record s { follower = s'.follower })
    × (n.sent ≡ link.sent)
watcher_takes =
    core_takes WatcherTakes (λ s. s.follower) (λ s f. record s { follower = f }) (λ s p l s' h. h.takes)
    (λ s p l s' h. h.same) (λ s. refl)
