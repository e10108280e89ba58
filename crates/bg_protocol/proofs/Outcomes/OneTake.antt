-- What a take comes to is told by the worlds before and after it.
use Rattle.std.specs.Prelude.{◌≡◌, ℕ, suc, ◌+◌, Bool, true, false, Option, Some, None, List, [], ◌∷◌, length}
use Rattle.std.specs.Prelude.{Result, Ok, Err, nat_lt, slice_get}
use Rattle.std.specs.Bool.{MatchBool}
use Rattle.std.proofs.Common.{refl, sym, ◌∙◌, ap, ap₂, subst, arith}
use Rattle.std.proofs.lemmas.Option.{same_Some}
use Rattle.arrayvec.specs.ArrayVec.{ArrayVec}
use Rattle.bg_match.specs.Terms.{rules_of}
use Rattle.bg_turns.specs.Dice.{dice_of}
use Rattle.bg_turns.specs.declared.throws.Dice.{Dice}
use Rattle.bg_match.specs.Answers.{Answers}
use Rattle.bg_match.specs.Match.{IsNext, IsRecordFault}
use Rattle.bg_match.specs.declared.actions.Action.{Action}
use Rattle.bg_match.specs.declared.entries.Entry.{Entry}
use Rattle.bg_match.specs.declared.phases.Actor.{Actor}
use Rattle.bg_match.proofs.Answering.{can_answer, one_answer}
use Rattle.bg_match.proofs.Legal.{one_actor}
use Rattle.bg_wire.specs.declared.packets.Packet.{Packet}
use Rattle.bg_wire.specs.declared.packets.Packet.TheVariants as packet
use Rattle.bg_wire.proofs.OfSaves.OneText.{one_packet}
use Rattle.bg_wire.proofs.OfPackets.PacketFaults.{one_wire_fault, packets_have_no_fault}
use Rattle.bg_referee.specs.Referee.{IsShown, RefereeView, with_sessions_of}
use Rattle.bg_referee.specs.Takes.{ComesOf, RefereeTakes, Replies, Reply, Says, Shows, Tries, reply_to}
use Rattle.bg_referee.specs.Ticks.{ArePushes}
use Rattle.bg_referee.specs.declared.outcomes.TakeOutcome.{TakeOutcome}
use Rattle.bg_referee.specs.declared.outcomes.TakeOutcome.TheVariants as takes
use Rattle.bg_protocol.specs.Devices.DeviceCalls.{IsHand, Posts, link_outcome}
use Rattle.bg_protocol.specs.Devices.LinkCalls.{AnswerCalls, ComesTo}
use Rattle.bg_protocol.specs.Worlds.Views.{LinkView}
use Rattle.bg_protocol.specs.declared.devices.DeviceFault.{DeviceFault}
use Rattle.bg_protocol.specs.declared.events.Outcome.{Outcome}
use Rattle.bg_protocol.specs.declared.events.Outcome.TheVariants as outcomes
use Rattle.bg_protocol.specs.declared.devices.plans.FailSend.{FailSend}
use Rattle.bg_protocol.proofs.Outcomes.OneOutcome.{not_grown, one_record_fault}
use Rattle.bg_protocol.proofs.Outcomes.OneSend.{posts_alike}

-- ---- the packet in hand

pub one_hand : (taken : Result (Option (ArrayVec ℕ)) DeviceFault) (a b : Result Packet Outcome) → IsHand taken a
    → IsHand taken b → a ≡ b
one_hand (Ok (Some bytes)) (Ok p) (Ok q) h k = ap Ok (one_packet p q bytes.items h k)
one_hand (Ok (Some bytes)) (Ok p) (Err (outcomes.NotAPacket fault)) h k = absurd (packets_have_no_fault p bytes.items fault h k)
one_hand (Ok (Some bytes)) (Ok p) (Err _) h k = absurd k
one_hand (Ok (Some bytes)) (Err (outcomes.NotAPacket fault)) (Ok q) h k = absurd (packets_have_no_fault q bytes.items fault k h)
one_hand (Ok (Some bytes)) (Err (outcomes.NotAPacket fault)) (Err (outcomes.NotAPacket other)) h k =
    ap (λ f. Err (outcomes.NotAPacket f)) (one_wire_fault bytes.items fault other h k)
one_hand (Ok (Some bytes)) (Err (outcomes.NotAPacket fault)) (Err _) h k = absurd k
one_hand (Ok (Some bytes)) (Err _) b h k = absurd h
one_hand (Ok None) (Ok p) b h k = absurd h
one_hand (Ok None) (Err o) (Ok q) h k = absurd k
one_hand (Ok None) (Err o) (Err other) h k = ap Err (h ∙ sym k)
one_hand (Err fault) (Ok p) b h k = absurd h
one_hand (Err fault) (Err o) (Ok q) h k = absurd k
one_hand (Err fault) (Err o) (Err other) h k = ap Err (h ∙ sym k)

-- ---- what is shown

pub list_same : (xs ys : List Entry) → length xs ≡ length ys
    → ((i : ℕ) (e f : Entry) → slice_get xs i ≡ Some e → slice_get ys i ≡ Some f → e ≡ f) → xs ≡ ys
list_same [] [] many each = refl
list_same [] (y ∷ ys) many each = absurd cc
list_same (x ∷ xs) [] many each = absurd cc
list_same (x ∷ xs) (y ∷ ys) many each =
    ap₂ (λ (e : Entry) (l : List Entry). e ∷ l) (each 0 x y refl refl)
    (list_same xs ys (omega (many, arith)) (λ i e f h k. each (suc i) e f h k))

shown_alike : (r : RefereeView) (start : ℕ) (xs ys : List Entry) → IsShown r start xs → IsShown r start ys → xs ≡ ys
shown_alike r start xs ys h k =
    list_same xs ys (h.many ∙ sym k.many)
    (λ i e f x y. same_Some e f (sym (h.run i e x) ∙ k.run i f y))

pub pushes_alike : (r : RefereeView) (some : List (ℕ × ℕ)) (xs ys : List (ℕ × Packet)) → ArePushes r some xs
    → ArePushes r some ys → xs ≡ ys
pushes_alike r [] [] [] h k = refl
pushes_alike r [] [] (y ∷ ys) h k = absurd k
pushes_alike r [] (x ∷ xs) ys h k = absurd h
pushes_alike r (one ∷ some) [] ys h k = absurd h
pushes_alike r (one ∷ some) (x ∷ xs) [] h k = absurd k
pushes_alike r (one ∷ some) (x ∷ xs) (y ∷ ys) h k =
    let list = shown_alike r (one.1 + 1) h.0.1.0 k.0.1.0 h.0.1.1 k.0.1.1 in
    let told = h.0.1.2 ∙ ap (packet.Entries r.log.id (rules_of r.log.terms) (one.1 + 1)) list ∙ sym k.0.1.2 in
    ap₂ (λ (p : ℕ × Packet) (l : List (ℕ × Packet)). p ∷ l)
    (ap₂ (λ (to : ℕ) (p : Packet). (to, p)) (h.0.0 ∙ sym k.0.0) told) (pushes_alike r some xs ys h.1 k.1)

-- ---- what the referee makes of a packet

module _ (old new : RefereeView) (a : Action) (dice : Option Dice) where
  follows_not : (e f : Entry) → Answers a dice e → Answers a dice f → (IsNext old.log.terms old.log.entries e → ⊥)
      → IsNext old.log.terms old.log.entries f → ⊥
  follows_not e f h k bad next =
      bad (subst (λ (x : Entry). IsNext old.log.terms old.log.entries x) (one_answer a dice f e k h) next)

  comes_alike : (x y : TakeOutcome) → ComesOf old a dice x new → ComesOf old a dice y new → x ≡ y
  comes_alike takes.WordRefused takes.WordRefused h k = refl
  comes_alike takes.WordRefused (takes.Illegal why) h k = absurd (h.0 (can_answer a dice k.0.0 k.0.1))
  comes_alike takes.WordRefused takes.Memory h k = absurd (h.0 (can_answer a dice k.0.0 k.0.1))
  comes_alike takes.WordRefused (takes.Accepted n) h k = absurd (h.0 (can_answer a dice k.1.0 k.1.1))
  comes_alike takes.WordRefused _ h k = absurd k
  comes_alike (takes.Illegal why) takes.WordRefused h k = absurd (k.0 (can_answer a dice h.0.0 h.0.1))
  comes_alike (takes.Illegal why) (takes.Illegal other) h k =
      let same : k.0.0 ≡ h.0.0 = one_answer a dice k.0.0 h.0.0 k.0.1 h.0.1 in
      ap takes.Illegal (one_record_fault old.log h.0.0 h.0.2 why other h.0.3
      (subst (λ (e : Entry). IsRecordFault other old.log e) same k.0.3))
  comes_alike (takes.Illegal why) takes.Memory h k = absurd (follows_not h.0.0 k.0.0 h.0.1 k.0.1 h.0.2 k.0.2.1)
  comes_alike (takes.Illegal why) (takes.Accepted n) h k = absurd (follows_not h.0.0 k.1.0 h.0.1 k.1.1 h.0.2 k.1.2)
  comes_alike (takes.Illegal why) _ h k = absurd k
  comes_alike takes.Memory takes.WordRefused h k = absurd (k.0 (can_answer a dice h.0.0 h.0.1))
  comes_alike takes.Memory (takes.Illegal why) h k = absurd (follows_not k.0.0 h.0.0 k.0.1 h.0.1 k.0.2 h.0.2.1)
  comes_alike takes.Memory takes.Memory h k = refl
  comes_alike takes.Memory (takes.Accepted n) h k = absurd (not_grown old new k.1.0 k.1.3 h.1)
  comes_alike takes.Memory _ h k = absurd k
  comes_alike (takes.Accepted m) takes.WordRefused h k = absurd (k.0 (can_answer a dice h.1.0 h.1.1))
  comes_alike (takes.Accepted m) (takes.Illegal why) h k = absurd (follows_not k.0.0 h.1.0 k.0.1 h.1.1 k.0.2 h.1.2)
  comes_alike (takes.Accepted m) takes.Memory h k = absurd (not_grown old new h.1.0 h.1.3 k.1)
  comes_alike (takes.Accepted m) (takes.Accepted n) h k = ap takes.Accepted (h.0 ∙ sym k.0)
  comes_alike (takes.Accepted m) _ h k = absurd k
  comes_alike _ y h k = absurd h

replies_alike : (old new : RefereeView) (word : ℕ) (reply : Reply) (x y : TakeOutcome) → Replies old word reply x new
    → Replies old word reply y new → x ≡ y
replies_alike old new word (Says what) x y h k = h.0 ∙ sym k.0
replies_alike old new word (Shows party start) x y h k =
    let list = shown_alike old start h.0.0 k.0.0 h.0.1 k.0.1 in
    h.0.2 ∙ ap (λ (l : List Entry). takes.Answer party (packet.Entries old.log.id (rules_of old.log.terms) start l)) list ∙ sym k.0.2
replies_alike old new word (Tries a) x y h k = comes_alike old new a (dice_of word) x y h k

pub one_reply : (old new : RefereeView) (p : Packet) (word : ℕ) (x y : TakeOutcome) → RefereeTakes old p word x new
    → RefereeTakes old p word y new → x ≡ y
one_reply old new p word x y h k =
    let same : k.takes.0 ≡ h.takes.0 =
    one_actor old.log.terms old.log.entries k.takes.0 h.takes.0 k.takes.1 h.takes.1 in
    replies_alike old (with_sessions_of old new) word (reply_to old h.takes.0 p) x y h.takes.2
    (subst (λ (a : Actor). Replies old word (reply_to old a p) y (with_sessions_of old new)) same k.takes.2)

comes_to_alike : (due : Outcome) (x y : Result (Unit {0}) DeviceFault) (a b : Outcome) → x ≡ y → ComesTo due x a
    → ComesTo due y b → a ≡ b
comes_to_alike due (Ok u) (Ok v) a b same h k = h ∙ sym k
comes_to_alike due (Ok u) (Err g) a b same h k = absurd cc
comes_to_alike due (Err f) (Ok v) a b same h k = absurd cc
comes_to_alike due (Err f) (Err g) a b same h k = let fault : f ≡ g = cc in h ∙ ap link_outcome fault ∙ sym k

pub answers_sent : (honest : Type 0) (plan : List FailSend) (many : ℕ) (old : LinkView) (took : TakeOutcome)
    (a b : Outcome) (new : LinkView) → old.plan ≡ Some plan → AnswerCalls honest many old took a new
    → AnswerCalls honest many old took b new → a ≡ b
answers_sent honest plan many old (takes.Answer to p) a b new known h k = at (nat_lt to many) h k
  where
    at : (t : Bool) → MatchBool t ((x : Result (Unit {0}) DeviceFault) × Posts honest old to p x new
        × ComesTo (outcomes.Took (takes.Answer to p)) x a)
        ((a ≡ outcomes.Took (takes.Answer to p)) × (new ≡ old))
        → MatchBool t ((x : Result (Unit {0}) DeviceFault) × Posts honest old to p x new
        × ComesTo (outcomes.Took (takes.Answer to p)) x b)
        ((b ≡ outcomes.Took (takes.Answer to p)) × (new ≡ old)) → a ≡ b
    at true x y =
        comes_to_alike (outcomes.Took (takes.Answer to p)) x.0 y.0 a b
        (posts_alike honest plan old new to p x.0 y.0 known x.1 y.1) x.2 y.2
    at false x y = x.0 ∙ sym y.0
answers_sent honest plan many old takes.OtherMatch a b new known h k = h.0 ∙ sym k.0
answers_sent honest plan many old takes.Nothing a b new known h k = h.0 ∙ sym k.0
answers_sent honest plan many old takes.Ahead a b new known h k = h.0 ∙ sym k.0
answers_sent honest plan many old takes.NotYourTurn a b new known h k = h.0 ∙ sym k.0
answers_sent honest plan many old takes.WordRefused a b new known h k = h.0 ∙ sym k.0
answers_sent honest plan many old (takes.Illegal why) a b new known h k = h.0 ∙ sym k.0
answers_sent honest plan many old takes.Memory a b new known h k = h.0 ∙ sym k.0
answers_sent honest plan many old (takes.Accepted n) a b new known h k = h.0 ∙ sym k.0
