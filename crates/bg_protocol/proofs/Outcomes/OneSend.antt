-- What a link with a known plan was sent, and how often it was asked and failed, tell what its
-- sends answered.
use Rattle.std.specs.Prelude.{◌≡◌, ℕ, ◌+◌, ◌≤◌, Bool, true, false, Option, Some, None, IfSome, List, [], ◌∷◌, ◌++◌, length}
use Rattle.std.specs.Prelude.{Result, Ok, Err, MatchResult, nat_lt}
use Rattle.std.specs.Bool.{MatchBool}
use Rattle.std.proofs.Common.{refl, sym, ◌∙◌, ap, ap₂, subst, arith, length-append}
use Rattle.arrayvec.specs.ArrayVec.{ArrayVec}
use Rattle.bg_wire.specs.declared.packets.Datagram.{Datagram}
use Rattle.bg_wire.specs.declared.packets.Packet.{Packet}
use Rattle.bg_protocol.specs.Devices.DeviceCalls.{Posts, datagram_of, link_outcome}
use Rattle.bg_protocol.specs.Devices.Honesty.{CountsFailed}
use Rattle.bg_protocol.specs.Devices.LinkCalls.{SendCalls}
use Rattle.bg_protocol.specs.Devices.Plan.{SendsBy, failure_at}
use Rattle.bg_protocol.specs.Worlds.Views.{LinkView}
use Rattle.bg_protocol.specs.declared.devices.DeviceFault.{DeviceFault}
use Rattle.bg_protocol.specs.declared.devices.DeviceFault.TheVariants.{Failed, Memory}
use Rattle.bg_protocol.specs.declared.events.Outcome.{Outcome}
use Rattle.bg_protocol.specs.declared.devices.plans.FailSend.{FailSend}

longer : (before : List Datagram) (d : Datagram) → before ++ d ∷ [] ≡ before → ⊥
longer before d same =
    let grown : length (before ++ d ∷ []) ≡ length before = ap length same in
    omega (grown, length-append before (d ∷ []), arith)

-- ---- one send

answers_alike : (f : Option FailSend) (before : List Datagram) (d : Datagram) (after : List Datagram) (m n : ℕ)
    (x y : Result (Unit {0}) DeviceFault) → SendsBy f before d after x → CountsFailed m n x
    → SendsBy f before d after y → CountsFailed m n y → x ≡ y
answers_alike f before d after m n (Ok u) (Ok v) h hc k kc = refl
answers_alike f before d after m n (Ok u) (Err Failed) h hc k kc = absurd (omega (hc, kc, arith))
answers_alike None before d after m n (Ok u) (Err Memory) h hc k kc = absurd (longer before d (sym h ∙ k))
answers_alike (Some f) before d after m n (Ok u) (Err Memory) h hc k kc = absurd h
answers_alike f before d after m n (Err Failed) (Ok v) h hc k kc = absurd (omega (hc, kc, arith))
answers_alike f before d after m n (Err Failed) (Err Failed) h hc k kc = refl
answers_alike f before d after m n (Err Failed) (Err Memory) h hc k kc = absurd (omega (hc, kc, arith))
answers_alike None before d after m n (Err Memory) (Ok v) h hc k kc = absurd (longer before d (sym k ∙ h))
answers_alike (Some f) before d after m n (Err Memory) (Ok v) h hc k kc = absurd k
answers_alike f before d after m n (Err Memory) (Err Failed) h hc k kc = absurd (omega (hc, kc, arith))
answers_alike f before d after m n (Err Memory) (Err Memory) h hc k kc = refl

sent_alike : (f : Option FailSend) (before : List Datagram) (d : Datagram) (a b : List Datagram)
    (x : Result (Unit {0}) DeviceFault) → SendsBy f before d a x → SendsBy f before d b x → a ≡ b
sent_alike None before d a b (Ok u) h k = h ∙ sym k
sent_alike None before d a b (Err Failed) h k = absurd h
sent_alike None before d a b (Err Memory) h k = h ∙ sym k
sent_alike (Some f) before d a b (Ok u) h k = absurd h
sent_alike (Some f) before d a b (Err Failed) h k = h ∙ sym k
sent_alike (Some f) before d a b (Err Memory) h k = h.1 ∙ sym k.1

counts_alike : (m a b : ℕ) (x : Result (Unit {0}) DeviceFault) → CountsFailed m a x → CountsFailed m b x → a ≡ b
counts_alike m a b (Ok u) h k = h ∙ sym k
counts_alike m a b (Err Failed) h k = h ∙ sym k
counts_alike m a b (Err Memory) h k = h ∙ sym k

pub link_same : (a b : LinkView) → a.plan ≡ b.plan → a.sent ≡ b.sent → a.faults ≡ b.faults → a.takes ≡ b.takes
    → a.sends ≡ b.sends → a.taken ≡ b.taken → a ≡ b
link_same a b plan sent faults takes sends taken =
    ap₂ (λ (p : Option (List FailSend)) (s : List Datagram). record a { plan = p; sent = s }) plan sent
    ∙ ap₂ (λ (f t : ℕ). record a { plan = b.plan; sent = b.sent; faults = f; takes = t }) faults takes
    ∙ ap₂ (λ (s : ℕ) (t : Result (Option (ArrayVec ℕ)) DeviceFault). record b { sends = s; taken = t }) sends taken

module _ (honest : Type 0) (plan : List FailSend) where
  pub posts_alike : (old new : LinkView) (to : ℕ) (p : Packet) (x y : Result (Unit {0}) DeviceFault)
      → old.plan ≡ Some plan → Posts honest old to p x new → Posts honest old to p y new → x ≡ y
  posts_alike old new to p x y known h k =
      let by : Result (Unit {0}) DeviceFault → Option (List FailSend) → Type 0 =
      λ r q. IfSome q (λ failing. SendsBy (failure_at failing new.sends) old.sent (datagram_of to p) new.sent r) in
      let counts : Result (Unit {0}) DeviceFault → Option (List FailSend) → Type 0 =
      λ r q. IfSome q (λ _. CountsFailed old.faults new.faults r) in
      answers_alike (failure_at plan new.sends) old.sent (datagram_of to p) new.sent old.faults new.faults x y
      (subst (by x) known h.planned) (subst (counts x) known h.counted)
      (subst (by y) known k.planned) (subst (counts y) known k.counted)

  mids_alike : (old m n : LinkView) (to : ℕ) (p : Packet) (x : Result (Unit {0}) DeviceFault)
      → old.plan ≡ Some plan → Posts honest old to p x m → Posts honest old to p x n → m ≡ n
  mids_alike old m n to p x known h k =
      let by : LinkView → Option (List FailSend) → Type 0 =
      λ v q. IfSome q (λ failing. SendsBy (failure_at failing v.sends) old.sent (datagram_of to p) v.sent x) in
      let counts : LinkView → Option (List FailSend) → Type 0 =
      λ v q. IfSome q (λ _. CountsFailed old.faults v.faults x) in
      let often : m.sends ≡ n.sends = h.sends ∙ sym k.sends in
      link_same m n (h.plan ∙ sym k.plan)
      (sent_alike (failure_at plan n.sends) old.sent (datagram_of to p) m.sent n.sent x
      (subst (λ (i : ℕ). SendsBy (failure_at plan i) old.sent (datagram_of to p) m.sent x) often
      (subst (by m) known h.planned)) (subst (by n) known k.planned))
      (counts_alike old.faults m.faults n.faults x (subst (counts m) known h.counted) (subst (counts n) known k.counted))
      (h.takes ∙ sym k.takes) often (h.taken ∙ sym k.taken)

  -- ---- many sends

  abbrev GoesOn : ℕ → ℕ → LinkView → List (ℕ × Packet) → Result (Unit {0}) DeviceFault → Outcome → LinkView → Type 0
  GoesOn many before mid packets answer result new =
      MatchResult answer (λ _. SendCalls honest many (before + 1) mid packets result new)
      (λ fault. (result ≡ link_outcome fault) × (new ≡ mid))

  abbrev Posted : ℕ → ℕ → LinkView → ℕ × Packet → List (ℕ × Packet) → Outcome → LinkView → Type 0
  Posted many before old packet packets result new =
      (answer : Result (Unit {0}) DeviceFault) × (mid : LinkView) × Posts honest old packet.0 packet.1 answer mid
      × GoesOn many before mid packets answer result new

  -- nothing is unsent, and where nothing more was sent the link is as it was
  sends_more : (many before : ℕ) (old : LinkView) (packets : List (ℕ × Packet)) (result : Outcome) (new : LinkView)
      → SendCalls honest many before old packets result new
      → (old.sends ≤ new.sends) × (new.sends ≡ old.sends → new ≡ old)
  sends_more many before old [] result new h =
      let same = ap (λ (v : LinkView). v.sends) h.1 in (omega (same, arith), λ _. h.1)
  sends_more many before old (packet ∷ packets) result new h =
      at (λ n mid k. sends_more many n mid packets result new k) (nat_lt packet.0 many) h
    where
      on : ((n : ℕ) (mid : LinkView) → SendCalls honest many n mid packets result new
          → (mid.sends ≤ new.sends) × (new.sends ≡ mid.sends → new ≡ mid))
          → (answer : Result (Unit {0}) DeviceFault) (mid : LinkView) → GoesOn many before mid packets answer result new
          → mid.sends ≤ new.sends
      on again (Ok u) mid k = (again (before + 1) mid k).0
      on again (Err fault) mid k = let same = ap (λ (v : LinkView). v.sends) k.1 in omega (same, arith)

      at : ((n : ℕ) (mid : LinkView) → SendCalls honest many n mid packets result new
          → (mid.sends ≤ new.sends) × (new.sends ≡ mid.sends → new ≡ mid))
          → (b : Bool) → MatchBool b (Posted many before old packet packets result new)
          (SendCalls honest many before old packets result new)
          → (old.sends ≤ new.sends) × (new.sends ≡ old.sends → new ≡ old)
      at again true k =
          let more = on again k.0 k.1 k.3 in
          let once = k.2.sends in
          (omega (more, once, arith), λ same. absurd (omega (more, once, same, arith)))
      at again false k = again before old k

  pub sends_alike : (many before : ℕ) (old : LinkView) (packets : List (ℕ × Packet)) (a b : Outcome) (new : LinkView)
      → old.plan ≡ Some plan → SendCalls honest many before old packets a new
      → SendCalls honest many before old packets b new → a ≡ b
  sends_alike many before old [] a b new known h k = h.0 ∙ sym k.0
  sends_alike many before old (packet ∷ packets) a b new known h k =
      at (λ n mid is x y. sends_alike many n mid packets a b new is x y) (nat_lt packet.0 many) h k
    where
      -- one run goes on, and the other does not
      apart : (u : Unit {0}) (fault : DeviceFault) (m n : LinkView) (r : Outcome)
          → Posts honest old packet.0 packet.1 (Ok u) m → Posts honest old packet.0 packet.1 (Err fault) n
          → SendCalls honest many (before + 1) m packets r new → new ≡ n → ⊥
      apart u fault m n r ok err more is =
          let last = sends_more many (before + 1) m packets r new more in
          let often = ap (λ (v : LinkView). v.sends) is in
          let same : new ≡ m = last.1 (often ∙ err.sends ∙ sym ok.sends) in
          let answers : Ok u ≡ Err fault = posts_alike old new packet.0 packet.1 (Ok u) (Err fault) known
          (subst (Posts honest old packet.0 packet.1 (Ok u)) (sym same) ok)
          (subst (Posts honest old packet.0 packet.1 (Err fault)) (sym is) err) in
          absurd cc

      each : ((n : ℕ) (mid : LinkView) → mid.plan ≡ Some plan → SendCalls honest many n mid packets a new
          → SendCalls honest many n mid packets b new → a ≡ b)
          → (x y : Result (Unit {0}) DeviceFault) (m n : LinkView) → Posts honest old packet.0 packet.1 x m
          → Posts honest old packet.0 packet.1 y n → GoesOn many before m packets x a new
          → GoesOn many before n packets y b new → a ≡ b
      each again (Ok u) (Ok v) m n p q x y =
          again (before + 1) m (p.plan ∙ known) x
          (subst (λ (w : LinkView). SendCalls honest many (before + 1) w packets b new)
          (sym (mids_alike old m n packet.0 packet.1 (Ok u) known p q)) y)
      each again (Ok u) (Err fault) m n p q x y = absurd (apart u fault m n a p q x y.1)
      each again (Err fault) (Ok v) m n p q x y = absurd (apart v fault n m b q p y x.1)
      each again (Err f) (Err g) m n p q x y =
          let answers : Err f ≡ Err g = posts_alike old new packet.0 packet.1 (Err f) (Err g) known
          (subst (Posts honest old packet.0 packet.1 (Err f)) (sym x.1) p)
          (subst (Posts honest old packet.0 packet.1 (Err g)) (sym y.1) q) in
          let same : f ≡ g = cc in
          x.0 ∙ ap link_outcome same ∙ sym y.0

      at : ((n : ℕ) (mid : LinkView) → mid.plan ≡ Some plan → SendCalls honest many n mid packets a new
          → SendCalls honest many n mid packets b new → a ≡ b)
          → (t : Bool) → MatchBool t (Posted many before old packet packets a new)
          (SendCalls honest many before old packets a new)
          → MatchBool t (Posted many before old packet packets b new)
          (SendCalls honest many before old packets b new) → a ≡ b
      at again true x y = each again x.0 y.0 x.1 y.1 x.2 y.2 x.3 y.3
      at again false x y = again before old known x y
