-- What a restart comes to is told by the worlds before and after it, want of memory aside.
use Rattle.std.specs.Prelude.{◌≡◌, ◌≢◌, ℕ, ◌+◌, Option, Some, None, IfSome, List, Result, Ok, Err, MatchResult}
use Rattle.std.specs.Global.{Vec}
use Rattle.std.proofs.Common.{refl, sym, ◌∙◌, ap, subst, arith}
use Rattle.bg_match.specs.Terms.{Terms}
use Rattle.bg_wire.specs.Saved.Restoring.{Restores, SlotsRestore}
use Rattle.bg_wire.specs.Saved.SavedText.{SavedParts}
use Rattle.bg_wire.specs.Saved.SlotLaws.{Slots}
use Rattle.bg_wire.specs.declared.faults.RestoreRefusal.{RestoreRefusal}
use Rattle.bg_wire.specs.declared.faults.RestoreRefusal.TheVariants as refusals
use Rattle.bg_wire.specs.declared.saves.Saved.{Saved}
use Rattle.bg_wire.specs.declared.saves.slots.Slot.{Slot}
use Rattle.bg_wire.specs.declared.saves.slots.Slot.TheVariants.{Zero, One}
use Rattle.bg_wire.proofs.OfSaves.OneText.{restores_once}
use Rattle.bg_protocol.specs.Devices.DeviceCalls.{ReadsOnce, read_outcome}
use Rattle.bg_protocol.specs.Devices.Honesty.{CountsFailed}
use Rattle.bg_protocol.specs.Devices.KeeperCalls.{ComesUp, ReadsSecond, RestartCallsAt, restored_of}
use Rattle.bg_protocol.specs.Devices.Plan.{KeeperPlan}
use Rattle.bg_protocol.specs.Worlds.Views.{KeeperView}
use Rattle.bg_protocol.specs.declared.devices.DeviceFault.{DeviceFault}
use Rattle.bg_protocol.specs.declared.devices.DeviceFault.TheVariants as faults
use Rattle.bg_protocol.specs.declared.events.Outcome.{Outcome}
use Rattle.bg_protocol.specs.declared.events.Outcome.TheVariants as outcomes
use Rattle.bg_protocol.specs.declared.events.RestoreCause.TheVariants as causes

-- how a restart of a party may end, by what its slots have and how often its keeper failed
data Ends (bytes0 bytes1 : List ℕ) (before after : ℕ) {C : Type 0} (core : Option C) (result : Outcome) : Type 0 where
  is_up : (c : C) → core ≡ Some c → result ≡ outcomes.Restarted → Ends bytes0 bytes1 before after core result
  failed : core ≡ None → after ≡ before + 1 → result ≡ outcomes.RestoreFault causes.Device
      → Ends bytes0 bytes1 before after core result
  damaged : core ≡ None → after ≡ before → SlotsRestore bytes0 bytes1 None
      → result ≡ outcomes.RestoreFault causes.Damaged → Ends bytes0 bytes1 before after core result
  wrong : core ≡ None → after ≡ before → (p : SavedParts) → SlotsRestore bytes0 bytes1 (Some p)
      → result ≡ outcomes.RestoreFault causes.WrongMatch → Ends bytes0 bytes1 before after core result
  wants : result ≡ outcomes.Memory → Ends bytes0 bytes1 before after core result

module _ {C : Type 0} (bytes0 bytes1 : List ℕ) (before after : ℕ) (core : Option C) where
  up_or_down : (c : C) → core ≡ Some c → core ≡ None → ⊥
  up_or_down c up down = let bad = sym up ∙ down in absurd cc

  once_more : after ≡ before + 1 → after ≡ before → ⊥
  once_more more same = omega (more, same, arith)

  two_things : (p : SavedParts) → SlotsRestore bytes0 bytes1 None → SlotsRestore bytes0 bytes1 (Some p) → ⊥
  two_things p none some =
      let bad : None ≡ Some p = restores_once bytes0 bytes1 None (Some p) none some in absurd cc

  ends_alike : (a b : Outcome) → Ends bytes0 bytes1 before after core a → Ends bytes0 bytes1 before after core b
      → a ≢ outcomes.Memory → b ≢ outcomes.Memory → a ≡ b
  ends_alike a b (wants h) y x z = absurd (x h)
  ends_alike a b y (wants h) x z = absurd (z h)
  ends_alike a b (is_up c up h) (is_up d also k) x z = h ∙ sym k
  ends_alike a b (is_up c up h) (failed down more k) x z = absurd (up_or_down c up down)
  ends_alike a b (is_up c up h) (damaged down same none k) x z = absurd (up_or_down c up down)
  ends_alike a b (is_up c up h) (wrong down same p some k) x z = absurd (up_or_down c up down)
  ends_alike a b (failed down more h) (is_up c up k) x z = absurd (up_or_down c up down)
  ends_alike a b (failed down more h) (failed also m k) x z = h ∙ sym k
  ends_alike a b (failed down more h) (damaged also same none k) x z = absurd (once_more more same)
  ends_alike a b (failed down more h) (wrong also same p some k) x z = absurd (once_more more same)
  ends_alike a b (damaged down same none h) (is_up c up k) x z = absurd (up_or_down c up down)
  ends_alike a b (damaged down same none h) (failed also more k) x z = absurd (once_more more same)
  ends_alike a b (damaged down same none h) (damaged also s n k) x z = h ∙ sym k
  ends_alike a b (damaged down same none h) (wrong also s p some k) x z = absurd (two_things p none some)
  ends_alike a b (wrong down same p some h) (is_up c up k) x z = absurd (up_or_down c up down)
  ends_alike a b (wrong down same p some h) (failed also more k) x z = absurd (once_more more same)
  ends_alike a b (wrong down same p some h) (damaged also s none k) x z = absurd (two_things p none some)
  ends_alike a b (wrong down same p some h) (wrong also s q t k) x z = h ∙ sym k

module _ {C : Type 0} (resumed : Saved → C) (fresh : C) (honest : Type 0) (is_honest : honest) (party id : ℕ)
    (terms : Terms) (plan : KeeperPlan) (old : KeeperView) (known : old.plan ≡ Some plan) where
  counts : (v w : KeeperView) (slot : Slot) (answer : Result (Vec ℕ) DeviceFault) → v.plan ≡ Some plan
      → ReadsOnce honest v slot answer w → CountsFailed v.faults w.faults answer
  counts v w slot answer is h =
      let by : Option KeeperPlan → Type 0 = λ q. IfSome q (λ _. CountsFailed v.faults w.faults answer) in
      subst by is h.counted

  -- a read that failed
  read_fails : (fault : DeviceFault) (m n : ℕ) (core : Option C) (result : Outcome) (new : KeeperView)
      → CountsFailed {T = Vec ℕ} m n (Err fault) → n ≡ new.faults → m ≡ old.faults
      → ComesUp resumed fresh (Err (read_outcome fault)) result core
      → Ends old.slots.zero old.slots.one old.faults new.faults core result
  read_fails faults.Failed m n core result new c e f up =
      failed up.1 (sym e ∙ c ∙ ap (λ (i : ℕ). i + 1) f) up.0
  read_fails faults.Memory m n core result new c e f up = wants up.0

  restored_ends : (zero one : List ℕ) (found : Result (Option Saved) RestoreRefusal) (core : Option C)
      (result : Outcome) (new : KeeperView) → zero ≡ old.slots.zero → one ≡ old.slots.one → new.faults ≡ old.faults
      → Restores zero one party id terms found → ComesUp resumed fresh (restored_of found) result core
      → Ends old.slots.zero old.slots.one old.faults new.faults core result
  restored_ends zero one (Ok (Some saved)) core result new z o same r up = is_up (resumed saved) up.1 up.0
  restored_ends zero one (Ok None) core result new z o same r up = is_up fresh up.1 up.0
  restored_ends zero one (Err refusals.Damaged) core result new z o same r up =
      damaged up.1 same (subst (λ (b : List ℕ). SlotsRestore old.slots.zero b None) o
      (subst (λ (b : List ℕ). SlotsRestore b one None) z r.0)) up.0
  restored_ends zero one (Err refusals.WrongMatch) core result new z o same r up =
      wrong up.1 same r.0 (subst (λ (b : List ℕ). SlotsRestore old.slots.zero b (Some r.0)) o
      (subst (λ (b : List ℕ). SlotsRestore b one (Some r.0)) z r.1)) up.0
  restored_ends zero one (Err refusals.Memory) core result new z o same r up = wants up.0

  second_ends : (mid new : KeeperView) (zero : List ℕ) (restored : Result (Option Saved) Outcome) (core : Option C)
      (result : Outcome) → mid.plan ≡ old.plan → mid.slots ≡ old.slots → mid.faults ≡ old.faults
      → zero ≡ old.slots.zero → ReadsSecond honest party id terms mid zero restored new
      → ComesUp resumed fresh restored result core
      → Ends old.slots.zero old.slots.one old.faults new.faults core result
  second_ends mid new zero restored core result plans slots faulted is h up = at h.0 h.1 h.2
    where
      at : (answer : Result (Vec ℕ) DeviceFault) → ReadsOnce honest mid One answer new
          → MatchResult answer
          (λ one. (found : Result (Option Saved) RestoreRefusal) × Restores zero one.items party id terms found
          × (restored ≡ restored_of found))
          (λ fault. restored ≡ Err (read_outcome fault))
          → Ends old.slots.zero old.slots.one old.faults new.faults core result
      at (Ok one) read k =
          let bytes : one.items ≡ old.slots.one = read.bytes is_honest ∙ ap (λ (s : Slots). s.one) slots in
          restored_ends zero one.items k.0 core result new is bytes
          (counts mid new One (Ok one) (plans ∙ known) read ∙ faulted) k.1
          (subst (λ (r : Result (Option Saved) Outcome). ComesUp resumed fresh r result core) k.2 up)
      at (Err fault) read k =
          read_fails fault mid.faults new.faults core result new
          (counts mid new One (Err fault) (plans ∙ known) read) refl faulted
          (subst (λ (r : Result (Option Saved) Outcome). ComesUp resumed fresh r result core) k up)

  restart_ends : (new : KeeperView) (core : Option C) (result : Outcome)
      → RestartCallsAt resumed fresh honest party id terms old result new core
      → Ends old.slots.zero old.slots.one old.faults new.faults core result
  restart_ends new core result h = at h.1.0 h.1.2 h.1.3
    where
      at : (answer : Result (Vec ℕ) DeviceFault) → ReadsOnce honest old Zero answer h.1.1
          → MatchResult answer (λ zero. ReadsSecond honest party id terms h.1.1 zero.items h.0 new)
          (λ fault. (h.0 ≡ Err (read_outcome fault)) × (new ≡ h.1.1))
          → Ends old.slots.zero old.slots.one old.faults new.faults core result
      at (Ok zero) read k =
          second_ends h.1.1 new zero.items h.0 core result read.plan (read.same is_honest)
          (counts old h.1.1 Zero (Ok zero) known read) (read.bytes is_honest) k h.2
      at (Err fault) read k =
          read_fails fault old.faults (h.1.1).faults core result new
          (counts old h.1.1 Zero (Err fault) known read) (ap (λ (v : KeeperView). v.faults) (sym k.1)) refl
          (subst (λ (r : Result (Option Saved) Outcome). ComesUp resumed fresh r result core) k.0 h.2)

  pub one_restart : (new : KeeperView) (core : Option C) (a b : Outcome)
      → RestartCallsAt resumed fresh honest party id terms old a new core
      → RestartCallsAt resumed fresh honest party id terms old b new core → a ≢ outcomes.Memory → b ≢ outcomes.Memory
      → a ≡ b
  one_restart new core a b h k x y =
      ends_alike old.slots.zero old.slots.one old.faults new.faults core a b (restart_ends new core a h)
      (restart_ends new core b k) x y
