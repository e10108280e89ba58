-- What a restart finds that reads the two slots at two moments: what they restored at some moment.
use Rattle.std.specs.Prelude.{◌≡◌, ◌⊎◌, ℕ, ⊤, Option, Some, None, List, [], ◌∷◌, ◌++◌, Result, Ok, Err, IfOk, MatchResult, Contains}
use Rattle.std.specs.Global.{Vec}
use Rattle.std.proofs.Common.{sym, ◌∙◌, ap, subst, inl, inr}
use Rattle.std.proofs.lemmas.List.{append-nil}
use Rattle.bg_match.specs.Terms.{Terms}
use Rattle.bg_wire.specs.Saved.Restoring.{IsSavedBy, Restores, SlotsRestore}
use Rattle.bg_wire.specs.Saved.SavedText.{IsSavedText, IsWrittenText, SavedParts, parts_of}
use Rattle.bg_wire.specs.Saved.Saves.{slot_of}
use Rattle.bg_wire.specs.Saved.SlotLaws.{Slots, bytes_in, with_slot}
use Rattle.bg_wire.specs.declared.faults.RestoreRefusal.{RestoreRefusal}
use Rattle.bg_wire.specs.declared.saves.Saved.{Saved}
use Rattle.bg_wire.specs.declared.saves.slots.Slot.{Slot}
use Rattle.bg_wire.specs.declared.saves.slots.Slot.TheVariants.{Zero, One}
use Rattle.bg_wire.proofs.OfSaves.OneText.{front_loads, one_of_both, one_saved}
use Rattle.bg_wire.proofs.OfSaves.SavedLaws.{written_is_saved}
use Rattle.bg_protocol.specs.Devices.DeviceCalls.{read_outcome}
use Rattle.bg_protocol.specs.Devices.KeeperCalls.{ReadsBoth, ReadsSecond, restored_of}
use Rattle.bg_protocol.specs.Protocol.Slots.{MayBeLeft, SaveTorn, SaveWritten, next_number}
use Rattle.bg_protocol.specs.Worlds.Views.{KeeperView}
use Rattle.bg_protocol.specs.declared.devices.DeviceFault.{DeviceFault}
use Rattle.bg_protocol.specs.declared.events.Outcome.{Outcome}
use Rattle.bg_protocol.proofs.Protocol.Saving.{SlotsOk, after_whole}
use Rattle.bg_fences.specs.NodeActs.{AreReadOf}
use Rattle.bg_fences.proofs.Lists.{cases_in, tail_in}

-- ---- how a call leaves the slots

-- each text in a slot was in it before, or is what the slots restore
abbrev pub Keeps : Slots → Slots → Type 0
Keeps old new = (slot : Slot) (p : SavedParts) → IsSavedText p (bytes_in new slot) → IsSavedText p (bytes_in old slot) ⊎ SlotsRestore new.zero new.one (Some p)

pub same_keeps : (old new : Slots) → new ≡ old → Keeps old new
same_keeps old new e slot p h = inl (subst (λ (x : Slots). IsSavedText p (bytes_in x slot)) e h)

put_keeps : (old new : Slots) (at : Slot) (bytes : List ℕ) → new ≡ with_slot old at bytes
    → ((p : SavedParts) → IsSavedText p bytes → IsSavedText p (bytes_in old at) ⊎ SlotsRestore new.zero new.one (Some p)) → Keeps old new
put_keeps old new Zero bytes e f Zero p h = f p (subst (λ (x : Slots). IsSavedText p x.zero) e h)
put_keeps old new Zero bytes e f One p h = inl (subst (λ (x : Slots). IsSavedText p x.one) e h)
put_keeps old new One bytes e f Zero p h = inl (subst (λ (x : Slots). IsSavedText p x.zero) e h)
put_keeps old new One bytes e f One p h = f p (subst (λ (x : Slots). IsSavedText p x.one) e h)

-- these bytes are the text of the save that the slots restore
own_text : (new : Slots) (q : SavedParts) (bytes : List ℕ) → IsWrittenText q bytes → SlotsRestore new.zero new.one (Some q)
    → (p : SavedParts) → IsSavedText p bytes → SlotsRestore new.zero new.one (Some p)
own_text new q bytes is restore p h =
    subst (λ (x : SavedParts). SlotsRestore new.zero new.one (Some x)) (one_saved q p bytes (written_is_saved q bytes is) h) restore

pub written_keeps : (q : SavedParts) (old new : Slots) → SaveWritten q old new (Some q) → Keeps old new
written_keeps q old new w =
    put_keeps old new (slot_of q.save) w.text w.after.slots (λ p h. inr (own_text new q w.text w.is_text w.after.restore p h))

pub torn_keeps : (id : ℕ) (terms : Terms) (party : ℕ) (q : SavedParts) (old new : Slots) (restorable after : Option SavedParts) → SlotsOk id terms party old restorable
    → IsSavedBy party id terms q → q.save ≡ next_number restorable → SaveTorn q old new after → Keeps old new
torn_keeps id terms party q old new restorable after ok of next w = put_keeps old new (slot_of q.save) w.left w.after.slots (λ p h. at p h w.torn)
  where
    front : (p : SavedParts) (rest : List ℕ) → w.left ++ rest ≡ w.text → IsSavedText p w.left → SlotsRestore new.zero new.one (Some p)
    front p [] e h =
        let is : IsWrittenText q w.left = subst (IsWrittenText q) (sym e ∙ append-nil w.left) w.is_text in
        let whole : SaveWritten q old new after = record { text = w.left; is_text = is; after = record { slots = w.after.slots; restore = w.after.restore } } in
        own_text new q w.left is
        (subst (λ (x : Option SavedParts). SlotsRestore new.zero new.one x) (after_whole id terms party old restorable q new after ok of next whole).1 w.after.restore) p h
    front p (b ∷ rest) e h =
        absurd (front_loads q w.left (b ∷ rest) (subst (IsSavedText q) (sym e) (written_is_saved q w.text w.is_text)) (λ n. cc) p h)

    at : (p : SavedParts) → IsSavedText p w.left → MayBeLeft (bytes_in old (slot_of q.save)) w.text w.left
        → IsSavedText p (bytes_in old (slot_of q.save)) ⊎ SlotsRestore new.zero new.one (Some p)
    at p h (inl e) = inl (subst (IsSavedText p) e h)
    at p h (inr k) = inr (front p k.0 k.1 h)

-- ---- what was in a slot at some moment was restored at some moment

module _ {M : Type 0} (slots : M → Slots) where
  abbrev pub WasRestored : List M → Option SavedParts → Type 0
  WasRestored moments found = (past : M) × Contains moments past × SlotsRestore (slots past).zero (slots past).one found

  pub record Traced (moments : List M) : Type 0 where
    pub text : (past : M) → Contains moments past → (slot : Slot) (p : SavedParts) → IsSavedText p (bytes_in (slots past) slot) → WasRestored moments (Some p)
    pub none : WasRestored moments None

  more : (moments : List M) (now : M) (found : Option SavedParts) → WasRestored moments found → WasRestored (now ∷ moments) found
  more moments now found w = (w.0, tail_in now w.0 moments w.1, w.2)

  -- one moment more
  pub traces : (moments : List M) (old now : M) → Contains moments old → Contains (now ∷ moments) now → Keeps (slots old) (slots now) → Traced moments → Traced (now ∷ moments)
  traces moments old now there here keeps t = record {
    text = λ past c slot p h. elim (cases_in now past moments c) [
      | inl e ↦ at_now slot p (subst (λ (x : M). IsSavedText p (bytes_in (slots x) slot)) (sym e) h)
      | inr k ↦ more moments now (Some p) (t.text past k slot p h)
    ];
    none = more moments now None t.none;
  }
    where
      at_now : (slot : Slot) (p : SavedParts) → IsSavedText p (bytes_in (slots now) slot) → WasRestored (now ∷ moments) (Some p)
      at_now slot p h = elim (keeps slot p h) [
        | inl was ↦ more moments now (Some p) (t.text old there slot p was)
        | inr restore ↦ (now, here, restore)
      ]

  -- So what two slots restore that were read at two moments is what they restored at some moment.
  pub read_was_restored : (moments : List M) (read : Slots) (found : Option SavedParts) → Traced moments → AreReadOf slots moments read → SlotsRestore read.zero read.one found
      → WasRestored moments found
  read_was_restored moments read None t r h = t.none
  read_was_restored moments read (Some p) t r h = elim (one_of_both read.zero read.one p h) [
    | inl k ↦ t.text r.0 r.2 Zero p (subst (λ (x : Slots). IsSavedText p x.zero) r.4 k)
    | inr k ↦ t.text r.1 r.3 One p (subst (λ (x : Slots). IsSavedText p x.one) r.4 k)
  ]

-- ---- what a restart comes to

-- what the slots restore that were read, which is of this party and match; or an outcome that says
-- why nothing is restored
pub data IsFound (party id : ℕ) (terms : Terms) (read : Slots) (answer : Result (Option Saved) Outcome) : Type 0 where
  given : (s : Saved) → SlotsRestore read.zero read.one (Some (parts_of s)) → IsSavedBy party id terms (parts_of s) → answer ≡ Ok (Some s) → IsFound party id terms read answer
  empty : SlotsRestore read.zero read.one None → answer ≡ Ok None → IsFound party id terms read answer
  not_found : (o : Outcome) → answer ≡ Err o → IsFound party id terms read answer

module _ (party id : ℕ) (terms : Terms) (old new : KeeperView) (answer : Result (Option Saved) Outcome) where
  told : (r : Result (Option Saved) RestoreRefusal) → Restores old.slots.zero old.slots.one party id terms r → answer ≡ restored_of r → IsFound party id terms old.slots answer
  told (Ok None) h e = empty h.0 e
  told (Ok (Some s)) h e = given s h.0 h.1 e
  told (Err why) h e = not_found _ e

  second : (mid : KeeperView) (zero : List ℕ) → mid.slots ≡ old.slots → zero ≡ old.slots.zero → ReadsSecond ⊤ party id terms mid zero answer new → IsFound party id terms old.slots answer
  second mid zero same is h = at h.0 (h.1.bytes tt) h.2
    where
      at : (read : Result (Vec ℕ) DeviceFault) → IfOk read (λ found. found.items ≡ bytes_in mid.slots One)
          → MatchResult read (λ one. (r : Result (Option Saved) RestoreRefusal) × Restores zero one.items party id terms r × (answer ≡ restored_of r))
          (λ fault. answer ≡ Err (read_outcome fault))
          → IsFound party id terms old.slots answer
      at (Ok one) bytes k =
          let there : one.items ≡ old.slots.one = bytes ∙ ap (λ (x : Slots). x.one) same in
          told k.0
          (subst (λ (x : List ℕ). Restores x old.slots.one party id terms k.0) is (subst (λ (x : List ℕ). Restores zero x party id terms k.0) there k.1)) k.2
      at (Err why) bytes k = not_found _ k

  -- reads write nothing
  pub reads_only : ReadsBoth ⊤ party id terms old answer new → new.slots ≡ old.slots
  reads_only h = at h.0 h.3
    where
      at : (read : Result (Vec ℕ) DeviceFault)
          → MatchResult read (λ zero. ReadsSecond ⊤ party id terms h.1 zero.items answer new) (λ fault. (answer ≡ Err (read_outcome fault)) × (new ≡ h.1)) → new.slots ≡ old.slots
      at (Ok zero) k = k.1.same tt ∙ h.2.same tt
      at (Err why) k = ap (λ (x : KeeperView). x.slots) k.1 ∙ h.2.same tt

  pub finds : ReadsBoth ⊤ party id terms old answer new → IsFound party id terms old.slots answer
  finds h = at h.0 (h.2.bytes tt) h.3
    where
      at : (read : Result (Vec ℕ) DeviceFault) → IfOk read (λ found. found.items ≡ bytes_in old.slots Zero)
          → MatchResult read (λ zero. ReadsSecond ⊤ party id terms h.1 zero.items answer new) (λ fault. (answer ≡ Err (read_outcome fault)) × (new ≡ h.1))
          → IsFound party id terms old.slots answer
      at (Ok zero) bytes k = second h.1 zero.items (h.2.same tt) bytes k
      at (Err why) bytes k = not_found _ k.0
