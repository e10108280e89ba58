-- What loading a saved text answers.
use Rattle.std.proofs.Common.{◌≡◌, ◌≢◌, ℕ, ◌-◌, ◌<◌, ◌≤◌, Bool, true, false, cond, List, [], ◌++◌, length, take, Result, Ok, Err, refl, sym, ap, subst, ◌∙◌, arith, inl, inr}
use Rattle.std.specs.Prelude.{◌==◌, is_err, IsOk, IfOk, IfErr, OnOk, OnErr, ◌↔◌}
use Rattle.std.proofs.lemmas.Bool.{cases_lt}
use Rattle.std.proofs.lemmas.List.{take-take}
use Rattle.bg_match.specs.Terms.{Terms}
use Rattle.bg_match.specs.Match.{Log, IsLegalRecord, IsFirstIllegal, IsRecordFault}
use Rattle.bg_match.specs.declared.entries.Entry.{Entry}
use Rattle.bg_match.specs.declared.entries.EntryFault.{EntryFault}
use Rattle.bg_match.specs.declared.entries.EntryFault.TheVariants as entry_fault
use Rattle.bg_match.proofs.Extending.{legal_take, not_legal}
use Rattle.bg_wire.specs.declared.faults.LoadFault.{LoadFault}
use Rattle.bg_wire.specs.declared.faults.LoadFault.TheVariants as fault
use Rattle.bg_wire.specs.declared.entries.reader.ReadFault.{ReadFault}
use Rattle.bg_wire.specs.declared.entries.reader.ReadFault.TheVariants as read_fault
use Rattle.bg_wire.specs.declared.saves.Saved.{Saved}
use Rattle.bg_wire.specs.Texts.{HasMore}
use Rattle.bg_wire.specs.Entries.Reading.{Read, whole_of}
use Rattle.bg_wire.specs.Saved.SavedText.{SavedParts, IsSavable, IsLayoutOf, IsSavedText, IsIllegalAt, HasEntries, parts_of}
use Rattle.bg_wire.specs.Faults.{IsLoadFault}
use Rattle.bg_wire.specs.Saved.SavedReading.{load_fault, saved_at, layout_of, fields_of, Replays, Loads}
use Rattle.bg_wire.specs.declared.saves.layouts.Front.{Front}
use Rattle.bg_wire.proofs.Laws.{IsBytes, from_front, is_found, is_read, is_short, has_more, is_extra, says_why}
use Rattle.bg_wire.proofs.OfSaves.SavedClaims.{claim_may}
use Rattle.bg_wire.proofs.OfSaves.SavedLaws.{saved_law, says_field, not_extra}

-- ---- the first entry that does not follow

not_before : (m : Terms) (n k : ℕ) (entries : List Entry) → IsFirstIllegal m entries n → IsFirstIllegal m entries k
    → n < k → ⊥
not_before m n k entries p q lt =
    let le : n ≤ k - 1 = omega arith in
    p.illegal (subst (IsLegalRecord m) (take-take n (k - 1) entries le) (legal_take m n (take (k - 1) entries) q.before))

pub one_first : (m : Terms) (n k : ℕ) (entries : List Entry) → IsFirstIllegal m entries n → IsFirstIllegal m entries k
    → n ≡ k
one_first m n k entries p q = elim (cases_lt n k) [
  | inl lt ↦ absurd (not_before m n k entries p q lt)
  | inr le ↦ elim (cases_lt k n) [
    | inl lt ↦ absurd (not_before m k n entries q p lt)
    | inr ge ↦ omega arith
  ]
]

-- a refusal where there is room says that the entry does not follow
pub refused : {A : Type 0} (r : Result A EntryFault) (log : Log) (e : Entry) (L : Type 0) → (IsOk r → ⊥) → IfErr r (λ f. IsRecordFault f log e) → 0 < log.spare → (r ≢ Err entry_fault.Memory → (IsOk r) ↔ L) → L → ⊥
refused (Ok x) log e L bad why room ok legal = bad refl
refused (Err entry_fault.RecordFull) log e L bad why room ok legal = bad ((ok (λ h. absurd (cc h))).1 legal)
refused (Err entry_fault.MatchOver) log e L bad why room ok legal = bad ((ok (λ h. absurd (cc h))).1 legal)
refused (Err entry_fault.WrongPhase) log e L bad why room ok legal = bad ((ok (λ h. absurd (cc h))).1 legal)
refused (Err entry_fault.EqualOpening) log e L bad why room ok legal = bad ((ok (λ h. absurd (cc h))).1 legal)
refused (Err (entry_fault.Turn t)) log e L bad why room ok legal = bad ((ok (λ h. absurd (cc h))).1 legal)
refused (Err (entry_fault.NoDouble d)) log e L bad why room ok legal = bad ((ok (λ h. absurd (cc h))).1 legal)
refused (Err entry_fault.Memory) log e L bad why room ok legal = absurd (omega (arith, why.0, room))

-- ---- what the layout gives

module _ (bytes : List ℕ) where
  pub laid : (p : SavedParts) → IsLayoutOf p bytes → layout_of bytes ≡ Ok p
  unfolding layout_of
  laid p h = is_read saved_at saved_law load_fault fault.Extra bytes p h

  pub is_layout : (p : SavedParts) → IsBytes bytes → layout_of bytes ≡ Ok p → IsLayoutOf p bytes
  unfolding layout_of
  is_layout p fits e = is_found saved_at saved_law load_fault fault.Extra bytes p fits e

  laid_short : (p : SavedParts) (rest : List ℕ) → IsLayoutOf p (bytes ++ rest) → rest ≢ [] → layout_of bytes ≡ Err fault.Short
  unfolding layout_of
  laid_short p rest h some = is_short saved_at saved_law load_fault fault.Extra bytes rest p h some

  laid_more : IsBytes bytes → layout_of bytes ≡ Err fault.Extra → HasMore IsLayoutOf bytes
  unfolding layout_of
  laid_more fits e = has_more saved_at saved_law load_fault fault.Extra bytes not_extra fits e

  laid_why : IsBytes bytes → IfErr (layout_of bytes) (λ f. IsLoadFault f bytes)
  unfolding layout_of
  laid_why fits = says_why saved_at saved_law load_fault fault.Extra bytes (λ f. IsLoadFault f bytes) (says_field bytes fits) (λ fits more. more) fits

  laid_extra : HasMore IsLayoutOf bytes → layout_of bytes ≡ Err fault.Extra
  unfolding layout_of
  laid_extra h = is_extra saved_at saved_law load_fault fault.Extra bytes h

whole_never : (g : LoadFault) → ((f : ReadFault) → load_fault f ≢ g) → fault.Extra ≢ g → (r : Read SavedParts) → whole_of load_fault fault.Extra r ≢ Err g
whole_never g other extra (Err f) e = let same : load_fault f ≡ g = cc in other f same
whole_never g other extra (Ok x) e = go (length (x.1).rest == 0) e
  where
    go : (b : Bool) → cond b (Ok x.0) (Err fault.Extra) ≢ Err g
    go true e = absurd cc
    go false e = let same : fault.Extra ≡ g = cc in extra same

layout_never : (bytes : List ℕ) (g : LoadFault) → ((f : ReadFault) → load_fault f ≢ g) → fault.Extra ≢ g → layout_of bytes ≢ Err g
unfolding layout_of
layout_never bytes g other extra = whole_never g other extra (saved_at (from_front bytes))

never_illegal : (n : ℕ) (f : ReadFault) → load_fault f ≢ fault.Illegal n
never_illegal n read_fault.Short e = absurd cc
never_illegal n (read_fault.Field at) e = go (at == 0) e
  where
    go : (b : Bool) → cond b fault.Magic (fault.Field at) ≢ fault.Illegal n
    go true e = absurd cc
    go false e = absurd cc

never_memory : (f : ReadFault) → load_fault f ≢ fault.Memory
never_memory read_fault.Short e = absurd cc
never_memory (read_fault.Field at) e = go (at == 0) e
  where
    go : (b : Bool) → cond b fault.Magic (fault.Field at) ≢ fault.Memory
    go true e = absurd cc
    go false e = absurd cc

-- ---- what loading answers

module _ (bytes : List ℕ) (result : Result Saved LoadFault) (loads : Loads result (layout_of bytes)) where
  by_layout : (l : Result SavedParts LoadFault) → layout_of bytes ≡ l → Loads result l
  by_layout l was = subst (Loads result) was loads

  pub found : IsBytes bytes → IfOk result (λ s. IsSavedText (parts_of s) bytes)
  found fits = go result (layout_of bytes) refl loads
    where
      go : (r : Result Saved LoadFault) (l : Result SavedParts LoadFault) → layout_of bytes ≡ l → Loads r l → IfOk r (λ s. IsSavedText (parts_of s) bytes)
      go (Err f) l was h = tt
      go (Ok s) (Err f) was h = absurd cc
      go (Ok s) (Ok p) was h = subst (λ (q : SavedParts). IsSavedText q bytes) (sym h.0) (record { layout = is_layout bytes p fits was; legal = h.1 })

  pub savable : IsBytes bytes → IfOk result (λ s. IsSavable (parts_of s))
  savable fits = go result (found fits)
    where
      go : (r : Result Saved LoadFault) → IfOk r (λ s. IsSavedText (parts_of s) bytes) → IfOk r (λ s. IsSavable (parts_of s))
      go (Err f) h = tt
      go (Ok s) h =
          let r = h.layout.1.in_layout in
          let claim = claim_may h.layout.0 s.party s.claim r.claim in
          record { party = r.party; first_save = r.first_save; last_save = r.last_save; claim = claim }

  pub only : (p : SavedParts) → IsSavedText p bytes → result ≢ Err fault.Memory → IsOk result × IfOk result (λ s. parts_of s ≡ p)
  only p text ample = go result (by_layout (Ok p) (laid bytes p text.layout)) ample
    where
      go : (r : Result Saved LoadFault) → Loads r (Ok p) → r ≢ Err fault.Memory → IsOk r × IfOk r (λ s. parts_of s ≡ p)
      go (Ok s) h ample = (refl, h.0)
      go (Err fault.Memory) h ample = absurd (ample refl)
      go (Err (fault.Illegal n)) h ample = absurd (not_legal p.terms n p.entries h text.legal)
      go (Err fault.Short) h ample = absurd h
      go (Err fault.Magic) h ample = absurd h
      go (Err (fault.Field n)) h ample = absurd h
      go (Err fault.Extra) h ample = absurd h

  pub short : (p : SavedParts) (rest : List ℕ) → IsLayoutOf p (bytes ++ rest) → rest ≢ [] → result ≡ Err fault.Short
  short p rest h some = by_layout (Err fault.Short) (laid_short bytes p rest h some)

  pub extra : IsBytes bytes → (result ≡ Err fault.Extra) ↔ HasMore IsLayoutOf bytes
  extra fits = (λ e. to result (layout_of bytes) refl loads e, λ h. by_layout (Err fault.Extra) (laid_extra bytes h))
    where
      to : (r : Result Saved LoadFault) (l : Result SavedParts LoadFault) → layout_of bytes ≡ l → Loads r l → r ≡ Err fault.Extra → HasMore IsLayoutOf bytes
      to (Ok s) l was h e = absurd cc
      to (Err f) (Ok p) was h e =
          let same : f ≡ fault.Extra = cc in
          absurd (subst (λ (g : LoadFault). Loads (Err g) (Ok p)) same h)
      to (Err f) (Err g) was h e = let same : g ≡ fault.Extra = cc in laid_more bytes fits (was ∙ ap (λ (x : LoadFault). Err x) same)

  pub illegal : IsBytes bytes → (n : ℕ) → result ≡ Err (fault.Illegal n) → IsIllegalAt n bytes
  illegal fits n e = go (layout_of bytes) refl (subst (λ (r : Result Saved LoadFault). Loads r (layout_of bytes)) e loads)
    where
      go : (l : Result SavedParts LoadFault) → layout_of bytes ≡ l → Loads (Err (fault.Illegal n)) l → IsIllegalAt n bytes
      go (Ok p) was h = (p, is_layout bytes p fits was, h)
      go (Err g) was h =
          let same : g ≡ fault.Illegal n = cc in
          absurd (layout_never bytes (fault.Illegal n) (never_illegal n) (λ x. absurd (cc x)) (was ∙ ap (λ (x : LoadFault). Err x) same))

  pub only_illegal : (n : ℕ) → IsIllegalAt n bytes → result ≢ Err fault.Memory → result ≡ Err (fault.Illegal n)
  only_illegal n at ample = go result (by_layout (Ok at.0) (laid bytes at.0 at.1)) ample
    where
      go : (r : Result Saved LoadFault) → Loads r (Ok at.0) → r ≢ Err fault.Memory → r ≡ Err (fault.Illegal n)
      go (Ok s) h ample = absurd (not_legal (at.0).terms n (at.0).entries at.2 h.1)
      go (Err fault.Memory) h ample = absurd (ample refl)
      go (Err (fault.Illegal k)) h ample = ap (λ (i : ℕ). Err (fault.Illegal i)) (one_first (at.0).terms k n (at.0).entries h at.2)
      go (Err fault.Short) h ample = absurd h
      go (Err fault.Magic) h ample = absurd h
      go (Err (fault.Field k)) h ample = absurd h
      go (Err fault.Extra) h ample = absurd h

  pub why : IsBytes bytes → IfErr result (λ f. IsLoadFault f bytes)
  why fits = go result (layout_of bytes) refl loads
    where
      of_layout : (g : LoadFault) → layout_of bytes ≡ Err g → IsLoadFault g bytes
      of_layout g was = let h : IfErr (let l : Result SavedParts LoadFault = Err g in l) (λ f. IsLoadFault f bytes) = subst (λ (l : Result SavedParts LoadFault). IfErr l (λ f. IsLoadFault f bytes)) was (laid_why bytes fits) in h

      of_entries : (p : SavedParts) → layout_of bytes ≡ Ok p → (f : LoadFault) → Loads (Err f) (Ok p) → IsLoadFault f bytes
      of_entries p was (fault.Illegal n) h = (p, is_layout bytes p fits was, h)
      of_entries p was fault.Memory h = (p, is_layout bytes p fits was, h)
      of_entries p was fault.Short h = absurd h
      of_entries p was fault.Magic h = absurd h
      of_entries p was (fault.Field n) h = absurd h
      of_entries p was fault.Extra h = absurd h

      go : (r : Result Saved LoadFault) (l : Result SavedParts LoadFault) → layout_of bytes ≡ l → Loads r l → IfErr r (λ f. IsLoadFault f bytes)
      go (Ok s) l was h = tt
      go (Err f) (Ok p) was h = of_entries p was f h
      go (Err f) (Err g) was h = let same : f ≡ g = cc in subst (λ (x : LoadFault). IsLoadFault x bytes) (sym same) (of_layout g was)

  pub memory : IsBytes bytes → result ≡ Err fault.Memory → HasEntries bytes
  memory fits e = go (layout_of bytes) refl (subst (λ (r : Result Saved LoadFault). Loads r (layout_of bytes)) e loads)
    where
      go : (l : Result SavedParts LoadFault) → layout_of bytes ≡ l → Loads (Err fault.Memory) l → HasEntries bytes
      go (Ok p) was h = (p, is_layout bytes p fits was, h)
      go (Err g) was h =
          let same : g ≡ fault.Memory = cc in
          absurd (layout_never bytes fault.Memory never_memory (λ x. absurd (cc x)) (was ∙ ap (λ (x : LoadFault). Err x) same))

-- where a replay stops, loading stops
pub stopped : {A : Type 0} (r : Result A LoadFault) (f : LoadFault) (old new : Log) (front : Front) (read : Result (List Entry) LoadFault) → r ≡ Err f → old.terms ≡ front.terms
    → Replays r old new read → Loads (Err f) (fields_of front read)
stopped {A} r f old new front read e same h = go f read (subst (λ (s : Result A LoadFault). Replays s old new read) e h)
  where
    go : (f : LoadFault) (read : Result (List Entry) LoadFault) → Replays (let s : Result A LoadFault = Err f in s) old new read → Loads (Err f) (fields_of front read)
    go f (Err why) h = let is : f ≡ why = cc in ap (λ (g : LoadFault). Err g) is
    go (fault.Illegal n) (Ok entries) h = subst (λ (m : Terms). IsFirstIllegal m entries n) same h
    go fault.Memory (Ok entries) h = h
    go fault.Short (Ok entries) h = absurd h
    go fault.Magic (Ok entries) h = absurd h
    go (fault.Field n) (Ok entries) h = absurd h
    go fault.Extra (Ok entries) h = absurd h

-- a record that has all entries, and is otherwise as it was
pub all_read : (old new : Log) (entries : List Entry) → entries ≡ new.entries → new ≡ record old { entries = new.entries; spare = new.spare } → IsLegalRecord old.terms new.entries
    → (new ≡ record old { entries = entries; spare = new.spare }) × IsLegalRecord old.terms entries
all_read old new entries e same legal =
    (same ∙ ap (λ (es : List Entry). record old { entries = es; spare = new.spare }) (sym e), subst (IsLegalRecord old.terms) (sym e) legal)

-- a record that was appended to is otherwise as it was at first
pub same_more : (first log new : Log) (entries : List Entry) → log ≡ record first { entries = log.entries; spare = log.spare } → new ≡ record log { entries = entries; spare = new.spare }
    → new ≡ record first { entries = new.entries; spare = new.spare }
same_more first log new entries before added =
    let id : new.id ≡ first.id = ap (λ (l : Log). l.id) added ∙ ap (λ (l : Log). l.id) before in
    let n : new.terms ≡ first.terms = ap (λ (l : Log). l.terms) added ∙ ap (λ (l : Log). l.terms) before in
    let left : new ≡ record new { id = first.id } = ap (λ (i : ℕ). record new { id = i }) id in
    let right : (let l : Log = record new { id = first.id } in l) ≡ record first { entries = new.entries; spare = new.spare } =
    ap (λ (i : Terms). record first { terms = i; entries = new.entries; spare = new.spare }) n in
    left ∙ right

pub on_ok : {A E : Type 0} (r : Result A E) (P : Type 0) → is_err r ≡ false → OnOk r P → P
on_ok (Ok x) P h p = p
on_ok (Err f) P h p = absurd cc

pub on_err : {A E : Type 0} (r : Result A E) (P : Type 0) → is_err r ≡ true → OnErr r P → P
on_err (Ok x) P h p = absurd cc
on_err (Err f) P h p = p

pub not_both : {A E : Type 0} (r : Result A E) → is_err r ≡ true → IsOk r → ⊥
not_both (Ok x) h ok = absurd cc
not_both (Err f) h ok = absurd cc

pub of_ok : {A E : Type 0} (r : Result A E) (x : A) (P : A → Type 0) → r ≡ Ok x → IfOk r P → P x
of_ok {A} {E} r x P e h = let k : IfOk (let s : Result A E = Ok x in s) P = subst (λ (s : Result A E). IfOk s P) e h in k
