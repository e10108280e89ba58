-- Entries behind those that were read already.
use Rattle.std.proofs.Common.{◌≡◌, ◌≢◌, ℕ, ◌+◌, Bool, true, false, cond, List, [], ◌∷◌, ◌++◌, length, Result, Ok, Err, refl, sym, ap, ◌∙◌, arith}
use Rattle.std.specs.Prelude.{◌==◌, ◌↔◌, IsOk}
use Rattle.std.proofs.lemmas.List.{length-append}
use Rattle.bg_match.specs.Match.{Log, IsLegalRecord, IsNext}
use Rattle.bg_match.specs.declared.entries.Entry.{Entry}
use Rattle.bg_match.specs.declared.entries.EntryFault.{EntryFault}
use Rattle.bg_match.specs.declared.entries.EntryFault.TheVariants as entry_fault
use Rattle.bg_wire.specs.declared.faults.LoadFault.{LoadFault}
use Rattle.bg_wire.specs.declared.faults.LoadFault.TheVariants as fault
use Rattle.bg_wire.specs.Entries.Reading.{Cursor, Read, many_at, whole_of}
use Rattle.bg_wire.specs.Entries.EntryReading.{entry_at}
use Rattle.bg_wire.specs.declared.entries.reader.ReadFault.{ReadFault}
use Rattle.bg_wire.specs.declared.saves.layouts.Front.{Front}
use Rattle.bg_wire.specs.Saved.SavedReading.{load_fault, entries_of, fields_of, append_fault, Passes, Replays, Loads}
use Rattle.bg_wire.proofs.Many.{with_front, many_len, passed_of, passed_list, passed_not}
use Rattle.bg_match.proofs.Extending.{is_first_illegal}

abbrev pub whole : Read (List Entry) → Result (List Entry) LoadFault
whole = whole_of load_fault fault.Extra

-- what is wrong with the rest is wrong with all
pub rest_fails : (front : List Entry) (read : Read (List Entry)) (why : LoadFault) → whole read ≡ Err why → whole (with_front front read) ≡ Err why
rest_fails front (Err f) why e = e
rest_fails front (Ok x) why e = go (length (x.1).rest == 0) e
  where
    go : (b : Bool) → cond b (Ok x.0) (Err fault.Extra) ≡ Err why → cond b (Ok (front ++ x.0)) (Err fault.Extra) ≡ Err why
    go true e = absurd cc
    go false e = let same : fault.Extra ≡ why = cc in rw same refl

-- where the rest is there, all is
pub rest_ends : (front : List Entry) (read : Read (List Entry)) → IsOk (whole read) → (rest : List Entry) × (whole (with_front front read) ≡ Ok (front ++ rest))
rest_ends front (Err f) ok = absurd cc
rest_ends front (Ok x) ok = (x.0, go (length (x.1).rest == 0) ok)
  where
    go : (b : Bool) → IsOk (cond b (Ok x.0) (Err fault.Extra)) → cond b (Ok (front ++ x.0)) (Err fault.Extra) ≡ Ok (front ++ x.0)
    go true ok = refl
    go false ok = absurd cc

-- entries that were passed over, up to a fault
pub passes_not : (read : Read (List Entry)) (f : ReadFault) → passed_of read ≡ Err f → whole read ≡ Err (load_fault f)
passes_not read f e = rw (passed_not read f e) refl

-- entries that were passed over, to the end of the text or not
pub passes_to : (read : Read (List Entry)) (c : Cursor) (r : Result (Unit {0}) LoadFault) → passed_of read ≡ Ok c → r ≡ cond (length c.rest == 0) (Ok tt) (Err fault.Extra) → Passes r (whole read)
passes_to read c r e is = let found = passed_list read c e in rw (found.1, is) (go (length c.rest == 0) found.0)
  where
    go : (b : Bool) (entries : List Entry) → Passes (cond b (Ok tt) (Err fault.Extra)) (cond b (Ok entries) (Err fault.Extra))
    go true entries = refl
    go false entries = refl

-- memory is wanted for entries
pub wants_memory : (front : Front) (c : Cursor) → IsOk (entries_of front.layout front.count c) → front.count ≢ 0
    → Loads (Err fault.Memory) (fields_of front (entries_of front.layout front.count c))
wants_memory front c ok some = go (many_at (entry_at front.layout) front.count c) refl ok
  where
    ended : (entries : List Entry) (d : Cursor) → many_at (entry_at front.layout) front.count c ≡ Ok (entries, d)
        → (b : Bool) → IsOk (cond b (Ok entries) (Err fault.Extra))
        → Loads (Err fault.Memory) (fields_of front (cond b (Ok entries) (Err fault.Extra)))
    ended entries d was true ok =
        λ none. some (sym (many_len (entry_at front.layout) front.count c entries d was) ∙ ap length none)
    ended entries d was false ok = absurd cc

    go : (r : Read (List Entry)) → many_at (entry_at front.layout) front.count c ≡ r → IsOk (whole r)
        → Loads (Err fault.Memory) (fields_of front (whole r))
    go (Err f) was ok = absurd cc
    go (Ok x) was ok = ended x.0 x.1 was (length (x.1).rest == 0) ok

-- an entry that was refused does not follow, want of memory aside
pub not_next : {A : Type 0} (f : EntryFault) (L : Type 0) → (let r : Result A EntryFault = Err f in r ≢ Err entry_fault.Memory → (IsOk r) ↔ L) → f ≢ entry_fault.Memory → L → ⊥
not_next f L ok ample legal =
    let is_ok = (ok (λ m. let short : f ≡ entry_fault.Memory = cc in ample short)).1 legal in
    absurd cc

-- where an entry is refused, loading ends
pub refused_at : (f : EntryFault) (n : ℕ) (old new : Log) (front rest all : List Entry) (x : Entry) → n ≡ length front + 1 → all ≡ (front ++ x ∷ []) ++ rest → IsLegalRecord old.terms front
    → (f ≢ entry_fault.Memory → IsNext old.terms front x → ⊥) → Replays (let r : Result (Unit {0}) LoadFault = Err (append_fault n f) in r) old new (Ok all)
refused_at entry_fault.Memory n old new front rest all x len is legal refused = λ none. absurd (omega (arith, ap length is, ap length none, length-append (front ++ x ∷ []) rest, length-append front (x ∷ [])))
refused_at entry_fault.RecordFull n old new front rest all x len is legal refused = is_first_illegal old.terms n front rest all x len is legal (refused (λ h. absurd (cc h)))
refused_at entry_fault.MatchOver n old new front rest all x len is legal refused = is_first_illegal old.terms n front rest all x len is legal (refused (λ h. absurd (cc h)))
refused_at entry_fault.WrongPhase n old new front rest all x len is legal refused = is_first_illegal old.terms n front rest all x len is legal (refused (λ h. absurd (cc h)))
refused_at entry_fault.EqualOpening n old new front rest all x len is legal refused = is_first_illegal old.terms n front rest all x len is legal (refused (λ h. absurd (cc h)))
refused_at (entry_fault.Turn t) n old new front rest all x len is legal refused = is_first_illegal old.terms n front rest all x len is legal (refused (λ h. absurd (cc h)))
refused_at (entry_fault.NoDouble d) n old new front rest all x len is legal refused = is_first_illegal old.terms n front rest all x len is legal (refused (λ h. absurd (cc h)))

-- where all entries were appended, the text ends, or not
pub replays_to : (read : Read (List Entry)) (c : Cursor) (r : Result (Unit {0}) LoadFault) (first log : Log) → read ≡ Ok (log.entries, c) → r ≡ cond (length c.rest == 0) (Ok tt) (Err fault.Extra)
    → log ≡ record first { entries = log.entries; spare = log.spare } → IsLegalRecord first.terms log.entries → Replays r first log (whole read)
replays_to read c r first log e is same legal = rw (e, is) (go (length c.rest == 0))
  where
    go : (b : Bool) → Replays (let r : Result (Unit {0}) LoadFault = cond b (Ok tt) (Err fault.Extra) in r) first log (cond b (Ok log.entries) (Err fault.Extra))
    go true = (same, legal)
    go false = refl
