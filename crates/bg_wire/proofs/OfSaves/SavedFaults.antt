-- Bytes have one fault as a saved text, want of memory aside, and a saved text has none.
use Rattle.std.proofs.Common.{◌≡◌, ◌≢◌, ℕ, ◌<◌, ◌≤◌, ◌⊎◌, false, List, ◌++◌, length, refl, sym, ap, subst, ◌∙◌, arith, inl, inr}
use Rattle.std.specs.Prelude.{◌==◌}
use Rattle.std.proofs.lemmas.Bool.Decides.{nat_tests}
use Rattle.bg_wire.specs.Entries.Codes.{magic_offset}
use Rattle.bg_wire.specs.Entries.EntryText.{entries_bytes}
use Rattle.bg_wire.specs.declared.faults.LoadFault.{LoadFault}
use Rattle.bg_wire.specs.declared.faults.LoadFault.TheVariants as fault
use Rattle.bg_wire.specs.declared.entries.reader.ReadFault.TheVariants as read_fault
use Rattle.bg_match.specs.Match.{IsFirstIllegal}
use Rattle.bg_wire.specs.Saved.SavedText.{SavedParts, IsLayoutOf, IsSavedText, IsIllegalAt, saved_width}
use Rattle.bg_wire.specs.Saved.SavedLayouts.{saved_fields}
use Rattle.bg_wire.specs.Saved.SavedReading.{saved_at, load_fault, front_of, text_of_front}
use Rattle.bg_wire.specs.Faults.{IsLoadFault}
use Rattle.bg_wire.specs.FaultLaws.{HaveOneLoadFault, SavedTextsHaveNoFault}
use Rattle.bg_wire.specs.Texts.{ArePrefixFree}
use Rattle.bg_wire.proofs.Laws.{prefix_free, one_value}
use Rattle.bg_wire.proofs.OfSaves.SavedFrontTexts.{front_all}
use Rattle.bg_wire.proofs.OfSaves.SavedLaws.{saved_law}
use Rattle.bg_match.proofs.Extending.{not_legal}
use Rattle.bg_wire.proofs.OfSaves.Loading.{one_first}
use Rattle.bg_wire.proofs.Widths.{HasAll, has_all, fits_of, inside_of}
use Rattle.bg_wire.proofs.OneFault.{Sorted, same_fault, no_fault}

inside : (before mid : List ℕ) → 0 < length mid → length mid < saved_width before → saved_width (before ++ mid) ≡ 0
inside before mid some lt = inside_of saved_fields before mid some lt

has_fields : (p : SavedParts) (bytes : List ℕ) → IsLayoutOf p bytes → HasAll saved_fields bytes
has_fields p bytes h =
    let front = front_of h.0 p in
    subst (HasAll saved_fields) (sym h.1.spelled)
    (has_all saved_fields (text_of_front front) (entries_bytes p.entries) (front_all front))

whole : (p : SavedParts) (before rest : List ℕ) → IsLayoutOf p (before ++ rest) → 0 < length rest
    → saved_width before ≤ length rest
whole p before rest h some = fits_of saved_fields before rest (has_fields p (before ++ rest) h) some

free : ArePrefixFree IsLayoutOf
free = prefix_free saved_at saved_law

not_same : (a b : ℕ) → a ≢ b → (a == b) ≡ false
not_same a b h = grind (arith, nat_tests)

abbrev field : ℕ → LoadFault
field n = load_fault (read_fault.Field n)

abbrev OfLayout : LoadFault → List ℕ → Type 0
OfLayout = Sorted IsLayoutOf saved_width free inside whole fault.Short fault.Extra field

-- a fault of the layout, or of the entries
abbrev OfText : LoadFault → List ℕ → Type 0
OfText f bytes = OfLayout f bytes ⊎ ((n : ℕ) × IsIllegalAt n bytes × (f ≡ fault.Illegal n))

sorted : (f : LoadFault) (bytes : List ℕ) → f ≢ fault.Memory → IsLoadFault f bytes → OfText f bytes
sorted fault.Short bytes ample h = inl (inl (h, refl))
sorted fault.Magic bytes ample h = inl (inr (inl (magic_offset, h, refl)))
sorted (fault.Field at) bytes ample h = inl (inr (inl (at, h.1, rw (not_same at magic_offset h.0) refl)))
sorted fault.Extra bytes ample h = inl (inr (inr (h, refl)))
sorted (fault.Illegal n) bytes ample h = inr (n, h, refl)
sorted fault.Memory bytes ample h = absurd (ample refl)

one_layout : (p q : SavedParts) (bytes : List ℕ) → IsLayoutOf p bytes → IsLayoutOf q bytes → p ≡ q
one_layout p q bytes h k = one_value saved_at saved_law p q bytes h k

one_illegal : (bytes : List ℕ) (n m : ℕ) → IsIllegalAt n bytes → IsIllegalAt m bytes → n ≡ m
one_illegal bytes n m h k =
    let same = one_layout k.0 h.0 bytes k.1 h.1 in
    one_first (h.0).terms n m (h.0).entries h.2
    (subst (λ (p : SavedParts). IsFirstIllegal p.terms p.entries m) same k.2)

not_of_layout : (bytes : List ℕ) (f : LoadFault) (p : SavedParts) → IsLayoutOf p bytes → OfLayout f bytes → ⊥
not_of_layout bytes f p h k =
    no_fault IsLayoutOf saved_width free inside whole fault.Short fault.Extra field p bytes f h k

one_of_text : (bytes : List ℕ) (f g : LoadFault) → OfText f bytes → OfText g bytes → f ≡ g
one_of_text bytes f g (inl h) (inl k) =
    same_fault IsLayoutOf saved_width free inside whole fault.Short fault.Extra field bytes f g h k
one_of_text bytes f g (inl h) (inr k) = absurd (not_of_layout bytes f k.1.0 k.1.1 h)
one_of_text bytes f g (inr h) (inl k) = absurd (not_of_layout bytes g h.1.0 h.1.1 k)
one_of_text bytes f g (inr h) (inr k) = h.2 ∙ ap (λ (n : ℕ). fault.Illegal n) (one_illegal bytes h.0 k.0 h.1 k.1)
    ∙ sym k.2

pub one_load_fault : HaveOneLoadFault
one_load_fault bytes f g ample plenty h k = one_of_text bytes f g (sorted f bytes ample h) (sorted g bytes plenty k)

none_of_text : (p : SavedParts) (bytes : List ℕ) (f : LoadFault) → IsSavedText p bytes → OfText f bytes → ⊥
none_of_text p bytes f h (inl k) = not_of_layout bytes f p h.layout k
none_of_text p bytes f h (inr k) =
    let same = one_layout k.1.0 p bytes k.1.1 h.layout in
    not_legal p.terms k.0 p.entries (subst (λ (q : SavedParts). IsFirstIllegal q.terms q.entries k.0) same k.1.2)
    h.legal

pub saved_texts_have_no_fault : SavedTextsHaveNoFault
saved_texts_have_no_fault p bytes f ample h k = none_of_text p bytes f h (sorted f bytes ample k)
