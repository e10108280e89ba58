-- The law of saved texts, in either layout, and what follows from it.
use Rattle.std.proofs.Common.{◌≡◌, ◌≢◌, ℕ, Bool, true, false, cond, List, [], ◌++◌, length, None, Ok, Err, refl, sym, ap, subst, ◌∙◌, arith}
use Rattle.std.specs.Prelude.{◌==◌}
use Rattle.std.proofs.lemmas.Bool.{eqb-true, eqb-false}
use Rattle.bg_match.specs.Terms.{terms_of, match_length, rules_of}
use Rattle.bg_match.specs.declared.limits.Rules.TheVariants as rules
use Rattle.bg_match.specs.declared.entries.Entry.{Entry}
use Rattle.bg_match.specs.Limits.{shortest_match}
use Rattle.bg_match.proofs.Legal.{entries_in_range}
use Rattle.bg_wire.specs.Entries.Codes.{referee, magic_offset, least_save}
use Rattle.bg_wire.specs.declared.faults.LoadFault.TheVariants as fault
use Rattle.bg_wire.specs.declared.entries.reader.ReadFault.{ReadFault}
use Rattle.bg_wire.specs.declared.entries.reader.ReadFault.TheVariants as read_fault
use Rattle.bg_wire.specs.declared.saves.layouts.Front.{Front}
use Rattle.bg_wire.specs.declared.saves.layouts.Layout.TheVariants.{Two}
use Rattle.bg_wire.specs.Entries.Fields.{width_of}
use Rattle.bg_wire.specs.Entries.EntryText.{entry_bytes, entries_bytes}
use Rattle.bg_wire.specs.Saved.SavedLayouts.{IsEntryIn, saved_fields}
use Rattle.bg_wire.specs.Saved.WrittenLaws.{HaveWrittenText, HaveOneWrittenText, WrittenAreSaved}
use Rattle.bg_wire.specs.Saved.SavedText.{SavedParts, parts_with, saved_text, written_text, saved_width, IsInLayout, IsLayoutOf, IsSavedText}
use Rattle.bg_wire.specs.Faults.{IsLoadFault}
use Rattle.bg_wire.specs.Texts.{ArePrefixFree, IsWrongAt}
use Rattle.bg_wire.specs.Entries.Reading.{◌>>=◌, Cursor, Read, many_at, whole_of, with}
use Rattle.bg_wire.specs.Entries.EntryReading.{entry_at}
use Rattle.bg_wire.specs.Saved.SavedReading.{front_of, text_of_front, load_fault, front_at, parts_of_front, saved_at, layout_of, entries_of, fields_of}
use Rattle.bg_wire.proofs.Laws.{IsBytes, is_wrong_at, Law, Then, Mapped, Each, HasText, has_mapped, has_each, with_law, other_text, many_law, from_front, prefix_free, then_of, is_cut, join}
use Rattle.bg_wire.proofs.Widths.{Of, done_behind}
use Rattle.bg_wire.proofs.EntryLaws.{Spells, each_to, each_from, entry_law, has_entry}
use Rattle.bg_wire.proofs.ToldEntries.{all_told}
use Rattle.bg_wire.proofs.OfSaves.SavedFronts.{front_with, all_in_two}
use Rattle.bg_wire.proofs.OfSaves.SavedFrontTexts.{IsFront, front_law, front_all}

-- ---- the whole

abbrev SavedParted : SavedParts → List ℕ → Type 0
SavedParted = Then (Spells IsFront text_of_front)
    (λ f. Mapped (parts_of_front f) (Each (Spells (IsEntryIn f.layout) entry_bytes) f.count))

parted_to : (p : SavedParts) (front : List ℕ) → SavedParted p front → IsLayoutOf p front
parted_to p front h =
    let f = h.0 in
    let es = h.4.0 in
    let r = h.3.0 in
    let each = each_to (IsEntryIn f.layout) entry_bytes f.count es h.2 h.4.1 in
    let counted : f ≡ front_of f.layout (parts_of_front f es) =
    ap (front_with f.layout f.party f.id (match_length f.terms) (rules_of f.terms) f.save f.claim) (sym each.0) in
    let text : front ≡ saved_text f.layout (parts_of_front f es) = join h.5 (h.3.1 ∙ ap text_of_front counted) each.2 in
    subst (λ (x : SavedParts). IsLayoutOf x front) h.4.2 (
      f.layout,
      record {
        in_layout = record {
          party = r.party;
          id_fits = r.id_fits;
          shortest = r.shortest;
          longest = r.longest;
          rules = r.rules;
          first_save = r.first_save;
          last_save = r.last_save;
          claim = r.claim;
          few = omega (arith, each.0, r.few);
          in_range = each.1;
        };
        spelled = text;
      },
    )

parted_from : (p : SavedParts) (front : List ℕ) → IsLayoutOf p front → SavedParted p front
parted_from p front h =
    let r = h.1.in_layout in
    let f = front_of h.0 p in
    let is : IsFront f = record {
      party = r.party;
      id_fits = r.id_fits;
      shortest = r.shortest;
      longest = r.longest;
      rules = r.rules;
      first_save = r.first_save;
      last_save = r.last_save;
      claim = r.claim;
      few = r.few;
    } in (
      f,
      text_of_front f,
      entries_bytes p.entries,
      (is, refl),
      (
        p.entries,
        each_from (IsEntryIn h.0) entry_bytes (length p.entries) p.entries (entries_bytes p.entries) refl r.in_range
            refl,
        refl,
      ),
      h.1.spelled,
    )

pub saved_law : Law (Of saved_fields) saved_at IsLayoutOf
unfolding saved_at
saved_law =
    other_text _ parted_to parted_from
    (then_of (Of saved_fields) front_at (λ f c. with (parts_of_front f) (many_at (entry_at f.layout) f.count c))
    front_law
    (λ f. with_law (parts_of_front f) (many_at (entry_at f.layout) f.count)
    (many_law (entry_at f.layout) (entry_law f.layout) f.count))
    (λ f first h. has_mapped (parts_of_front f) (has_each (has_entry f.layout) f.count))
    (λ before w h. h) (λ f first t before w h. h
    ∙ subst (λ (r : List ℕ). 1 ≡ width_of saved_fields (r ++ before)) (sym t.1)
    (sym (done_behind saved_fields (text_of_front f) before (front_all f)))))

pub not_extra : (f : ReadFault) → load_fault f ≢ fault.Extra
not_extra read_fault.Short e = absurd cc
not_extra (read_fault.Field at) e = named (at == magic_offset) e
  where
    named : (a : Bool) → cond a fault.Magic (fault.Field at) ≢ fault.Extra
    named true e = absurd cc
    named false e = absurd cc

-- ---- the text that is written

pub written_is_saved : WrittenAreSaved
written_is_saved p text h = record { layout = (Two, h.layout); legal = h.legal }

pub one_written : HaveOneWrittenText
one_written p text other h k = h.layout.spelled ∙ sym k.layout.spelled

pub has_written : HaveWrittenText
has_written party save claim log id_fits is_log savable =
    let p = parts_with party save claim log in
    let legal = is_log.legal in
    let r : IsInLayout Two p = record {
      party = savable.party;
      id_fits = id_fits;
      shortest = is_log.points.0;
      longest = is_log.points.1;
      rules = all_in_two (rules_of log.terms);
      first_save = savable.first_save;
      last_save = savable.last_save;
      claim = savable.claim;
      few = legal.0;
      in_range = all_told log.entries (entries_in_range log.terms log.entries legal);
    } in
    (written_text p, record { layout = record { in_layout = r; spelled = refl }; legal = legal })

-- ---- prefixes

pub saved_prefix_free : ArePrefixFree IsSavedText
saved_prefix_free p q text rest h k = prefix_free saved_at saved_law p q text rest h.layout k.layout

-- ---- where the layout holds, and where it does not

module _ (bytes : List ℕ) where
  pub front_fails : (f : ReadFault) → front_at (from_front bytes) ≡ Err f → layout_of bytes ≡ Err (load_fault f)
  unfolding layout_of saved_at
  front_fails f e = rw e refl

  module _ (front : Front) (c : Cursor) (read : front_at (from_front bytes) ≡ Ok (front, c)) where
    pub by_entries : layout_of bytes ≡ fields_of front (entries_of front.layout front.count c)
    unfolding layout_of saved_at
    by_entries = rw read (go (many_at (entry_at front.layout) front.count c))
      where
        ended : (entries : List Entry) (b : Bool)
            → cond b (Ok (parts_of_front front entries)) (Err fault.Extra) ≡ fields_of front
            (cond b (Ok entries) (Err fault.Extra))
        ended entries true = refl
        ended entries false = refl

        go : (r : Read (List Entry))
            → whole_of load_fault fault.Extra (r >>= λ x. Ok (parts_of_front front x.0, x.1)) ≡ fields_of front
            (whole_of load_fault fault.Extra r)
        go (Ok x) = ended x.0 (length (x.1).rest == 0)
        go (Err f) = refl

-- ---- what the fault of a field says

has_saved : HasText IsLayoutOf
has_saved =
    let p : SavedParts = record {
      party = referee;
      id = 0;
      terms = terms_of shortest_match rules.One;
      save = least_save;
      claim = None;
      entries = [];
    } in
    let r : IsInLayout Two p = record {
      party = omega arith;
      id_fits = omega arith;
      shortest = omega arith;
      longest = omega arith;
      rules = tt;
      first_save = omega arith;
      last_save = omega arith;
      claim = tt;
      few = omega arith;
      in_range = tt;
    } in
    (p, saved_text Two p, (Two, record { in_layout = r; spelled = refl }))

pub says_field : (bytes : List ℕ) → IsBytes bytes → (f : ReadFault) → saved_at (from_front bytes) ≡ Err f
    → IsLoadFault (load_fault f) bytes
says_field bytes fits read_fault.Short e =
    is_cut saved_at saved_law saved_width (λ before w h. h) bytes has_saved fits e
says_field bytes fits (read_fault.Field at) e = named (at == magic_offset) refl
  where
    wrong : IsWrongAt IsLayoutOf saved_width bytes at
    wrong = is_wrong_at saved_at saved_law saved_width (λ before w h. h) bytes at has_saved fits e

    named : (a : Bool) → (at == magic_offset) ≡ a → IsLoadFault (cond a fault.Magic (fault.Field at)) bytes
    named true is = subst (IsWrongAt IsLayoutOf saved_width bytes) (eqb-true _ _ is) wrong
    named false no_magic = (eqb-false _ _ no_magic, wrong)
