-- What stands before the entries of a saved text, in either layout, is its fields.
use Rattle.std.proofs.Common.{◌≡◌, ℕ, ◌^◌, ◌<◌, ◌≤◌, List, [], ◌∷◌, ◌++◌, refl, sym, ap, subst, ◌∙◌, arith}
use Rattle.std.specs.Int.{w32, w64, to_be_bytes, from_be_bytes}
use Rattle.bg_match.specs.Limits.{shortest_match, longest_match}
use Rattle.bg_match.specs.Terms.{match_length, rules_of}
use Rattle.bg_wire.specs.Entries.Codes.{seat_of_o, least_save, greatest_save}
use Rattle.bg_wire.specs.declared.saves.layouts.Front.{Front}
use Rattle.bg_wire.specs.declared.saves.layouts.Layout.{Layout}
use Rattle.bg_wire.specs.declared.saves.layouts.Layout.TheVariants.{One, Two}
use Rattle.bg_wire.specs.Entries.Fields.{Fields, Done, Field, followed_by}
use Rattle.bg_wire.specs.Saved.SavedLayouts.{magic_of, last_number, number_width, number_text, rules_text, AreRulesIn, claim_text, claim_fields, rules_fields, save_fields, front_fields, layout_of_magic, saved_fields}
use Rattle.bg_wire.specs.Saved.SavedText.{IsClaimIn}
use Rattle.bg_wire.specs.Saved.SavedReading.{text_of_front, front_at}
use Rattle.bg_wire.proofs.Laws.{Law, other_text, join}
use Rattle.bg_wire.proofs.Widths.{Of, IsAll, all_of_both, all_of_field}
use Rattle.bg_wire.proofs.Fields.{Long, last_fits}
use Rattle.bg_wire.proofs.EntryLaws.{Spells}
use Rattle.bg_wire.proofs.OfSaves.SavedClaims.{claim_text_all}
use Rattle.bg_wire.proofs.OfSaves.SavedFronts.{front_with, PartyOn, FrontParts, front_parts_law, magic_is, layout_is, magic_fits, magic_fields, rules_text_all, count_all}

pub record IsFront (f : Front) : Type 0 where
  pub party : f.party ≤ seat_of_o
  pub id_fits : f.id < 2 ^ 64
  pub shortest : shortest_match ≤ match_length f.terms
  pub longest : match_length f.terms ≤ longest_match
  pub rules : AreRulesIn f.layout (rules_of f.terms)
  pub first_save : least_save ≤ f.save
  pub last_save : f.save ≤ greatest_save
  pub claim : IsClaimIn f.layout f.party f.claim
  pub few : f.count ≤ last_number f.layout

front_to : (f : Front) (front : List ℕ) → FrontParts f front → Spells IsFront text_of_front f front
front_to f front h =
    let party = h.4 in let id = party.4 in let n = id.4 in
    let rules = n.4 in let save = rules.4 in let claim = save.4 in
    let m : h.0 ≡ magic_of (layout_of_magic h.0) = magic_is h.0 h.3.0 h.3.1 in
    let made : Front = front_with (layout_of_magic h.0) party.0 id.0 n.0 rules.0 save.0 claim.0 claim.4.0 in
    let text : front ≡ text_of_front made =
    join h.5 (h.3.3 ∙ ap (to_be_bytes w32) m)
    (join party.5 party.3.2
    (join id.5 id.3.1 (join n.5 n.3.2
    (join rules.5 rules.3.1 (join save.5 save.3.3 (join claim.5 claim.3.1 claim.4.1.3)))))) in
    subst (λ (x : Front). Spells IsFront text_of_front x front) claim.4.2 (
      record {
        party = party.3.1;
        id_fits = id.3.0;
        shortest = n.3.0;
        longest = n.3.1;
        rules = rules.3.0;
        first_save = save.3.0;
        last_save = save.3.1;
        claim = claim.3.0;
        few = claim.4.1.1;
      },
      text,
    )

front_from : (f : Front) (front : List ℕ) → Spells IsFront text_of_front f front → FrontParts f front
front_from f front h =
    let r = h.0 in
    let fits = last_fits f.layout in
    let count_text = number_text f.layout f.count in
    let from_claim_text = claim_text f.layout f.claim ++ count_text in
    let from_save_text = to_be_bytes w32 f.save ++ from_claim_text in
    let from_rules_text = rules_text f.layout (rules_of f.terms) ++ from_save_text in
    let from_length_text = match_length f.terms ∷ from_rules_text in
    let from_id_text = to_be_bytes w64 f.id ++ from_length_text in
    let from_party_text = f.party ∷ from_id_text in
    let parts : PartyOn f.layout f from_party_text = (
      f.party,
      f.party ∷ [],
      from_id_text,
      (omega arith, r.party, refl),
      (
        f.id,
        to_be_bytes w64 f.id,
        from_length_text,
        (r.id_fits, refl),
        (
          match_length f.terms,
          match_length f.terms ∷ [],
          from_rules_text,
          (r.shortest, r.longest, refl),
          (
            rules_of f.terms,
            rules_text f.layout (rules_of f.terms),
            from_save_text,
            (r.rules, refl),
            (
              f.save,
              to_be_bytes w32 f.save,
              from_claim_text,
              (r.first_save, r.last_save, omega (arith, r.last_save), refl),
              (
                f.claim,
                claim_text f.layout f.claim,
                count_text,
                (r.claim, refl),
                (f.count, (omega arith, r.few, omega (arith, r.few, fits), refl), refl),
                refl,
              ),
              refl,
            ),
            refl,
          ),
          refl,
        ),
        refl,
      ),
      refl,
    ) in (
      magic_of f.layout,
      to_be_bytes w32 (magic_of f.layout),
      from_party_text,
      magic_long f.layout,
      subst (λ (l : Layout). PartyOn l f from_party_text) (sym (layout_is f.layout)) parts,
      h.1,
    )
  where
    magic_long : (layout : Layout)
        → Long (magic_of One) (magic_of Two) (magic_of layout) (to_be_bytes w32 (magic_of layout))
    magic_long One = (omega arith, omega arith, omega arith, refl)
    magic_long Two = (omega arith, omega arith, omega arith, refl)

pub front_law : Law (Of saved_fields) front_at (Spells IsFront text_of_front)
front_law = other_text _ front_to front_from front_parts_law

-- what stands before the entries has just the fields
pub front_all : (f : Front) → IsAll saved_fields (text_of_front f)
front_all f =
    let layout = f.layout in
    let points = match_length f.terms in
    let which = rules_of f.terms in
    let magic_text = to_be_bytes w32 (magic_of layout) in
    let count_text = number_text layout f.count in
    let from_claim_text = claim_text layout f.claim ++ count_text in
    let from_save_text = to_be_bytes w32 f.save ++ from_claim_text in
    let from_rules_text = rules_text layout which ++ from_save_text in
    let from_id_text = to_be_bytes w64 f.id ++ (points ∷ from_rules_text) in
    let count : Fields = Field (number_width layout) (λ count. Done) in
    let from_claim : Fields = followed_by (claim_fields layout) count in
    let from_terms : Fields = Field 1 (λ terms. followed_by (rules_fields layout) (save_fields layout)) in
    let claimed : IsAll from_claim from_claim_text =
    all_of_both (claim_fields layout) count (claim_text layout f.claim) count_text (claim_text_all layout f.claim)
    (count_all layout f.count) in
    let saved : IsAll (save_fields layout) from_save_text =
    all_of_field 4 (λ save. from_claim) (to_be_bytes w32 f.save) from_claim_text (omega arith) refl claimed in
    let ruled : IsAll from_terms (points ∷ from_rules_text) = (
      omega arith,
      omega arith,
      all_of_both (rules_fields layout) (save_fields layout) (rules_text layout which) from_save_text
          (rules_text_all layout which) saved,
    ) in
    let told : IsAll (front_fields layout) (f.party ∷ from_id_text) = (
      omega arith,
      omega arith,
      all_of_field 8 (λ id. from_terms) (to_be_bytes w64 f.id) (points ∷ from_rules_text) (omega arith) refl ruled,
    ) in
    let same = magic_fields (magic_of layout) magic_text (magic_fits layout) refl
    ∙ ap (λ (l : Layout). front_fields l) (layout_is layout) in
    all_of_field 4 (λ magic. front_fields (layout_of_magic (from_be_bytes w32 magic))) magic_text
    (f.party ∷ from_id_text) (omega arith) refl
    (subst (λ (fields : Fields). IsAll fields (f.party ∷ from_id_text)) (sym same) told)
