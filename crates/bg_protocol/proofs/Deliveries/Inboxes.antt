-- The texts of an inbox: how they grow, and where each of them stands.
use Rattle.std.proofs.Common.{◌≡◌, ◌≤◌, ◌<◌, ℕ, zero, suc, ◌+◌, ◌-◌, List, [], ◌∷◌, ◌++◌, Option, Some, refl, ap, arith}
use Rattle.std.proofs.Common.{length, drop, get_or, length-drop}
use Rattle.std.proofs.lemmas.List.{take-append-le, drop-append-le, length-take}
use Rattle.std.proofs.lemmas.Option.{slice_get_read}
use Rattle.std.proofs.Math.Seq.{drop-append_seam, take-length}
use Rattle.std.specs.Prelude.{slice_get}
use Rattle.bg_protocol.specs.Devices.Inboxes.{AreEnds, text_between, texts_from}

-- the first text begins no later than the bytes end
begins_within : (from : ℕ) (ends : List ℕ) (count : ℕ) → AreEnds from ends count → from ≤ count
begins_within from [] count h = omega (arith, h)
begins_within from (end ∷ ends) count h = omega (arith, h.0, begins_within end ends count h.2)

-- bytes behind a text change nothing of it
text_between-append : (from to : ℕ) (bytes more : List ℕ) → from ≤ to → to ≤ length bytes
    → text_between from to (bytes ++ more) ≡ text_between from to bytes
text_between-append from to bytes more h within =
    let begins : from ≤ length bytes = omega (arith, h, within) in
    let fits : to - from ≤ length (drop from bytes) = omega (arith, h, within, length-drop from bytes) in
    rw (drop-append-le from bytes more begins) (take-append-le (to - from) (drop from bytes) more fits)

pub text_between-few : (from to : ℕ) (bytes : List ℕ) → to ≤ from + 128 → length (text_between from to bytes) ≤ 128
text_between-few from to bytes few = omega (arith, few, length-take (to - from) (drop from bytes))

text_between-seam : (bytes text : List ℕ)
    → text_between (length bytes) (length bytes + length text) (bytes ++ text) ≡ text
text_between-seam bytes text =
    let size : (length bytes + length text) - length bytes ≡ length text = omega arith in
    rw (drop-append_seam bytes text, size) (take-length text)

-- one text more stands behind the others
pub texts_from-push : (from : ℕ) (ends bytes text : List ℕ) → AreEnds from ends (length bytes)
    → texts_from from (ends ++ (length bytes + length text) ∷ []) (bytes ++ text)
    ≡ texts_from from ends bytes ++ text ∷ []
texts_from-push from [] bytes text h = rw h (ap (λ (t : List ℕ). t ∷ []) (text_between-seam bytes text))
texts_from-push from (end ∷ ends) bytes text h =
    let same = text_between-append from end bytes text h.0 (begins_within end ends (length bytes) h.2) in
    rw (same, texts_from-push end ends bytes text h.2) refl

pub AreEnds-push : (from : ℕ) (ends : List ℕ) (count size : ℕ) → AreEnds from ends count → size ≤ 128
    → AreEnds from (ends ++ (count + size) ∷ []) (count + size)
AreEnds-push from [] count size h few = (omega (arith, h), omega (arith, h, few), refl)
AreEnds-push from (end ∷ ends) count size h few = (h.0, h.1, AreEnds-push end ends count size h.2 few)

pub length-texts_from : (from : ℕ) (ends bytes : List ℕ) → length (texts_from from ends bytes) ≡ length ends
length-texts_from from [] bytes = refl
length-texts_from from (end ∷ ends) bytes = ap suc (length-texts_from end ends bytes)

-- of the text that ends there, where it begins and what it is
pub record TextAt (from : ℕ) (ends bytes : List ℕ) (i end : ℕ) : Type 0 where
  pub rises : get_or (from ∷ ends) i 0 ≤ end
  pub few : end ≤ get_or (from ∷ ends) i 0 + 128
  pub within : end ≤ length bytes
  pub found : slice_get (texts_from from ends bytes) i ≡ Some (text_between (get_or (from ∷ ends) i 0) end bytes)

some_is : (x y : ℕ) → (let o : Option ℕ = Some x in o) ≡ Some y → x ≡ y
some_is x y e = cc

pub text_at : (from : ℕ) (ends bytes : List ℕ) (i end : ℕ) → AreEnds from ends (length bytes)
    → slice_get ends i ≡ Some end → TextAt from ends bytes i end
text_at from [] bytes i end h e = absurd cc
text_at from (first ∷ ends) bytes zero end h e =
    let same = some_is first end e in
    rw (← same) (record {
      rises = h.0;
      few = h.1;
      within = begins_within first ends (length bytes) h.2;
      found = refl;
    })
text_at from (first ∷ ends) bytes (suc i) end h e =
    let t = text_at first ends bytes i end h.2 e in
    record { rises = t.rises; few = t.few; within = t.within; found = t.found }

-- the same where a look-up gave the end
pub text_read : (ends bytes seen : List ℕ) (i end : ℕ) → AreEnds 0 ends (length bytes) → seen ≡ ends
    → i < length seen → end ≡ get_or seen i end → TextAt 0 ends bytes i end
text_read ends bytes seen i end are same within read =
    text_at 0 ends bytes i end are (rw same at (slice_get_read seen (length seen) i end refl within read))
