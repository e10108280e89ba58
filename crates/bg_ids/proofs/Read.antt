-- What is read of a Position ID.
use Rattle.std.proofs.Common.{◌≡◌, ◌+◌, ◌-◌, ◌*◌, ◌/◌, ℕ, Bool, List, ◌++◌, length, get_or, refl, ap, sym, ◌∙◌, arith}
use mir.Val.{Fits}
use Rattle.std.specs.Int.{w8}
use Rattle.std.specs.List.{flat_map}
use Rattle.std.specs.declared.result.Result.TheVariants.{Ok, Err}
use Rattle.std.proofs.lemmas.List.{append-nil}
use Rattle.base64.specs.Rfc4648.{encode_symbols}
use Rattle.base64.proofs.RoundTrip.{length-encode_symbols}
use Rattle.base64.specs.Engines.{standard_no_pad}
use Rattle.base64.specs.GeneralPurpose.{encode_of, decode_of}
use Rattle.base64.proofs.EngineFacts.{decode_of-encode_of, decode_of_strict}
use Rattle.bg_board.specs.Position.{Position, IsPosition}
use Rattle.bg_ids.specs.Bits.{number_bits, bits_bytes, bits_text}
use Rattle.bg_ids.specs.PositionIds.{position_bits, position_text, IsOfTenBytes, HasBits}
use Rattle.bg_ids.proofs.Inverses.{zeros, bits_of_bytes, bytes_small, same_bytes}
use Rattle.bg_ids.proofs.Numbers.{length-bits_bytes}
use Rattle.bg_ids.proofs.Sides.{position_room}

-- how many characters bytes have
pub length-encoded : (bytes : List ℕ) → length (encode_of standard_no_pad bytes) ≡ (4 * length bytes + 2) / 3
length-encoded bytes =
    ap length (append-nil (encode_symbols standard_no_pad.encode_table bytes)) ∙ length-encode_symbols standard_no_pad.encode_table bytes

-- ten bytes have fourteen characters
pub ten_long : (text : List ℕ) → IsOfTenBytes text → length text ≡ 14
ten_long text ten =
    let is = ten.1 in
    ap length is.same ∙ length-encoded ten.0 ∙ ap (λ k. (4 * k + 2) / 3) is.ten

-- what does not decode is no ten bytes
pub none_decode : (text : List ℕ) → (e : _) → decode_of standard_no_pad text ≡ Err e → IsOfTenBytes text → ⊥
none_decode text e fails ten =
    let is = ten.1 in
    let decodes = decode_of-encode_of standard_no_pad ten.0 refl is.small in
    let both = sym decodes ∙ ap (decode_of standard_no_pad) (sym is.same) ∙ fails in
    absurd (cc both)

-- a Position ID is ten bytes
pub position_ten : (b : Position) (p : _) (text : List ℕ) → text ≡ position_text b p → IsOfTenBytes text
unfolding bits_text
position_ten b p text e = (
  bits_bytes 10 (position_bits b p),
  record { small = bytes_small 10 (position_bits b p); ten = length-bits_bytes 10 (position_bits b p); same = e },
)

-- and their bits are those of the position
pub position_read : (b : Position) (p : _) (text : List ℕ) (bits : List Bool) → IsPosition b → text ≡ position_text b p → HasBits text bits
    → (rest : List Bool) × (bits ≡ position_bits b p ++ rest)
unfolding bits_text
position_read b p text bits is e has =
    let x : ℕ = 80 - length (position_bits b p) in
    let bytes = same_bytes has.0 (bits_bytes 10 (position_bits b p)) has.1.small (bytes_small 10 (position_bits b p)) (sym has.1.same ∙ e) in
    (zeros x, has.2 ∙ ap (flat_map (number_bits 8)) bytes ∙ bits_of_bytes 10 (position_bits b p) x (omega (arith, position_room b p is)))

-- what decodes to bytes is of these
pub decoded_same : (text bytes : List ℕ) → ((i : ℕ) → Fits w8 (get_or text i 0)) → decode_of standard_no_pad text ≡ Ok bytes
    → text ≡ encode_of standard_no_pad bytes
decoded_same text bytes small decodes = decode_of_strict standard_no_pad text bytes (refl, refl) (λ i. omega (arith, small i)) decodes

-- fourteen characters are of ten
pub decoded_ten : (text bytes : List ℕ) → length text ≡ 14 → text ≡ encode_of standard_no_pad bytes → length bytes ≡ 10
decoded_ten text bytes long same = omega (arith, long, ap length same, length-encoded bytes)
