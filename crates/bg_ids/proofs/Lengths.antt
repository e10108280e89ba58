-- How many characters IDs have.
use Rattle.std.proofs.Common.{◌≡◌, ◌+◌, ◌*◌, ◌/◌, ℕ, Bool, List, length, ap, ◌∙◌}
use Rattle.std.proofs.lemmas.List.{append-nil}
use Rattle.base64.specs.Rfc4648.{encode_symbols, unpadded_len}
use Rattle.base64.proofs.RoundTrip.{length-encode_symbols}
use Rattle.base64.specs.Engines.{standard_no_pad}
use Rattle.bg_ids.specs.Bits.{bits_bytes, bits_text}
use Rattle.bg_ids.proofs.Numbers.{length-bits_bytes}

pub length-text : (count : ℕ) (bits : List Bool) → length (bits_text count bits) ≡ (4 * count + 2) / 3
unfolding bits_text
length-text count bits =
    ap length (append-nil (encode_symbols standard_no_pad.encode_table (bits_bytes count bits)))
    ∙ length-encode_symbols standard_no_pad.encode_table (bits_bytes count bits)
    ∙ ap unpadded_len (length-bits_bytes count bits)
