use Rattle.std.proofs.Common.{◌≡◌, take, refl, ◌∙◌}
use Rattle.std.proofs.lemmas.Result.{MatchResult-at_ok}
use Rattle.base64.specs.Engines.{standard_no_pad}
use Rattle.base64.specs.GeneralPurpose.{encode_of}
use Rattle.base64.proofs.EngineFacts.{encoded_prefix}
use Rattle.bg_ids.proofs.Texts.{encoded_utf8, is_read}
use Rattle.bg_ids.specs.Bits.{bits_text}
use Rattle.bg_ids.proofs.bits.text_of.Goals as goal

pub unwrap-text-requires : goal.unwrap-text-requires
unwrap-text-requires c =
    let written = rw c.unwrap-len.ensures at c.encode_slice.ensures.written in
    let front : take c.unwrap-len.result c.encode_slice.new.output ≡ encode_of standard_no_pad c.as_slice.result.now =
    encoded_prefix _ _ _ _ _ _ _ c.encode_slice.auto.output c.encode_slice.ensures.fits c.encode_slice.ensures.too_small c.unwrap-len.ensures written in
    is_read _ _ _ _ c.from_utf8.ensures.cases (encoded_utf8 _ c.as_slice.result.now front)

pub returns : goal.returns
unfolding bits_text
returns c =
    let written = rw c.unwrap-len.ensures at c.encode_slice.ensures.written in
    let front : take c.unwrap-len.result c.encode_slice.new.output ≡ encode_of standard_no_pad c.as_slice.result.now =
    encoded_prefix _ _ _ _ _ _ _ c.encode_slice.auto.output c.encode_slice.ensures.fits c.encode_slice.ensures.too_small c.unwrap-len.ensures written in
    let read : c.unwrap-text.result.now ≡ take c.unwrap-len.result c.encode_slice.new.output =
    (MatchResult-at_ok _ _ _ c.unwrap-text.ensures c.from_utf8.ensures.cases).0 in
    let copied = rw c.unwrap.ensures at c.from.ensures.ok in
    copied ∙ read ∙ front ∙ rw (c.as_slice.ensures.value, c.bytes_of-bytes.ensures) refl
