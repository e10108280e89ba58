-- The names of items.
use Rattle.std.proofs.Common.{◌≡◌, ◌<◌, ◌^◌, get_or, ap, arith, drop}
use Rattle.std.proofs.lemmas.Fmt.{decimal_injective}
use Rattle.bg_picture.specs.Items.{anchor_text}
use Rattle.bg_picture.specs.Laws.{anchor_number}
use Rattle.bg_picture.specs.declared.anchors.Anchor.{Anchor}
use Rattle.bg_picture.specs.declared.anchors.Anchor.TheVariants.{Start, Entry, Result}

pub one_anchor : (a b : Anchor) → anchor_number a < 2 ^ 64 → anchor_number b < 2 ^ 64 → anchor_text a ≡ anchor_text b → a ≡ b
unfolding anchor_text
one_anchor (Start m) (Start n) h k e = ap Start (decimal_injective m n h k (ap (drop 5) e))
one_anchor (Start m) (Entry n) h k e =
    let f : 115 ≡ 112 = ap (λ l. get_or l 0 0) e in
    absurd (omega (arith, f))
one_anchor (Start m) (Result n) h k e =
    let f : 115 ≡ 114 = ap (λ l. get_or l 0 0) e in
    absurd (omega (arith, f))
one_anchor (Entry m) (Start n) h k e =
    let f : 112 ≡ 115 = ap (λ l. get_or l 0 0) e in
    absurd (omega (arith, f))
one_anchor (Entry m) (Entry n) h k e = ap Entry (decimal_injective m n h k (ap (drop 1) e))
one_anchor (Entry m) (Result n) h k e =
    let f : 112 ≡ 114 = ap (λ l. get_or l 0 0) e in
    absurd (omega (arith, f))
one_anchor (Result m) (Start n) h k e =
    let f : 114 ≡ 115 = ap (λ l. get_or l 0 0) e in
    absurd (omega (arith, f))
one_anchor (Result m) (Entry n) h k e =
    let f : 114 ≡ 112 = ap (λ l. get_or l 0 0) e in
    absurd (omega (arith, f))
one_anchor (Result m) (Result n) h k e = ap Result (decimal_injective m n h k (ap (drop 6) e))
