-- What stands in front of a room after a text was put into it.
use Rattle.std.proofs.Common.{◌≡◌, ◌∙◌, ◌+◌, ◌-◌, ◌≤◌, ◌++◌, List, ℕ, length, take, sym, ap, arith, take-take, length-take-le}
use Rattle.std.proofs.Math.Seq.{take-append-add}
use Rattle.std.proofs.lemmas.Slice.{take-put_mid}
use borrow.Rule.Slice.PartMut.{put_mid}

-- the first bytes of a list that begins with others
front_of : (before text : List ℕ) (len count : ℕ) → len ≡ length before
    → take (len + count) (before ++ text) ≡ before ++ take count text
front_of before text len count same = rw same (take-append-add before text count)

pub put_front : (room text : List ℕ) (len count : ℕ) → len + length text ≤ length room → count ≤ length text
    → take (len + count) (put_mid len (len + length text - len) room text) ≡ take len room ++ take count text
put_front room text len count fits few =
    let size = len + length text - len in
    let end = len + length text in
    sym (take-take (len + count) end (put_mid len size room text) (omega arith))
    ∙ ap (take (len + count)) (take-put_mid len size room text end (omega arith) (omega arith))
    ∙ front_of (take len room) text len count (sym (length-take-le len room (omega arith)))
