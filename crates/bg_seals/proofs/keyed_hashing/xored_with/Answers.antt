use Rattle.std.proofs.Common.{◌≡◌, ℕ, ◌+◌, ◌<◌, ◌≤◌, List, ◌++◌, get_or, set, take, drop, map, length, bit_xor, ap, ◌∙◌}
use Rattle.std.proofs.Common.{arith}
use Rattle.std.proofs.lemmas.List.{get_or_default, length-append, length-map, length-take-le, length-drop}
use Rattle.std.proofs.lemmas.List.Edits.{map_over_more}
use Rattle.bg_seals.proofs.keyed_hashing.xored_with.Goals as goal

mapped_more : (f : ℕ → ℕ) (xs ys : List ℕ) (i : ℕ) → i < length xs
    → ys ≡ map f (take i xs) ++ drop i xs
    → set ys i (f (get_or ys i 0)) ≡ map f (take (i + 1) xs) ++ drop (i + 1) xs
mapped_more f xs ys i p e =
    let within : i ≤ length xs = omega arith in
    let front : length (map f (take i xs)) ≡ i =
    length-map (take i xs) f ∙ length-take-le i xs within in
    let long : length ys ≡ length xs =
    ap length e ∙ omega (arith, length-append (map f (take i xs)) (drop i xs), front, length-drop i xs) in
    map_over_more f xs ys i (get_or ys i 0) p e (get_or_default ys i 0 _ (omega (arith, long)))

pub loop-byte-preserved : goal.loop-byte-preserved
loop-byte-preserved c =
    let xored : ℕ → ℕ = λ byte. bit_xor byte c.args.pad_byte in
    mapped_more xored c.args.block.now c.loop-byte.byte-items c.loop-byte.byte-index (omega arith) c.loop-byte.invariant
