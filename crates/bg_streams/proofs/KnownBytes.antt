-- What is read of known bytes.
use Rattle.std.proofs.Common.{◌≡◌, ℕ, ◌+◌, ◌≤◌, List, [], ◌++◌, length, take, Option, Some, None, IfSome, sym, ◌∙◌, ap}
use Rattle.std.proofs.Common.{append-nil}
use Rattle.std.proofs.lemmas.List.{take_all, take_at}
use Rattle.std.specs.Io.KnownBytes.{Consumes, IsAtEnd}
use Rattle.bg_streams.specs.Transfers.{IsReadOf}

-- no byte is left
pub read_to_end : (most : ℕ) (u v w : Option (List ℕ)) (input : List ℕ) → Consumes u v input → Consumes v w []
    → IsAtEnd w → length input ≤ most + 1 → IfSome u (IsReadOf most input)
read_to_end most None v w input front none end few = tt
read_to_end most (Some xs) None w input front none end few = absurd front
read_to_end most (Some xs) (Some ys) None input front none end few = absurd none
read_to_end most (Some xs) (Some ys) (Some zs) input front none end few =
    let whole : xs ≡ input = front ∙ ap (λ ys. input ++ ys) (none ∙ end) ∙ append-nil input in
    sym (ap (take (most + 1)) whole ∙ take_all (most + 1) input few)

-- as many bytes as are read at most
pub read_to_limit : (most : ℕ) (u v : Option (List ℕ)) (input : List ℕ) → Consumes u v input
    → length input ≡ most + 1 → IfSome u (IsReadOf most input)
read_to_limit most None v input front all = tt
read_to_limit most (Some xs) None input front all = absurd front
read_to_limit most (Some xs) (Some ys) input front all =
    sym (ap (take (most + 1)) front ∙ take_at input ys (most + 1) all)
