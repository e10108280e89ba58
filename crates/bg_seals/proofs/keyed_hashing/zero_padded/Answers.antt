use Rattle.std.proofs.Common.{◌++◌, length, drop, replicate, ap, ◌∙◌}
use Rattle.std.proofs.lemmas.List.{drop-replicate}
use Rattle.bg_seals.proofs.keyed_hashing.zero_padded.Goals as goal

pub returns : goal.returns
returns c = ap (λ front. front ++ drop (length c.args.key.now) (replicate 64 0)) c.copy_from_slice.ensures.after
    ∙ ap (λ rest. c.args.key.now ++ rest) (drop-replicate (length c.args.key.now) 64 0)
