use Rattle.std.proofs.Common.{ℕ, List, ◌++◌, length, ap, ◌∙◌}
use Rattle.std.proofs.lemmas.List.{drop-replicate}
use Rattle.bg_wire.specs.Entries.Codes.{longest_datagram}
use Rattle.bg_c.proofs.datagrams.padded.Goals as goal

pub returns : goal.returns
returns c =
    let text = c.args.text.now in
    c.put_front.ensures ∙ ap (λ (behind : List ℕ). text ++ behind) (drop-replicate (length text) longest_datagram 0)
