use Rattle.std.proofs.Common.{[], ◌∷◌, ◌++◌, take, ap, ◌∙◌}
use Rattle.bg_seals.specs.Hmac.{hmac_sha256}
use Rattle.bg_seals.specs.Datagrams.{seal_label, tag, tag_bytes}
use Rattle.bg_seals.proofs.keys.Key.tag.Goals as goal

pub returns : goal.returns
unfolding tag
returns c =
    let key = c.args.self.now in
    let labelled = c.update.ensures key _ c.hasher-hasher.ensures in
    let held = c.update-3.ensures key _ (c.update-2.ensures key _ labelled) in
    c.truncated.ensures
    ∙ ap (take tag_bytes) (c.finalize.ensures key _ held)
    ∙ ap (λ d. take tag_bytes (hmac_sha256 key ((seal_label ++ d ∷ c.args.party ∷ []) ++ c.args.packet.now)))
    c.byte.ensures
