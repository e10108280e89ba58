use Rattle.std.proofs.Common.{[], ◌∷◌, ◌++◌, ap, ◌∙◌}
use Rattle.bg_seals.specs.Hmac.{hmac_sha256}
use Rattle.bg_seals.specs.Keys.{key_label}
use Rattle.bg_seals.proofs.secrets.MasterSecret.key_of.Goals as goal

pub returns : goal.returns
returns c =
    let secret = c.self.inside.key in
    let labelled = c.update.ensures secret _ c.hasher-hasher.ensures in
    let held = c.update-3.ensures secret _ (c.update-2.ensures secret _ labelled) in
    rw (← c.self.view_is)
    (c.new.ensures
    ∙ c.finalize.ensures secret _ held
    ∙ ap (λ id. hmac_sha256 secret ((key_label ++ id) ++ c.args.party ∷ [])) c.to_be_bytes.ensures)
