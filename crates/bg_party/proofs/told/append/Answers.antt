use Rattle.bg_party.proofs.Following.{appended}
use Rattle.bg_party.proofs.told.append.Goals as goal

pub unwrap-requires : goal.unwrap-requires
unwrap-requires c =
    appended c.extend.result c.args.log.now c.args.new.now c.extend.ensures.fault c.requires.room c.requires.legal
