use Rattle.std.proofs.Common.{ap, arith, length, length-take-le}
use Rattle.bg_wire.proofs.Written.{put_front}
use Rattle.bg_wire.proofs.entries.writer.Writer.put_first.Goals as goal

pub returns : goal.returns
returns g c =
    let before = length-take-le c.self.inside.len c.self.inside.room (omega arith) in
    rw (← c.self.view_is, c.copy_from_slice.ensures.after)
    (put_front c.self.inside.room c.args.bytes.now c.self.inside.len c.args.count
    (omega (arith, c.requires.room, before, ap length c.self.view_is)) c.requires.counted)
