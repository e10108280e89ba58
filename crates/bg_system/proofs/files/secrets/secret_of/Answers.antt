use Rattle.bg_system.proofs.Secrets.{secret_is}
use Rattle.bg_system.proofs.files.secrets.secret_of.Goals as goal

pub returns : goal.returns
returns g c =
    let first = rw (c.new-bytes.ensures.items, c.take.ensures.limit, c.take.ensures.inner) at
    c.in_ok-read_to_end.ensures.bytes in
    secret_is (g.R.Read.remaining c.args.reader) c.read_to_end.new.buf.items c.secret_in.result _ first
    (rw c.deref.ensures.value at c.secret_in.ensures)
