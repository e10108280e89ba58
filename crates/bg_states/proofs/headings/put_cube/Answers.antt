use Rattle.std.proofs.Common.{append_assoc}
use Rattle.bg_states.specs.Headings.{cube_text}
use Rattle.bg_states.proofs.headings.put_cube.Goals as goal

pub returns : goal.returns
unfolding cube_text
returns c =
    rw (c.in_ok-put_owner.ensures, c.in_ok-put_number.ensures, c.into.ensures, c.in_ok-put_text.ensures) (simp append_assoc)
