use Rattle.std.specs.Prelude.{codes}
use Rattle.bg_picture.specs.Captions.{result_words}
use Rattle.bg_picture.specs.Items.{told_result}
use Rattle.bg_picture.proofs.Parts.{three_parts}
use Rattle.bg_picture.proofs.items.put_told_result.Goals as goal

pub returns : goal.returns
unfolding told_result
returns c =
    three_parts (codes "result<span>: ") (result_words c.args.end.now.win c.args.end.now.standing) (codes "</span>") _ _ _ _
    c.in_ok-put_text.ensures c.in_ok-put_result.ensures c.in_ok-put_text-2.ensures
