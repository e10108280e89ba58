use Rattle.std.specs.Prelude.{codes}
use Rattle.bg_picture.specs.Indexes.{match_title, match_words, points_text}
use Rattle.bg_picture.specs.Descriptions.{phase_words}
use Rattle.bg_picture.proofs.Parts.{four_parts}
use Rattle.bg_picture.proofs.indexes.put_match_words.Goals as goal

pub returns : goal.returns
unfolding match_words
returns c =
    four_parts (match_title c.args.title.now) (points_text c.args.standing.now) (codes ", ") (phase_words c.args.standing.now) _ _ _ _ _
    c.in_ok-put_match_title.ensures c.in_ok-put_points.ensures c.in_ok-put_text.ensures c.in_ok-put_phase_words.ensures
