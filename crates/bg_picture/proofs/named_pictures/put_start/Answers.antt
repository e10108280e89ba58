use Rattle.std.specs.Prelude.{codes}
use Rattle.bg_picture.specs.NamedPictures.{labelled_frame, labelled_start}
use Rattle.bg_picture.specs.Pictures.{titles_text}
use Rattle.bg_picture.proofs.Parts.{three_parts}
use Rattle.bg_picture.proofs.named_pictures.put_start.Goals as goal

pub returns : goal.returns
unfolding labelled_start
returns c =
    three_parts (codes "<svg xmlns='http://www.w3.org/2000/svg'") labelled_frame (titles_text c.args.standing.now c.args.reader) _ _ _ _
    c.in_ok-put_text.ensures c.in_ok-put_frame.ensures c.in_ok-put_titles.ensures
