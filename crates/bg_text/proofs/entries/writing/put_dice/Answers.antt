use Rattle.bg_text.proofs.Spelling.WrittenNumbers.{pair_written}
use Rattle.bg_text.proofs.entries.writing.put_dice.Goals as goal

pub returns-clause-bytes : goal.returns-clause-bytes
returns-clause-bytes c =
    pair_written _ _ _ _ _ _ _ _ c.pips.ensures.value c.pips-2.ensures.value c.pips.ensures.greatest c.pips-2.ensures.greatest
    c.put_digit.ensures.bytes c.push_str.ensures.bytes c.put_digit-2.ensures.bytes
