use Rattle.bg_world.proofs.Lines.EventFaults.{not_three_words, take_read}
use Rattle.bg_world.proofs.texts.event_lines.read_take.Goals as goal

pub returns-in-None : goal.returns-in-None
returns-in-None c = not_three_words c.args.rest.now c.in-None.ensures

pub returns-in-Some : goal.returns-in-Some
returns-in-Some c =
    take_read c.args.rest.now c.in-Some.party.now c.in-Some.pick.now c.in-Some.word.now c.read_party.result
    c.read_word.result c.read_word-in-Some.result c.take_of.result c.in-Some.ensures c.read_party.ensures
    c.read_word.ensures c.read_word-in-Some.ensures c.take_of.ensures
