use Rattle.bg_typed.proofs.ReadWords.{all_read, all_too_many, word_read, word_refused, word_too_many}
use Rattle.bg_typed.proofs.words.read_legs.Goals as goal

pub loop-word-preserved-in-Ok : goal.loop-word-preserved-in-Ok
loop-word-preserved-in-Ok c =
    word_read c.args.text.now c.loop-word.rest.now c.in-Some.word.now c.in-Some.behind.now c.loop-word.legs.items
    c.add_word.new.legs.items c.loop-word.too_many c.loop-word.invariant c.in-Some.ensures c.in-Ok.ensures.added

pub loop-word-preserved : goal.loop-word-preserved
loop-word-preserved c =
    word_too_many c.args.text.now c.loop-word.rest.now c.in-Some.word.now c.in-Some.behind.now c.loop-word.legs.items
    c.add_word.new.legs.items c.loop-word.too_many c.loop-word.invariant c.in-Some.ensures
    (rw c.in-Err-TooMany.field-0-is at c.in-Err-TooMany.ensures.fault)

pub returns-in-Err-NotAMovement-clause-fault : goal.returns-in-Err-NotAMovement-clause-fault
returns-in-Err-NotAMovement-clause-fault c =
    word_refused c.args.text.now c.loop-word.rest.now c.in-Some.word.now c.in-Some.behind.now c.loop-word.legs.items
    c.loop-word.too_many c.loop-word.invariant c.in-Some.ensures
    (rw c.in-Err-NotAMovement.field-0-is at c.in-Err-NotAMovement.ensures.fault)

pub returns-then-too_many-clause-fault : goal.returns-then-too_many-clause-fault
returns-then-too_many-clause-fault c =
    all_too_many c.args.text.now c.loop-word.rest.now c.loop-word.legs.items (rw c.if-too_many.true at c.loop-word.invariant)
    (rw c.in_default.is at c.split_word.ensures)

pub returns-else-too_many-clause-told : goal.returns-else-too_many-clause-told
returns-else-too_many-clause-told c =
    all_read c.args.text.now c.loop-word.rest.now c.loop-word.legs.items (rw c.if-too_many.false at c.loop-word.invariant)
    (rw c.in_default.is at c.split_word.ensures)
