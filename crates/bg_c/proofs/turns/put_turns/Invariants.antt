use Rattle.std.proofs.Common.{◌≡◌, take}
use Rattle.bg_c.specs.Turns.{turns_text}
use Rattle.bg_c.proofs.turns.put_turns.Given as goal

abbrev pub invariant-loop-turn : goal.invariant-loop-turn
invariant-loop-turn l = l.text.items ≡ turns_text (take l.turn-index l.turns)
