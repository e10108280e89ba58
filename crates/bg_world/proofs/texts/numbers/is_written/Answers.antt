use Rattle.std.proofs.Common.{◌≡◌, get_or, rules, tests}
use Rattle.bg_world.proofs.Lines.Digits.{written_digits, no_zero_first}
use Rattle.bg_world.proofs.texts.numbers.is_written.Goals as goal

pub returns-then-word-eq1 : goal.returns-then-word-eq1
returns-then-word-eq1 c = (
  λ t.
      written_digits _ _ c.requires.digits.digits c.requires.digits.some c.requires.digits.ten c.requires.value
      (λ z. c.if-word-eq1.true),
  λ e. search (rules, tests, c.if-word-eq1.true),
)

pub returns-else-word-eq1 : goal.returns-else-word-eq1
returns-else-word-eq1 c = (
  λ t.
      written_digits _ _ c.requires.digits.digits c.requires.digits.some c.requires.digits.ten c.requires.value
      (λ z. search (rules, tests, t, z)),
  λ e.
      let other : get_or c.args.word.now 0 0 ≡ 48 → ⊥ =
      λ z. c.if-word-eq1.false (no_zero_first _ _ e c.ranges.number.fits z) in
      search (rules, tests, other),
)
