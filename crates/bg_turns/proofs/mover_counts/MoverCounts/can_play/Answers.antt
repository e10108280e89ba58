use Rattle.std.proofs.Common.{◌≡◌, ◌<◌, arith, sym, get_or}
use Rattle.std.proofs.lemmas.Bool.Decides.{nat_tests}
use Rattle.bg_turns.proofs.Sides.{can-empty, can-bar, can-point, can-bear_off, below_highest}
use Rattle.bg_turns.proofs.mover_counts.MoverCounts.can_play.Goals as goal
use Rattle.bg_turns.proofs.mover_counts.MoverCounts.can_play.Goals.{else-from-ne-BAR-via-then-from-ne-BAR+else-self-from-gt0, else-from-ne-BAR-via-else-from-ne-BAR}

pub returns-then-self-from-eq0 : goal.returns-then-self-from-eq0
returns-then-self-from-eq0 c = sym (can-empty _ _ _ (rw c.from.ensures at c.if-self-from-eq0.true))

pub returns-then-self-from-gt0 : goal.returns-then-self-from-gt0
returns-then-self-from-gt0 c =
    let on = rw c.from-then-from-ne-BAR.ensures at c.if-self-from-gt0.true in
    sym (can-bar c.args.self.now c.args.from c.args.die on c.if-from-ne-BAR.true)

pub returns-then-from-die : goal.returns-then-from-die
returns-then-from-die c =
    let held = rw c.from.ensures at c.if-self-from-eq0.false in
    let enters : 0 < get_or c.args.self.now.own 25 0 → c.args.from ≡ 25 = elim c.else-from-ne-BAR.branch [
      | else-from-ne-BAR-via-then-from-ne-BAR+else-self-from-gt0 w ↦ λ on. absurd (let none = rw w.from-then-from-ne-BAR.ensures at w.if-self-from-gt0.false in omega arith)
      | else-from-ne-BAR-via-else-from-ne-BAR w ↦ λ on. w.if-from-ne-BAR.false
    ] in
    rw c.from-then-from-die.ensures (sym (can-point c.args.self.now c.args.from c.args.die (omega arith) enters c.if-from-die.true))

pub returns-then-from-die-2 : goal.returns-then-from-die-2
returns-then-from-die-2 c =
    let held = rw c.from.ensures at c.if-self-from-eq0.false in
    let enters : 0 < get_or c.args.self.now.own 25 0 → c.args.from ≡ 25 = elim c.else-from-ne-BAR.branch [
      | else-from-ne-BAR-via-then-from-ne-BAR+else-self-from-gt0 w ↦ λ on. absurd (let none = rw w.from-then-from-ne-BAR.ensures at w.if-self-from-gt0.false in omega arith)
      | else-from-ne-BAR-via-else-from-ne-BAR w ↦ λ on. w.if-from-ne-BAR.false
    ] in
    let low = below_highest c.args.self.now.own c.highest-highest.result c.args.from c.highest-highest.ensures.highest (omega arith) in
    let is = can-bear_off c.args.self.now c.args.from c.args.die c.highest-highest.result c.requires.mover.points c.highest-highest.ensures.highest (omega arith) enters c.if-from-die.false low c.requires.low in
    let home = c.if-highest-le-HOME.true in
    let same = c.if-from-die-2.true in
    rw is (grind (arith, nat_tests))

pub returns-else-from-die-2 : goal.returns-else-from-die-2
returns-else-from-die-2 c =
    let held = rw c.from.ensures at c.if-self-from-eq0.false in
    let enters : 0 < get_or c.args.self.now.own 25 0 → c.args.from ≡ 25 = elim c.else-from-ne-BAR.branch [
      | else-from-ne-BAR-via-then-from-ne-BAR+else-self-from-gt0 w ↦ λ on. absurd (let none = rw w.from-then-from-ne-BAR.ensures at w.if-self-from-gt0.false in omega arith)
      | else-from-ne-BAR-via-else-from-ne-BAR w ↦ λ on. w.if-from-ne-BAR.false
    ] in
    let low = below_highest c.args.self.now.own c.highest-highest.result c.args.from c.highest-highest.ensures.highest (omega arith) in
    let is = can-bear_off c.args.self.now c.args.from c.args.die c.highest-highest.result c.requires.mover.points c.highest-highest.ensures.highest (omega arith) enters c.if-from-die.false low c.requires.low in
    let home = c.if-highest-le-HOME.true in
    let other = c.if-from-die-2.false in
    rw is (grind (arith, nat_tests))

pub returns-else-highest-le-HOME : goal.returns-else-highest-le-HOME
returns-else-highest-le-HOME c =
    let held = rw c.from.ensures at c.if-self-from-eq0.false in
    let enters : 0 < get_or c.args.self.now.own 25 0 → c.args.from ≡ 25 = elim c.else-from-ne-BAR.branch [
      | else-from-ne-BAR-via-then-from-ne-BAR+else-self-from-gt0 w ↦ λ on. absurd (let none = rw w.from-then-from-ne-BAR.ensures at w.if-self-from-gt0.false in omega arith)
      | else-from-ne-BAR-via-else-from-ne-BAR w ↦ λ on. w.if-from-ne-BAR.false
    ] in
    let low = below_highest c.args.self.now.own c.highest-highest.result c.args.from c.highest-highest.ensures.highest (omega arith) in
    let is = can-bear_off c.args.self.now c.args.from c.args.die c.highest-highest.result c.requires.mover.points c.highest-highest.ensures.highest (omega arith) enters c.if-from-die.false low c.requires.low in
    let out = c.if-highest-le-HOME.false in
    rw is (grind (arith, nat_tests))
