use Rattle.std.proofs.Common.{◌-◌, arith}
use Rattle.bg_picture.proofs.Anchored.{one_anchor}
use Rattle.bg_picture.proofs.Numbered.{numbered}
use Rattle.bg_picture.proofs.laws.item_names_differ.Goals as goal

pub returns-clause-differ : goal.returns-clause-differ
returns-clause-differ c = one_anchor

pub returns-clause-entries : goal.returns-clause-entries
returns-clause-entries c =
    λ s t entries items h number first last. numbered 1 s entries items t h (number - 1) number (omega (arith, first, last)) (omega (arith, first))
