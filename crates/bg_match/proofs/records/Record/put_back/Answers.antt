use Rattle.std.proofs.Common.{◌-◌, List, ap, sym}
use Rattle.std.specs.Prelude.{vec_capacity, vec_len}
use Rattle.std.proofs.lemmas.List.{take-map}
use Rattle.bg_match.specs.declared.entries.Entry.{Entry}
use Rattle.bg_match.proofs.Kept.{IsKept-front, kept_log}
use Rattle.bg_match.proofs.records.Record.put_back.Goals as goal

pub invariant_of-self : goal.invariant_of-self
invariant_of-self c =
    rw c.truncate.ensures.items
    (IsKept-front _ c.self.inside.made.items c.args.held _ c.args.standing c.self.invariant
    (rw (← c.self.view_is) at c.requires.within) (rw (← c.self.view_is) at c.requires.stands))

pub returns-clause-back : goal.returns-clause-back
returns-clause-back c =
    rw (← c.self.view_is, c.truncate.ensures.items)
    (ap (λ (l : List Entry). record {
      id = c.self.inside.id;
      terms = c.self.inside.terms;
      entries = l;
      spare = vec_capacity c.truncate.new.self - vec_len c.truncate.new.self;
    }) (sym (take-map (λ m. m.entry) c.args.held c.self.inside.made.items)))

pub returns-clause-log : goal.returns-clause-log
returns-clause-log c = kept_log _ _ _ _ _ _ (invariant_of-self c)
