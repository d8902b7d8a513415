use Rattle.admission_rules.proofs
use Rattle.std.proofs.Common.{sym, ◌∙◌}
use proofs.NameLists.{absent_from_both}
use proofs.allow_list.is_new.Goals as goal

pub returns-then-not-contains : goal.returns-then-not-contains
returns-then-not-contains c = absent_from_both c.args.name.now c.args.before.now
    c.args.allowed.now.keys _ (sym c.contains.ensures ∙ c.if-not-contains.true)
    c.contains-then-not-contains.ensures.value
