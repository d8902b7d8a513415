use Rattle.group_monitors.proofs
use proofs.Words.{ap, counted, history, inl, inr, Some, sym, updates_behind, ◌++◌, ◌∙◌}
use proofs.Differences.{contents_count, counted_append, told}
use Rattle.group_monitors.proofs.laws.tells_the_listing.Goals as goal

pub returns-clause-listed : goal.returns-clause-listed
returns-clause-listed c = told

pub returns-clause-group : goal.returns-clause-group
returns-clause-group c = λ o es ks legal m at g watched p.
    ap (counted g p (updates_behind (es ++ ks) m))
    ((c.lists_ascend.ensures.members (history o ks) m.scope g).counts p)
    ∙ told o es ks legal m at g (inl watched) p
    ∙ ap Some (sym ((c.lists_ascend.ensures.members (history o (es ++ ks)) m.scope g).counts p))

pub returns-clause-scope : goal.returns-clause-scope
returns-clause-scope c = λ o es ks legal m at watched g p.
    let k = history o ks in
    let h = history o (es ++ ks) in
    ap (counted g p (updates_behind (es ++ ks) m)) (contents_count k m.scope g p
    (c.lists_ascend.ensures.members k m.scope g) (c.lists_ascend.ensures.groups k m.scope))
    ∙ told o es ks legal m at g (inr watched) p
    ∙ ap Some (sym (contents_count h m.scope g p (c.lists_ascend.ensures.members h m.scope g)
    (c.lists_ascend.ensures.groups h m.scope)))

pub returns-clause-parts : goal.returns-clause-parts
returns-clause-parts c = counted_append
