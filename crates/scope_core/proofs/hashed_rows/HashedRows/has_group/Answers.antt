use Rattle.scope_core.proofs
use proofs.Words
use Words.{ap, arith, Bool, false, has_members, is_some, not, ProcessKey, refl, sym, true, ◌∙◌, ◌≡◌}
use proofs.HashedWrites.{none_there, some_there}
use proofs.hashed_rows.HashedRows.has_group.Goals as goal

pub returns-in-None : goal.returns-in-None
returns-in-None c = grind (arith, none_there)

pub returns-in-Some : goal.returns-in-Some
returns-in-Some c = by c.is_empty.result refl
  where
    by : (b : Bool) → c.is_empty.result ≡ b → not c.is_empty.result
        ≡ has_members c.args.group.now c.args.self.now.node c.args.self.now.rows
    by true e =
        let g = c.args.group.now in
        let at = λ (k : ProcessKey). sym (c.self.invariant.by_group g k)
        ∙ grind (arith, c.is_empty.ensures.none e k) in
        let none = none_there g c.self.inside.counts.node c.self.inside.counts.entries at in
        grind arith
    by false e =
        let g = c.args.group.now in
        let one = c.is_empty.ensures.some e in
        let counted = rw (← c.self.view_is) at c.requires in
        let at = ap is_some (sym (c.self.invariant.by_group g one.0)) ∙ grind arith in
        let es = c.self.inside.counts.entries in
        let some = some_there g c.self.inside.counts.node one.0 es counted at in
        grind arith
