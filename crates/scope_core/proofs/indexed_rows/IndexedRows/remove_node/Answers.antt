use Rattle.scope_core.proofs
use proofs.Words.{ap, arith, cond, has_members, NodeTable, refl, subst, sym, times_named, ◌∙◌, ◌≤◌}
use proofs.Indexed.{dropped}
use proofs.indexed_rows.IndexedRows.remove_node.Goals as goal

pub invariant_of-self : goal.invariant_of-self
invariant_of-self c =
    let n = c.args.node.now in
    let named = times_named c.self.inside.index in
    let none = c.in_err-gone.ensures.none in
    rw c.remove_node.ensures.rest
    (dropped n c.self.inside.lists _ named named (sym none) c.self.invariant (λ g m e. refl)
    (λ g. omega arith))

pub invariant_of-self-else-is_empty : goal.invariant_of-self-else-is_empty
invariant_of-self-else-is_empty c =
    let n = c.args.node.now in
    let gone = c.in_ok-gone.gone in
    let named = times_named c.self.inside.index in
    let left = times_named c.unname.new.index in
    let table = c.rows.ensures.rows in
    let node = ap (λ (t : NodeTable). t.node) table ∙ c.in_ok-gone.ensures.gone.0 in
    let own = λ (g : _). subst
    (λ m. left g n ≤ cond (has_members g m c.rows.result.now.rows) 0 (named g n)) node
    (c.unname.ensures.own g) in
    let rows = ap (λ (t : NodeTable). t.rows) table ∙ c.in_ok-gone.ensures.gone.1 in
    rw c.remove_node.ensures.rest
    (dropped n c.self.inside.lists c.rows.result.now.rows named left rows c.self.invariant
    c.unname.ensures.others own)
