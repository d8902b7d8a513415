use Rattle.scope_core.proofs
use proofs.Words.{ap, arith, is_of_node, List, refl, same, same_decides, sym, tally, ℕ, ◌∙◌}
use proofs.Calls.{own_left}
use proofs.Kept.{dropped_same, still_listings}
use proofs.NodeLists.{node_tally}
use proofs.Rising.{gone_counts}
use proofs.table.ScopeTable.drop_peer.Goals as goal

pub returns-in_default : goal.returns-in_default
returns-in_default c = rw (c.remove_node.ensures.rest, ← c.self.view_is) (record {
  own = refl;
  counts = λ g p. gone_counts (λ q. same q.node c.args.peer.now) g p c.self.inside.rows;
})

pub returns : goal.returns
returns c = rw (c.remove_node.ensures.rest, ← c.self.view_is) (record {
  own = refl;
  counts = λ g p. gone_counts (λ q. same q.node c.args.peer.now) g p c.self.inside.rows;
})

pub invariant_of-self : goal.invariant_of-self
invariant_of-self c =
    let n = c.args.peer.now in
    let rows = c.self.inside.rows in
    let none = c.in_default.ensures.none in
    let zero = node_tally n (is_of_node n) (λ r h. h) rows ∙ ap (tally (is_of_node n)) none in
    let stays = λ (g : List ℕ). dropped_same n rows _ (sym none) g refl in
    let left = own_left n c.self.inside.own rows c.self.inside.own_rows c.self.invariant.total in
    rw c.remove_node.ensures.rest (record {
      few = c.self.invariant.few;
      total = grind (arith, same_decides);
      listed = still_listings _ _ c.self.inside.listings stays c.self.invariant.listed;
    })

pub invariant_of-self-2 : goal.invariant_of-self-2
invariant_of-self-2 c = grind (arith, own_left, dropped_same)
