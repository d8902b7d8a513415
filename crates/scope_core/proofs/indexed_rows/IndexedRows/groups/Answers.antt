use Rattle.scope_core.proofs
use proofs.Indexed.{member_named, named_member}
use proofs.indexed_rows.IndexedRows.groups.Goals as goal

pub returns : goal.returns
returns c = rw (← c.self.view_is) (record {
  rises = c.in_ok-groups.ensures.rises;
  found = λ g h. let named = c.in_ok-groups.ensures.found g h in
      named_member g named.0 c.self.inside.lists _ (c.self.invariant g named.0) named.1;
  only = λ g p l. c.in_ok-groups.ensures.only g p.node
      (member_named g p c.self.inside.lists _ (c.self.invariant g p.node) l);
})
