use Rattle.scope_core.proofs
use proofs.Groups.{groups_listing}
use proofs.Kept.{still_groups}
use proofs.table.ScopeTable.local_groups.Goals as goal

pub returns : goal.returns
returns c =
    let held = c.in_ok-held.held.items in
    rw (c.in_ok-groups.ensures, c.deref.ensures.value, ← c.self.view_is)
    (still_groups _ _ _ c.in_ok-held.ensures.counts
    (groups_listing held c.in_ok-held.ensures.rises))
