use Rattle.scope_core.proofs
use proofs.Words.{is_row, tally}
use proofs.Kept.{kept_groups}
use proofs.table.ScopeTable.group_listing.Goals as goal

pub invariant_of-self-2 : goal.invariant_of-self-2
invariant_of-self-2 c = record {
  few = c.self.invariant.few;
  total = c.self.invariant.total;
  listed = kept_groups (λ g p. tally (is_row g p) c.self.inside.rows) c.self.inside.listings
      c.keep_groups.new.self c.self.invariant.listed c.in_ok-try_clone.field-0
      (rw (c.in_ok-try_clone.ensures, c.in_ok-groups-2.ensures) c.in_ok-groups.ensures)
      c.keep_groups.ensures.pids c.keep_groups.ensures.groups;
}
