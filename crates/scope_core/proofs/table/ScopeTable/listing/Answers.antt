use Rattle.scope_core.proofs
use proofs.Words.{is_row, tally}
use proofs.Kept.{kept_listed}
use proofs.table.ScopeTable.listing.Goals as goal

pub invariant_of-self : goal.invariant_of-self
invariant_of-self c =
    let g = c.args.group.now in
    record {
      few = c.self.invariant.few;
      total = c.self.invariant.total;
      listed = kept_listed (λ h p. tally (is_row h p) c.self.inside.rows) c.self.inside.listings
          c.keep.new.self c.self.invariant.listed g c.in_ok-pids.pids
          (rw c.in_ok-pids.ensures c.in_ok-members.ensures) c.in_ok-keep.ensures.pids
          c.in_ok-keep.ensures.groups;
    }
