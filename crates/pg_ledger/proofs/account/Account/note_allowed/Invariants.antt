use Rattle.std.proofs.Common.{take, ◌++◌, ◌≡◌}
use Rattle.dist_types.specs.Listing.{ascending, Rises}
use Rattle.dist_types.specs.Order.{text_cmp}
use Rattle.pg_ledger.proofs.account.Account.note_allowed.Given as goal

-- the names so far stand among those of before
abbrev pub invariant-loop-name : goal.invariant-loop-name
invariant-loop-name l = Rises text_cmp l.fn.self.allowed
    → l.allowed.items ≡ ascending text_cmp (take l.name-index l.names ++ l.fn.self.allowed)
