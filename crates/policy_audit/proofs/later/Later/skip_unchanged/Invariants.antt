use Rattle.policy_audit.specs
use Rattle.std.proofs.Common.{length, [], ◌≡◌, ◌≤◌}
use Rattle.std.specs.List.{filter}
use specs.Log.{changes_rows}
use specs.Pages.{entries_in}
use Rattle.policy_audit.proofs.later.Later.skip_unchanged.Given as goal

-- the same changes are left
abbrev pub invariant-loop-page : goal.invariant-loop-page
invariant-loop-page l =
    (l.self-inside.page.now ≡ []) × (filter changes_rows (entries_in l.self-inside.pages.now)
    ≡ filter changes_rows l.fn.self)
    × (length (entries_in l.self-inside.pages.now) ≤ length l.fn.self)

abbrev pub decreases-loop-page : goal.decreases-loop-page
decreases-loop-page l = length l.self-inside.pages.now
