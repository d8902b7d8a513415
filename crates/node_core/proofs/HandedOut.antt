-- A node that hands out the oldest page of its audit.
use Rattle.node_core.proofs
use Rattle.node_core.specs
use proofs.Words.{arith, audit_of, Entry, history, IfNone, IfSome, Kept, length, List, list_all}
use proofs.Words.{nat_le, None, Opening, Option, Some, subst, sym, true, ℕ, ◌+◌, ◌<◌, ◌∙◌, ◌≡◌, ◌≤◌}
use Rattle.policy_audit.specs.Log.{Log}
use Rattle.policy_audit.specs.Pages.{IsPageBehind, page_size}
use Rattle.policy_audit.proofs.Losses.{made_audited, made_entered}
use Rattle.group_monitors.specs.Follows.{Reaches}
use Rattle.group_monitors.proofs.Reached.{reach_all, reach_only}
use specs.Core.{IsCore}
use specs.Recorded.{IsSpare, Recorded}

module _ {o : Opening} {audit : Log} {kept : Kept} (core : IsCore o audit kept) where
  module _ {now : Recorded}
      (is : record { history = history o audit.entries; forgotten = audit.forgotten } ≡ now)
      {f : ℕ} (first : f ≡ audit.forgotten) where
    -- the oldest page can go where it isn't the last, and all monitors were told of it
    pub spare_now : f + page_size < length audit.entries
        → list_all (λ m. nat_le (f + page_size) m.1.place) kept.monitors ≡ true → IsSpare now
    spare_now more told =
        rw (← is, made_entered o audit.entries core.legal, ← first) (
          more,
          reach_all (audit_of (history o audit.entries)) kept.monitors core.follows.monitors
              (f + page_size) told,
        )

    -- and only there
    pub spare_kept : IsSpare now → (f + page_size < length audit.entries)
        × (list_all (λ m. nat_le (f + page_size) m.1.place) kept.monitors ≡ true)
    spare_kept spare =
        let here = rw (← is, made_entered o audit.entries core.legal, ← first) at spare in (
          here.0,
          reach_only (audit_of (history o audit.entries)) kept.monitors core.follows.monitors
              (f + page_size) here.1,
        )

    -- in the words of the audit
    pub spare_here : IsSpare now → (f + page_size < length audit.entries)
        × Reaches (f + page_size) audit.entries
    spare_here spare =
        rw (
          ← is,
          made_entered o audit.entries core.legal,
          made_audited o audit.entries core.legal,
          ← first,
        ) at spare

  module _ {new : Log} (limit : new.limit ≡ audit.limit) (entries : new.entries ≡ audit.entries)
      (more : audit.forgotten + page_size < length audit.entries) where
    -- it isn't the last one, and no monitor has still to be told of it
    pub handed_out : (result : Option (List Entry))
        → IfSome result (λ page. IsPageBehind audit.forgotten audit.entries page
        × (new.forgotten ≡ audit.forgotten + page_size))
        → IfNone result ((new ≡ audit) × (length audit.entries ≤ audit.forgotten + page_size))
        → Reaches (audit.forgotten + page_size) audit.entries
        → IsCore o new kept
    handed_out None some none told = subst (λ a. IsCore o a kept) (sym none.0) core
    handed_out (Some page) some none told = record {
      within = limit ∙ core.within;
      legal = rw entries core.legal;
      had = rw (entries, some.1) (omega arith);
      reach = rw (entries, some.1) told;
      follows = rw entries core.follows;
    }

-- a page that isn't the last one is handed out
pub not_none : (P Q : Type 0) (length most : ℕ) → most < length → (result : Option (List Entry))
    → IfNone result (P × (length ≤ most)) → IfNone result Q
not_none P Q length most more None none = absurd (let last = none.1 in omega arith)
not_none P Q length most more (Some page) none = none
