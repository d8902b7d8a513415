-- An entry, before the losses that come with it.
use Rattle.std.specs.Prelude.{◌≡◌, ◌<◌}
use Rattle.policy_audit.specs.declared.entry.Entry.{Entry}
use Rattle.policy_audit.specs.History.{History, entered, just}
use Rattle.policy_audit.specs.Changes.{IsChange}
use Rattle.policy_audit.specs.Policy.{verdict, next_number}

-- the entry answers its event as the policy does after this history, and has changed this by itself
pub record IsAlone (h : History) (e : Entry) : Type 0 where
  pub room : entered h.entries < h.opening.entries
  pub number : e.number ≡ next_number h
  pub verdict : e.verdict ≡ verdict h e.seat e.event
  pub change : IsChange h (just h e) e.change
