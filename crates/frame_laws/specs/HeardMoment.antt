-- What one node hears of another: its own rows at one moment.
use Rattle.std.specs.Prelude.{IsTrue, ◌≡◌, ℕ, ◌≤◌, List, ◌∷◌, Some}
use Rattle.std.specs.List.{AllByRecursion}
use Rattle.dist_types.specs.declared.pid.Pid.{Pid}
use Rattle.dist_types.specs.Listing.{same}
use Rattle.policy_audit.specs.History.{History}
use Rattle.policy_audit.specs.Own.{own}
use Rattle.policy_audit.specs.Hearing.{stated}
use Rattle.policy_audit.specs.Listed.{listed}
use Rattle.frame_laws.specs.Moments.{moment, IsProvedLink}
use Rattle.frame_laws.specs.Sent.{out, source_at}
use Rattle.frame_laws.specs.ToldRows.{told_rows}

-- Link b of B has stated A's own rows of s as they were after one entry of A: the source of the
-- last Sync, Join or Leave of s that B accepted in this hearing; and so often B lists the processes
-- of A's name. By then A's link a was proved, with no restart since, and the earlier ones have no
-- later source.
pub record HearsMoment (A : History) (a : ℕ) (B : History) (b : ℕ) (s : List ℕ) : Type 0 where
  pub place : ℕ
  pub earlier : List ℕ
  pub source : ℕ
  pub last : told_rows B.opening b s B.entries ≡ place ∷ earlier
  pub is_source : source_at place (out A a) ≡ Some source
  pub in_order : AllByRecursion (λ n. (k : ℕ) × (source_at n (out A a) ≡ Some k)
      × (k ≤ source)) earlier
  pub proved : IsProvedLink (moment source A) a
  pub rows : (g : List ℕ) (p : Pid)
      → stated B.opening b s g p B.entries ≡ own (moment source A) s g p
  pub listed_is : (g : List ℕ) (p : Pid) → IsTrue (same p.node A.opening.name)
      → listed B s g p ≡ own (moment source A) s g p
