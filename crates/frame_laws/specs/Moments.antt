-- A history as it was, and since when a link is whole.
use Rattle.std.specs.Prelude.{◌≡◌, ℕ, ◌≤◌, Bool, false, cond, ◌&&◌, not, nat_lt, List, [], ◌∷◌}
use Rattle.std.specs.Prelude.{Option, Some, None, IsTrue}
use Rattle.std.specs.List.{list_any}
use Rattle.policy_audit.specs.declared.entry.Entry.{Entry}
use Rattle.policy_audit.specs.History.{History, past, entered, is_accepted, is_restart}
use Rattle.policy_audit.specs.Sides.{is_whole}

-- entry k and what came before it
abbrev pub moment_in : ℕ → List Entry → List Entry
moment_in k [] = []
moment_in k (e ∷ es) = cond (nat_lt (entered es) k) (e ∷ es) (moment_in k es)

-- the history as it was after its entry k, before any loss that came with it
abbrev pub moment : ℕ → History → History
moment k h = past h.opening (moment_in k h.entries)

-- the entry by which the side of link l became whole: the link was proved
abbrev pub proved_at : ℕ → List Entry → Option ℕ
proved_at l [] = None
proved_at l (e ∷ es) = cond (is_whole l (e ∷ es) && not (is_whole l es)) (Some e.number)
    (proved_at l es)

-- a restart was accepted behind entry k
abbrev pub is_restarted_after : ℕ → List Entry → Bool
is_restarted_after k es = list_any (λ e. nat_lt k e.number
    && (is_accepted e.verdict && is_restart e.event)) es

-- link l was proved by one of the entries, with no restart since
pub record IsProvedLink (h : History) (l : ℕ) : Type 0 where
  pub whole : IsTrue (is_whole l h.entries)
  pub proof : ℕ
  pub within : proof ≤ entered h.entries
  pub proved : proved_at l h.entries ≡ Some proof
  pub unbroken : is_restarted_after proof h.entries ≡ false
