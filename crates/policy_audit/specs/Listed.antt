-- How often a process is listed.
use Rattle.std.specs.Prelude.{ℕ, Bool, false, cond, ◌&&◌, ◌==◌, List}
use Rattle.std.specs.Option.{option_map_or}
use Rattle.dist_types.specs.declared.pid.Pid.{Pid}
use Rattle.policy_audit.specs.declared.entry.Entry.{Entry}
use Rattle.policy_audit.specs.History.{History}
use Rattle.policy_audit.specs.Own.{is_running, is_local, own}
use Rattle.policy_audit.specs.Sides.{present_link, given, is_peer, is_visible}
use Rattle.policy_audit.specs.Hearing.{stated}

-- p is of the peer of link l, and of the creation that the peer gave there
abbrev pub is_from : ℕ → List Entry → Pid → Bool
is_from l es p = is_peer p.node l es && option_map_or (λ f. f.creation == p.creation) (given l es)
    false

-- how often link l lists p: as often as it has stated it, where l is visible and p is from it
abbrev pub listed_by : History → List ℕ → List ℕ → Pid → ℕ → ℕ
listed_by h s g p l =
    cond (is_visible h l && is_from l h.entries p) (stated h.opening l s g p h.entries) 0

-- how often p is listed in g of s. An own process: as often as it is joined. Another, where s runs:
-- as often as the present link of its node lists it.
abbrev pub listed : History → List ℕ → List ℕ → Pid → ℕ
listed h s g p = cond (is_local h p) (own h s g p)
    (cond (is_running h s) (option_map_or (listed_by h s g p) (present_link p.node h.entries) 0) 0)
