-- The scopes that run, as a node keeps them.
use Rattle.node_core.proofs
use proofs.Words.{AllByRecursion, ap, cond, contents, count_of, events, exact_pids, false, find}
use proofs.Words.{groups, groups_named, History, IfNone, IfSome, is_among, is_running}
use proofs.Words.{IsGroupListing, IsPidListing, IsPlayed, IsRunningOf, List, list_any, listed}
use proofs.Words.{local_count, local_groups, local_members, map, members, None, Option, option_map}
use proofs.Words.{own, Pid, pid_cmp, pids_named, pids_total, refl, Running, running_among, same}
use proofs.Words.{same_decides, same_pid, same_pid_decides, scope_words, ScopesFollow, Some, subst}
use proofs.Words.{sym, true, ℕ, [], ◌∙◌, ◌∷◌, ◌≡◌}
use Rattle.policy_audit.specs.declared.reply.GroupPids.{GroupPids}
use Rattle.std.specs.Borrow.{Bor}
use Rattle.dist_types.proofs.Listings.{one_listing}
use Rattle.dist_types.proofs.GroupListings.{one_group_listing}
use Rattle.policy_audit.proofs.Named.{group_named, listed_named, own_named, pid_named}
use Rattle.policy_audit.proofs.OwnRows.{own_is_listed}
use proofs.Found.{any_map, found_in, none_found, some_found}
use Rattle.policy_audit.proofs.Lists as lists

module _ (h : History) (rs : List Running) (s : List ℕ) (t : ScopesFollow (scope_words h) rs) where
  -- whether s runs is whether one of the kept scopes is s
  pub runs_is : list_any (λ r. same r.scope s) rs ≡ is_running h s
  runs_is = sym (any_map (λ x. same x s) (λ r. r.scope) rs) ∙ ap (λ ss. is_among s ss) t.running
      ∙ running_among h s

  pub running_here : (o : Option (Bor Running))
      → option_map (λ r. r.now) o ≡ find (λ r. same r.scope s) rs
      → IfSome o (λ r. (r.now.scope ≡ s) × IsRunningOf (scope_words h) r.now
      × (is_running h s ≡ true))
  running_here None q = tt
  running_here (Some r) q =
      let found = found_in (λ r. same r.scope s) (IsRunningOf (scope_words h)) rs t.each r.now
      (sym q) in (
        (same_decides r.now.scope s).0 found.0,
        found.1,
        sym runs_is ∙ some_found (λ r. same r.scope s) rs r.now (sym q),
      )

  pub not_running : (o : Option (Bor Running))
      → option_map (λ r. r.now) o ≡ find (λ r. same r.scope s) rs
      → IfNone o (is_running h s ≡ false)
  not_running None q = sym runs_is ∙ none_found (λ r. same r.scope s) rs (sym q)
  not_running (Some r) q = tt

-- ---- what the table of a scope answers

pub members_listing : (h : History) (s g : List ℕ) → IsPidListing (listed h s g) (members h s g)
members_listing h s =
    lists.members_are (listed h s) (λ f. pids_named s f (events h.entries))
    (groups_named s (events h.entries))
    (λ f p q. pid_named s f p (events h.entries) (listed_named s f p h q))
    (λ f p q. group_named s f p (events h.entries) (listed_named s f p h q))

pub groups_listing : (h : History) (s : List ℕ) → IsGroupListing (listed h s) (groups h s)
groups_listing h s =
    lists.groups_are (listed h s) (λ f. pids_named s f (events h.entries))
    (groups_named s (events h.entries))
    (λ f p q. pid_named s f p (events h.entries) (listed_named s f p h q))
    (λ f p q. group_named s f p (events h.entries) (listed_named s f p h q))

local_members_listing : (h : History) (s g : List ℕ)
    → IsPidListing (own h s g) (local_members h s g)
local_members_listing h s =
    lists.members_are (own h s) (λ f. pids_named s f (events h.entries))
    (groups_named s (events h.entries))
    (λ f p q. pid_named s f p (events h.entries) (own_named s f p h q))
    (λ f p q. group_named s f p (events h.entries) (own_named s f p h q))

local_groups_listing : (h : History) (s : List ℕ) → IsGroupListing (own h s) (local_groups h s)
local_groups_listing h s =
    lists.groups_are (own h s) (λ f. pids_named s f (events h.entries))
    (groups_named s (events h.entries))
    (λ f p q. pid_named s f p (events h.entries) (own_named s f p h q))
    (λ f p q. group_named s f p (events h.entries) (own_named s f p h q))

module _ (h : History) (s : List ℕ) (r : Running) (named : r.scope ≡ s)
    (t : IsRunningOf (scope_words h) r) where
  -- how often each is counted is how often it is listed
  pub counts_listed : count_of r.table ≡ listed h s
  counts_listed = λ i g p. (t.rows g p ∙ ap (λ x. listed h x g p) named) i

  pub members_are : (g : List ℕ) (ps : List Pid) → IsPidListing (count_of r.table g) ps
      → ps ≡ members h s g
  members_are g ps q =
      one_listing pid_cmp same_pid pids_total exact_pids same_pid_decides (listed h s g) ps
      (members h s g) (subst (λ c. IsPidListing (c g) ps) counts_listed q) (members_listing h s g)

  pub groups_are : (gs : List (List ℕ)) → IsGroupListing (count_of r.table) gs → gs ≡ groups h s
  groups_are gs q =
      one_group_listing (listed h s) gs (groups h s)
      (subst (λ c. IsGroupListing c gs) counts_listed q) (groups_listing h s)

  -- the own processes are counted as often as they are joined
  pub own_counts : IsPlayed h → local_count r.table ≡ own h s
  own_counts legal = λ i g p. (
      ap (λ n. cond (same p.node n) (count_of r.table g p) 0) t.own
      ∙ ap (λ f. cond (same p.node h.opening.name) (f g p) 0) counts_listed
      ∙ sym (own_is_listed h legal s g p)) i

  pub local_members_are : IsPlayed h → (g : List ℕ) (ps : List Pid)
      → IsPidListing (local_count r.table g) ps → ps ≡ local_members h s g
  local_members_are legal g ps q =
      one_listing pid_cmp same_pid pids_total exact_pids same_pid_decides (own h s g) ps
      (local_members h s g) (subst (λ c. IsPidListing (c g) ps) (own_counts legal) q)
      (local_members_listing h s g)

  pub local_groups_are : IsPlayed h → (gs : List (List ℕ)) → IsGroupListing (local_count r.table) gs
      → gs ≡ local_groups h s
  local_groups_are legal gs q =
      one_group_listing (own h s) gs (local_groups h s)
      (subst (λ c. IsGroupListing c gs) (own_counts legal) q) (local_groups_listing h s)

  pub contents_are : (cs : List GroupPids)
      → IsGroupListing (count_of r.table) (map (λ c. c.group) cs)
      → AllByRecursion (λ c. IsPidListing (count_of r.table c.group) c.pids) cs → cs ≡ contents h s
  contents_are cs gs each =
      all cs each ∙ ap (map (λ g. record { group = g; pids = members h s g }))
      (groups_are (map (λ c. c.group) cs) gs)
    where
      all : (ds : List GroupPids)
          → AllByRecursion (λ c. IsPidListing (count_of r.table c.group) c.pids) ds
          → ds ≡ map (λ g. record { group = g; pids = members h s g }) (map (λ c. c.group) ds)
      all [] a = refl
      all (d ∷ ds) a = λ i. record { group = d.group; pids = members_are d.group d.pids a.0 i }
          ∷ all ds a.1 i
