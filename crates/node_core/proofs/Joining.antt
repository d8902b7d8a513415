-- Own processes that join groups and leave them.
use Rattle.node_core.proofs
use proofs.Words.{Accepted, admission_words, AdmissionFollows, All, all_hold, answer, ap, arith}
use proofs.Words.{Change, checks, cond, CoreFault, count_after_join, count_after_leave, count_of}
use proofs.Words.{Entry, Event, facts, false, first_broken, Follows, get_or, heard, History}
use proofs.Words.{if_among, if_told, is_any_joined, is_empty, is_full, is_local, is_number}
use proofs.Words.{is_running, is_said, IsCalmFault, IsChange, IsJoinRefusal, IsLeaveRefusal}
use proofs.Words.{IsOwnChange, IsRunningOf, IsStep, joined_links, just, Keeps, Kept, kept_numbers}
use proofs.Words.{KeptLink, le-leb, leb-true, left_links, length, link_words, List, list_all}
use proofs.Words.{list_any, listed, listing, lives, lives_of, local_count, local_rows, local_total}
use proofs.Words.{lt-leb, map, mentions, Message, min, nat_le, nat_lt, None, not, own, own_checks}
use proofs.Words.{own_limit, own_most, Parts, Pid, pid_cmp, process_words, ProcessesFollow, refl}
use proofs.Words.{Reply, Row, row, Rule, rules, Running, running_scopes, said_in, said_to, same}
use proofs.Words.{same_decides, scope_place, scope_words, set, Some, Spawned, subst, sym, told}
use proofs.Words.{told_limit, told_numbers, true, unbroken, waiting, ℕ, [], ◌&&◌, ◌++◌, ◌+◌, ◌-◌}
use proofs.Words.{◌==◌, ◌∙◌, ◌∷◌, ◌≡◌, ◌≤◌}
use Rattle.group_monitors.specs.Follows.{concerns_monitors}
use Rattle.std.proofs.lemmas.List.Folds.{list_all_at}
use Rattle.policy_audit.proofs.RowsAfter.{joined_rows, left_rows}
use proofs.Entered.{accepted_next, answered_by, made, step_follows}
use proofs.Ended.{Turns}
use proofs.LostChanges.{LeavesPeers}
use proofs.PeersKept.{join_leaves, leave_leaves, monitors_stay}
use proofs.OwnLimits.{most_told, own_limit_is}
use proofs.RowsGone.{rows_total}
use proofs.Scopes.{own_counts}
use proofs.MessagePlaces.{runs_here, scope_here}
use proofs.Told.{told_follow}
use proofs.Moved.{IsMoved, moved_change, moved_frames, moved_scopes}

-- whether a process is an own one shows in what is kept
pub local_by : {h : History} {kept : Kept} → Keeps h kept → (p : Pid)
    → (same p.node kept.opening.name && p.creation == kept.admission.creation) ≡ is_local h p
local_by keeps p = λ i. same p.node (keeps.opening i).name && p.creation
    == keeps.follows.admission.creation i

-- own processes live where their numbers do
pub alive_all : (h : History) (p : Spawned) → ProcessesFollow (process_words h) p → (ps : List Pid)
    → list_all (is_local h) ps ≡ true
    → list_all (λ q. is_number q.number p.live) ps ≡ list_all (lives h) ps
alive_all h p t [] local = refl
alive_all h p t (q ∷ qs) local = grind (arith, alive_all h p t qs, t.live q.number, lives_of h q)

-- own processes are of the own node
pub own_nodes : (h : History) (n : List ℕ) → n ≡ h.opening.name → (ps : List Pid)
    → list_all (is_local h) ps ≡ true → All (λ p. p.node ≡ n) ps
own_nodes h n is ps local k d l =
    grind (
      arith,
      is,
      list_all_at (is_local h) ps k d,
      same_decides (get_or ps k d).node h.opening.name,
    )

-- ---- rows of a scope that an event moves

module _ {h : History} (seat : ℕ) {parts : Parts} (t : Follows h parts) (s : List ℕ) {p : ℕ}
    (here : scope_place s parts.scopes ≡ Some p)
    {a : Running} (at : a ≡ get_or parts.scopes p a) where
  abbrev there : IsRunningOf (scope_words h) a
  there = (scope_here t s here at).running

  abbrev its_scope : a.scope ≡ s
  its_scope = (scope_here t s here at).named

  -- as an accepted event says, which tells of the rows that are brought
  module _ (ev : Event) (say : List ℕ → List Row → Message) (brought : List Row)
      (after : ℕ → List ℕ → Pid → ℕ) (b : Running) (links : List KeptLink) (cs : List Change)
      (moved : IsMoved (say a.scope brought) (λ f q. after (count_of a.table f q) f q) a b
      parts.links links cs) where
    abbrev entry : Entry
    entry = made h seat ev (Accepted Reply.Done) cs

    abbrev now : History
    now = just h entry

    module _ (rows : IsStep h entry → (u f : List ℕ) (q : Pid)
        → listed now u f q ≡ cond (same u s) (after (listed h u f q) f q) (listed h u f q)) where
      rows_now : IsStep h entry → (f : List ℕ) (q : Pid)
          → listed now s f q ≡ after (count_of a.table f q) f q
      rows_now its f q = rows its s f q ∙ grind (arith, (same_decides s s).1 refl)
          ∙ ap (λ n. after n f q) (sym (there.rows f q ∙ ap (λ u. listed h u f q) its_scope))

      others_now : IsStep h entry → (u f : List ℕ) (q : Pid) → same u s ≡ false
          → listed h u f q ≡ listed now u f q
      others_now its u f q other = sym (rows its u f q ∙ grind (arith, other))

      owned_now : IsStep h entry → (own : List Change)
          → IsOwnChange a (λ f q. after (count_of a.table f q) f q) own → IsChange h now own
      owned_now its own change =
          let m = say a.scope brought in
          moved_change h seat parts t s p here a b at m (λ f q. after (count_of a.table f q) f q)
          links own
          (search rules)
          now (rows_now its) (others_now its)

      moves_now : is_full h ≡ false → first_broken (checks h seat ev) ≡ None
          → answer h seat ev ≡ Reply.Done → concerns_monitors ev ≡ false
          → is_said (say a.scope brought) ≡ not (is_empty brought)
          → (admission_words now ≡ admission_words h) × (process_words now ≡ process_words h)
          × (running_scopes now ≡ running_scopes h)
          → ((l : ℕ) (u : List ℕ)
          → heard now.opening l u now.entries ≡ heard h.opening l u h.entries)
          → ((l : ℕ) (u : List ℕ) → told now.opening l u now.entries ≡ told h.opening l u h.entries)
          → ((l : ℕ) → facts now l ≡ facts h l)
          → (IsStep h entry → kept_numbers now ≡ kept_numbers h)
          → ((l : ℕ) → waiting now l ≡ waiting h l ++ if_told h l s (say s) brought)
          → LeavesPeers h now (λ u. false)
          → Turns h seat ev cs (record parts { scopes = set parts.scopes p b; links = links })
          (λ u. false) (IsOwnChange a (λ f q. after (count_of a.table f q) f q))
      moves_now space holds done calm brings same_words hears tells same_facts numbers waits
          leaves =
          let m = say a.scope brought in
          let count : List ℕ → Pid → ℕ = λ f q. after (count_of a.table f q) f q in
          let next = accepted_next h seat ev space Reply.Done cs holds done
          (λ its. moved_change h seat parts t s p here a b at m count links cs moved now
          (rows_now its) (others_now its)) in
          let its = answered_by next in record {
            alone = next;
            follows =
                step_follows t next calm
                (subst (λ w. AdmissionFollows w parts.admission) (sym same_words.0) t.admission)
                (subst (λ w. ProcessesFollow w parts.processes) (sym same_words.1) t.processes)
                (moved_scopes h seat parts t s p here a b at m count links cs moved now
                (rows_now its) (others_now its) same_words.2 refl hears tells)
                (told_follow (link_words h) (link_words now)
                (if_among (said_to a.told.items m) (said_in m)) same_facts (numbers its)
                parts.links links
                (λ l parted way. waits l ∙ ap (λ f. waiting h l ++ f)
                (moved_frames h seat parts t s p here a b at m count links cs moved say brought l
                parted way
                ∙ ap (λ c. if_among (cond c a.told.items []) (said_in m) l parted) (sym brings)))
                moved.links t.links);
            leaves = leaves;
            owned = owned_now its;
            monitors = monitors_stay h seat parts.monitors t.monitors ev calm;
          }

-- ---- the rules of a Join

module _ (h : History) (seat : ℕ) (s g : List ℕ) (ps : List Pid) (most : ℕ)
    (limit : most ≡ own_limit h s) where
  -- the first rule that processes break by themselves
  pub join_own : is_running h s ≡ true → (r : Rule) → first_broken (own_checks h ps most) ≡ Some r
      → first_broken (checks h seat (Event.Join s g ps)) ≡ Some r
  join_own runs r q = grind (arith, limit, leb-true, le-leb, lt-leb)

  -- where they break none, there is room for them or not
  pub join_left : is_running h s ≡ true → first_broken (own_checks h ps most) ≡ None
      → first_broken (checks h seat (Event.Join s g ps))
      ≡ cond (nat_le (length (local_rows h s) + length ps) most) None (Some Rule.RowsFull)
  join_left runs q = grind (arith, limit)

-- ---- a Join

-- the most own rows that the scope at a place may have
pub limit_here : {h : History} (seat : ℕ) {parts : Parts} (t : Follows h parts) (s : List ℕ) {p : ℕ}
    (here : scope_place s parts.scopes ≡ Some p) {a : Running} (at : a ≡ get_or parts.scopes p a)
    → own_most h.opening.links a.told.items parts.links ≡ own_limit h s
limit_here {h} seat t s here {a} at =
    own_limit_is t a (there seat t s here at) ∙ ap (own_limit h) (its_scope seat t s here at)

module _ {h : History} (seat : ℕ) {parts : Parts} (t : Follows h parts) (s g : List ℕ)
    (ps : List Pid) (most : ℕ) (limit : most ≡ own_limit h s) {p : ℕ}
    (here : scope_place s parts.scopes ≡ Some p)
    {a : Running} (at : a ≡ get_or parts.scopes p a) where
  own_total : length (local_rows h s) ≡ local_total a.table
  own_total = rows_total h s a (its_scope seat t s here at) (there seat t s here at) t.sound.played

  -- and what is brought can be told
  pub joins_told : first_broken (own_checks h ps most) ≡ None
      → length ps ≤ told_limit a.told.items parts.links
  joins_told q =
      let few = leb-true (length ps) most
      (unbroken (nat_le (length ps) most) (all_hold (own_checks h ps most) q).1.1.0) in
      let is = limit ∙ ap (own_limit h) (sym (its_scope seat t s here at))
      ∙ sym (own_limit_is t a (there seat t s here at)) in
      let fits = most_told t a (there seat t s here at) in
      omega arith

  pub joins_own : first_broken (own_checks h ps most) ≡ None → All (λ q. q.node ≡ a.table.own) ps
  joins_own q = own_nodes h a.table.own (there seat t s here at).own ps
      (unbroken (list_all (is_local h) ps) (all_hold (own_checks h ps most) q).0)

  -- what the table refuses is the first rule that is broken
  pub join_calm : first_broken (own_checks h ps most) ≡ None → (f : CoreFault)
      → IsJoinRefusal a.table ps most f → IsCalmFault h seat (Event.Join s g ps) f
  join_calm q (CoreFault.Refused r) over = (
    join_left h seat s g ps most limit (runs_here t s p here) q
        ∙ rw (lt-leb (length (local_rows h s) + length ps) most
        (let is = own_total in let many = over.1 in omega arith))
        (ap Some (sym over.0)),
    refl,
  )
  join_calm q CoreFault.OutOfMemory over = tt

  pub joined : (b : Running) (links : List KeptLink) (cs : List Change)
      → IsMoved (Message.Join a.scope (map (row g) (listing pid_cmp (λ q. mentions q ps) ps)))
      (count_after_join a.table g ps) a b parts.links links cs
      → is_full h ≡ false → first_broken (own_checks h ps most) ≡ None
      → local_total a.table + length ps ≤ most
      → Turns h seat (Event.Join s g ps) cs
      (record parts { scopes = set parts.scopes p b; links = links }) (λ u. false)
      (IsOwnChange a (count_after_join a.table g ps))
  joined b links cs moved space q few =
      let e = made h seat (Event.Join s g ps) (Accepted Reply.Done) cs in
      moves_now seat t s here at (Event.Join s g ps) Message.Join
      (map (row g) (listing pid_cmp (λ q. mentions q ps) ps))
      (λ n f q. n + cond (same f g) (mentions q ps) 0) b links cs moved
      (λ its. joined_rows h e its refl s g ps refl) space
      (join_left h seat s g ps most limit (runs_here t s p here) q
      ∙ rw (le-leb (length (local_rows h s) + length ps) most
      (let is = own_total in omega arith))) refl refl refl (refl, refl, refl)
      (λ l u. refl) (λ l u. refl) (λ l. refl)
      (λ its. told_numbers h e its refl refl
      (λ l. (joined_links h e its refl s g ps refl l).kept_is)) (λ l. refl)
      (join_leaves h seat cs s g ps)

-- ---- a Leave

module _ {h : History} (seat : ℕ) {parts : Parts} (t : Follows h parts) (s g : List ℕ)
    (ps : List Pid) where
  pub leave_foreign : is_running h s ≡ true → list_all (is_local h) ps ≡ false
      → first_broken (checks h seat (Event.Leave s g ps)) ≡ Some Rule.NotLocal
  leave_foreign runs q = grind arith

  module _ {p : ℕ} (here : scope_place s parts.scopes ≡ Some p) {a : Running} (at : a
      ≡ get_or parts.scopes p a) where
    abbrev counts : local_count a.table ≡ own h s
    counts = own_counts h s a (its_scope seat t s here at) (there seat t s here at) t.sound.played

    -- whether own processes are joined is what the table says
    any_joined : (qs : List Pid) → list_all (is_local h) qs ≡ true
        → list_any (λ x. nat_lt 0 (own h s g x)) qs ≡ is_any_joined a.table g qs
    any_joined [] local = refl
    any_joined (q ∷ qs) local =
        grind (arith, any_joined qs, ap (λ f. f g q) counts, (there seat t s here at).own)

    module _ (local : list_all (is_local h) ps ≡ true) where
      pub leaves_own : All (λ q. q.node ≡ a.table.own) ps
      leaves_own = own_nodes h a.table.own (there seat t s here at).own ps local

      leave_left : first_broken (checks h seat (Event.Leave s g ps))
          ≡ cond (is_any_joined a.table g ps) None (Some Rule.NotJoined)
      leave_left = grind (arith, runs_here t s p here, any_joined ps local)

      -- what the table refuses is the first rule that is broken
      pub leave_calm : (f : CoreFault) → IsLeaveRefusal a.table g ps f
          → IsCalmFault h seat (Event.Leave s g ps) f
      leave_calm (CoreFault.Refused r) none = (leave_left ∙ rw none.1 (ap Some (sym none.0)), refl)
      leave_calm CoreFault.OutOfMemory none = tt

    pub left : (b : Running) (links : List KeptLink) (cs : List Change)
        → IsMoved (Message.Leave a.scope
        (map (row g) (listing pid_cmp (λ q. min (mentions q ps) (local_count a.table g q)) ps)))
        (count_after_leave a.table g ps) a b parts.links links cs
        → is_full h ≡ false → list_all (is_local h) ps ≡ true → is_any_joined a.table g ps ≡ true
        → Turns h seat (Event.Leave s g ps) cs
        (record parts { scopes = set parts.scopes p b; links = links }) (λ u. false)
        (IsOwnChange a (count_after_leave a.table g ps))
    left b links cs moved space local some =
        let e = made h seat (Event.Leave s g ps) (Accepted Reply.Done) cs in
        moves_now seat t s here at (Event.Leave s g ps) Message.Leave
        (map (row g) (listing pid_cmp (λ q. min (mentions q ps) (own h s g q)) ps))
        (λ n f q. n - cond (same f g) (mentions q ps) 0) b links cs
        (subst (λ c. IsMoved
        (Message.Leave a.scope
        (map (row g) (listing pid_cmp (λ q. min (mentions q ps) (c g q)) ps)))
        (count_after_leave a.table g ps) a b parts.links links cs) counts moved)
        (λ its. left_rows h e its refl s g ps refl) space (leave_left local ∙ rw some) refl refl
        refl (refl, refl, refl) (λ l u. refl) (λ l u. refl) (λ l. refl)
        (λ its. told_numbers h e its refl refl
        (λ l. (left_links h e its refl s g ps refl l).kept_is)) (λ l. refl)
        (leave_leaves h seat cs s g ps)
