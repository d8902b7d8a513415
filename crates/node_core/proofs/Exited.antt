-- A process that ends.
use Rattle.node_core.proofs
use proofs.Words.{Accepted, all_frames, AllByRecursion, AllZip, and_parts, ap, append-nil}
use proofs.Words.{append_assoc, AreExits, AreIdle, ArePrepared, AreTold, arith, Bool, Change}
use proofs.Words.{committed, cond, count_after_exit, count_but, count_of, creation, Entry, Event}
use proofs.Words.{exit_frames, exited_links, facts, false, filter, flat_map, Follows, GroupChange}
use proofs.Words.{HasParted, heard, History, if_told, is_empty, is_full, is_local, is_number}
use proofs.Words.{IsChange, IsDifference, IsOwnScope, IsParting, IsRunningOf, IsStep, just}
use proofs.Words.{KeptLink, length, link_words, List, listed, lives_of, local_rows, map, Message}
use proofs.Words.{nat_eq, None, not, OutFrame, Parts, Pid, refl, Reply, rows_left, Rule, Running}
use proofs.Words.{same, same_decides, same_pid, scope_words, Some, Spawned, stopped_lists, subst}
use proofs.Words.{sym, Table, told, told_numbers, true, waiting, ℕ, [], ◌++◌, ◌+◌, ◌==◌, ◌∙◌, ◌∷◌}
use proofs.Words.{◌≡◌}
use Rattle.scope_core.proofs.Rising.{all_map}
use Rattle.policy_audit.proofs.LivesNow.{exits_more, lives_exited, spawned_exited}
use Rattle.policy_audit.proofs.RowsAfter.{exited_rows}
use Rattle.node_core.specs.declared.changes.Leaving.{Leaving}
use proofs.Entered.{accepted_next, answered_by, made, step_follows}
use proofs.Ended.{Turns}
use proofs.PeersKept.{exit_leaves, monitors_stay}
use proofs.Moved.{rows_told}
use proofs.Partings.{one_parting, partings_change}
use proofs.OwnLimits.{few_told}
use proofs.RowsGone.{left_are}
use proofs.Starting.{names}
use proofs.Told.{IsItsWay, prepared_on, prepared_waits, told_follow}
use proofs.Zipped.{zipped_each, zipped_map}

-- ---- the Leaves of a process, scope by scope

frames_end : (p : Pid) (rs : List Running) (cs : List Change) (r : Running) (c : Change)
    (l : ℕ) (parted : Bool) → AllZip (IsParting (λ x. count_after_exit x p)) rs cs
    → all_frames (rs ++ r ∷ []) (cs ++ c ∷ []) l parted
    ≡ all_frames rs cs l parted ++ exit_frames r c.groups l parted
frames_end p [] [] r c l parted a = append-nil (exit_frames r c.groups l parted)
frames_end p (q ∷ qs) (d ∷ ds) r c l parted a =
    ap (λ f. exit_frames q d.groups l parted ++ f) (frames_end p qs ds r c l parted a.1)
    ∙ sym (append_assoc (exit_frames q d.groups l parted) (all_frames qs ds l parted)
    (exit_frames r c.groups l parted))
frames_end p qs ds r c l parted a = absurd a

-- one scope more
pub exits_on : (p : Pid) (rs : List Running) (r : Running) (old mid new : List KeptLink)
    (cs ds : List Change) (gs : List GroupChange) → AreExits p rs old mid cs
    → IsDifference (count_of r.table) (count_after_exit r.table p) gs
    → ArePrepared (exit_frames r gs) mid new
    → ds ≡ cs ++ cond (not (is_empty gs)) (record { scope = r.scope; groups = gs } ∷ []) []
    → AreExits p (rs ++ r ∷ []) old new ds
exits_on p rs r old mid new cs ds gs t d prepared more =
    let parted = one_parting (λ x. count_after_exit x p) rs cs r gs
    (record { all = t.all; each = t.each; some = t.some }) d in
    record {
      all = parted.all;
      each = parted.each;
      some = more ∙ parted.some;
      links = subst (λ (f : ℕ → Bool → List OutFrame). ArePrepared f old new)
          (λ i l parted. sym (frames_end p rs t.all r
          (record { scope = r.scope; groups = gs }) l parted t.each) i)
          (prepared_on (all_frames rs t.all) (exit_frames r gs) old mid new t.links prepared);
    }

-- the Leaves that were prepared wait
pub record AreExitsTold (p : Pid) (rs : List Running) (old new : List KeptLink)
    (cs : List Change) : Type 0 where
  pub all : List Change
  pub each : AllZip (IsParting (λ t. count_after_exit t p)) rs all
  pub some : cs ≡ filter (λ c. not (is_empty c.groups)) all
  pub links : AreTold (all_frames rs all) old new

pub exits_wait : (p : Pid) (rs : List Running) (old mid : List KeptLink) (cs : List Change)
    → AreIdle old → AreExits p rs old mid cs → AreExitsTold p rs old (map committed mid) cs
exits_wait p rs old mid cs idle t = record {
  all = t.all;
  each = t.each;
  some = t.some;
  links = prepared_waits (all_frames rs t.all) old mid idle t.links;
}

-- ---- the rules

module _ (h : History) (seat : ℕ) (parts : Parts) (t : Follows h parts) (p : Pid)
    (local : is_local h p ≡ true) where
  own_node : p.node ≡ h.opening.name
  own_node = (same_decides p.node h.opening.name).0
      (and_parts (same p.node h.opening.name) (p.creation == creation h) local).0

  -- the scopes are of the node of the process, with few own rows
  pub exit_own : AllByRecursion (IsOwnScope p.node parts.links) parts.scopes
  exit_own = all_map (IsRunningOf (scope_words h)) (IsOwnScope p.node parts.links)
      (λ r a. record { own = a.own ∙ sym own_node; few = few_told t r a })
      parts.scopes t.scopes.each

  -- ---- what is told

  abbrev policy_frames : ℕ → List (List ℕ) → List OutFrame
  policy_frames l ss =
      flat_map (λ s. if_told h l s (Message.Leave s)
      (filter (λ w. same_pid w.pid p) (local_rows h s))) ss

  its_frames : (l : ℕ) (parted : Bool) → IsItsWay (facts h l) parted → (r : Running) (c : Change)
      → IsRunningOf (scope_words h) r → IsParting (λ u. count_after_exit u p) r c
      → if_told h l r.scope (Message.Leave r.scope)
      (filter (λ w. same_pid w.pid p) (local_rows h r.scope))
      ≡ exit_frames r c.groups l parted
  its_frames l parted way r c a z =
      ap (λ rows. if_told h l r.scope (Message.Leave r.scope) rows)
      (sym (left_are h r a t.sound.played p (a.own ∙ sym own_node) c.groups z.groups))
      ∙ rows_told h l r.scope (Message.Leave r.scope) (rows_left c.groups) r.told.items parted way
      (a.told l)

  frames_are : (l : ℕ) (parted : Bool) → IsItsWay (facts h l) parted → (rs : List Running)
      (cs : List Change) → AllByRecursion (IsRunningOf (scope_words h)) rs
      → AllZip (IsParting (λ u. count_after_exit u p)) rs cs
      → policy_frames l (names rs) ≡ all_frames rs cs l parted
  frames_are l parted way [] [] a z = refl
  frames_are l parted way (r ∷ rs) (c ∷ cs) a z =
      λ i. its_frames l parted way r c a.0 z.0 i ++ frames_are l parted way rs cs a.1 z.1 i
  frames_are l parted way rs cs a z = absurd z

  module _ (links : List KeptLink) (cs : List Change)
      (told_so : AreExitsTold p parts.scopes parts.links links cs) where
    abbrev exit_entry : Entry
    exit_entry = made h seat (Event.Exit p) (Accepted Reply.Done) cs

    abbrev pub exited : History
    exited = just h exit_entry

    module _ (its : IsStep h exit_entry) where
      now_listed : (u f : List ℕ) (x : Pid)
          → listed exited u f x ≡ cond (same_pid x p) 0 (listed h u f x)
      now_listed u f x = exited_rows h exit_entry its refl p refl u f x

      exit_change : IsChange h exited cs
      exit_change = partings_change h exited (λ u. count_after_exit u p)
          (λ r a g x. ap (cond (same_pid x p) 0) (a.rows g x) ∙ sym (now_listed r.scope g x))
          parts.scopes t.scopes (λ s none g x. now_listed s g x
          ∙ ap (cond (same_pid x p) 0) (stopped_lists h s g x none) ∙ (grind arith)) cs
          (record { all = told_so.all; each = told_so.each; some = told_so.some })

      module _ (away : Leaving) (is : (x : Table) (f : List ℕ) (q : Pid) → count_but away x f q
          ≡ count_after_exit x p f q) where
        parted : (r new : Running) → HasParted away r new → IsRunningOf (scope_words h) r
            → IsRunningOf (scope_words exited) new
        parted r new z a = record {
          own = z.rows.own ∙ a.own;
          rows = λ g x. z.rows.counts g x ∙ is r.table g x
              ∙ ap (λ n. cond (same_pid x p) 0 n) (a.rows g x) ∙ sym (now_listed r.scope g x)
              ∙ ap (λ s. listed exited s g x) (sym z.scope);
          heard = λ l. ap (is_number l) z.heard ∙ a.heard l
              ∙ ap (λ s. heard h.opening l s h.entries) (sym z.scope);
          told = λ l. ap (is_number l) z.told ∙ a.told l
              ∙ ap (λ s. told h.opening l s h.entries) (sym z.scope);
        }

    pub exit_now : is_full h ≡ false → is_number p.number parts.processes.live ≡ true
        → (away : Leaving) → ((x : Table) (f : List ℕ) (q : Pid) → count_but away x f q
        ≡ count_after_exit x p f q)
        → (new : List Running) → AllZip (HasParted away) parts.scopes new → (q : Spawned)
        → q.spawned ≡ parts.processes.spawned
        → ((n : ℕ) → is_number n q.live
        ≡ cond (nat_eq p.number n) false (is_number n parts.processes.live))
        → length q.live + 1 ≡ length parts.processes.live
        → Turns h seat (Event.Exit p) cs
        (record parts { scopes = new; links = links; processes = q }) (λ u. false) (λ x. x ≡ cs)
    exit_now space living away is new z q same live fewer =
        let alive = lives_of h p local ∙ sym (t.processes.live p.number) ∙ living in
        let next = accepted_next h seat (Event.Exit p) space Reply.Done cs
        (λ i. cond (not (local i)) (Some Rule.NotLocal)
        (cond (not (alive i)) (Some Rule.NoProcess) None)) refl exit_change in
        let it = answered_by next in record {
          alone = next;
          follows = step_follows t next refl t.admission
              (record {
                spawned = same ∙ t.processes.spawned
                    ∙ sym (spawned_exited h exit_entry it refl p refl);
                live = λ n. live n ∙ ap (λ b. cond (nat_eq p.number n) false b) (t.processes.live n)
                    ∙ sym (lives_exited h exit_entry it refl p refl n);
                count = (let was = t.processes.count in
                    let more = exits_more h exit_entry it refl p refl in
                    let still = spawned_exited h exit_entry it refl p refl in
                    omega arith);
              })
              (record {
                running = zipped_map (HasParted away) (λ r. r.scope) (λ r. r.scope)
                    (λ r q x. x.scope) parts.scopes new z ∙ t.scopes.running;
                each = zipped_each (HasParted away) (IsRunningOf (scope_words h))
                    (IsRunningOf (scope_words exited)) (parted it away is) parts.scopes new z
                    t.scopes.each;
              })
              (told_follow (link_words h) (link_words exited) (all_frames parts.scopes told_so.all)
              (λ l. refl)
              (told_numbers h exit_entry it refl refl
              (λ l. (exited_links h exit_entry it refl p refl l).kept_is)) parts.links links
              (λ l parted way. ap (λ f. waiting h l ++ f)
              (ap (policy_frames l) (sym t.scopes.running)
              ∙ frames_are l parted way parts.scopes told_so.all t.scopes.each told_so.each))
              told_so.links t.links);
          leaves = exit_leaves h seat cs p;
          monitors = monitors_stay h seat parts.monitors t.monitors (Event.Exit p) refl;
          owned = λ x is. rw is (exit_change it);
        }
