-- What changes with an event with which links end: own rows, and those of the peers of these links.
use Rattle.node_core.proofs
use Rattle.node_core.specs
use proofs.Words.{AllZip, ap, arith, Bool, Change, changes_are, cond, count_after_drop, count_of}
use proofs.Words.{false, filter, flat_map, GroupChange, History, is_among, is_local, is_running}
use proofs.Words.{IsChange, IsDifference, IsRunningOf, List, listed, map, mentions, not, Pid, refl}
use proofs.Words.{Rises, Running, running_among, running_rises, running_scopes, same, scope_words}
use proofs.Words.{ScopesFollow, stopped_lists, subst, sym, Table, text_cmp, times_left, true, ℕ, []}
use proofs.Words.{◌++◌, ◌+◌, ◌-◌, ◌∙◌, ◌∷◌, ◌≡◌}
use Rattle.dist_types.specs.Difference.{times_joined}
use Rattle.policy_audit.specs.Changes.{groups_in}
use specs.declared.slow.End.{End}
use specs.Ending.{AreWithLost, IsLossOf}
use proofs.Ends.{goes, GoesOnce}
use proofs.MergedGroups.{total_append}
use proofs.Scopes.{counts_listed}
use proofs.Zipped.{zipped_each, zipped_map}

module _ (g : List ℕ) (p : Pid) (xs ys : List GroupChange) where
  left_both : times_left g p (xs ++ ys) ≡ times_left g p xs + times_left g p ys
  left_both = total_append (λ c. cond (same c.group g) (mentions p c.left) 0) xs ys

  joined_both : times_joined g p (xs ++ ys) ≡ times_joined g p xs + times_joined g p ys
  joined_both = total_append (λ c. cond (same c.group g) (mentions p c.joined) 0) xs ys

-- ---- what is lost in one scope

abbrev AreDropped : Table → List End → List (List GroupChange) → Type 0
AreDropped t = AllZip (λ e ls. IsDifference (count_of t) (count_after_drop t e.peer) ls)

abbrev all_of : List (List GroupChange) → List GroupChange
all_of lists = flat_map (λ ls. ls) lists

module _ (t : Table) (g : List ℕ) (p : Pid) where
  abbrev c : ℕ
  c = count_of t g p

  lost_left : (ends : List End) (lists : List (List GroupChange)) → AreDropped t ends lists
      → GoesOnce p ends → times_left g p (all_of lists) ≡ cond (goes p ends) c 0
  lost_left [] [] a once = refl
  lost_left (x ∷ xs) (ls ∷ lists) a once =
      left_both g p ls (all_of lists)
      ∙ grind (arith, a.0.left g p, lost_left xs lists a.1 once.1, once.0)
  lost_left xs ls a once = absurd a

  lost_joined : (ends : List End) (lists : List (List GroupChange)) → AreDropped t ends lists
      → times_joined g p (all_of lists) ≡ 0
  lost_joined [] [] a = refl
  lost_joined (x ∷ xs) (ls ∷ lists) a =
      joined_both g p ls (all_of lists)
      ∙ grind (arith, a.0.joined g p, lost_joined xs lists a.1)
  lost_joined xs ls a = absurd a

-- whether one is lost in a scope, which stops or not
abbrev goes_left : Bool → Bool → Bool
goes_left stops away = cond stops false away

-- the ends that count there
abbrev left_of : Bool → List End → List End
left_of stops ends = cond stops [] ends

pub ends_left : (b : Bool) (ends : List End) → filter (λ e. not b) ends ≡ left_of b ends
ends_left b [] = grind arith
ends_left b (x ∷ xs) = grind (arith, ends_left b xs)

module _ (p : Pid) (ends : List End) where
  once_left : (b : Bool) → GoesOnce p ends → GoesOnce p (left_of b ends)
  once_left true a = tt
  once_left false a = a

  which_left : (b : Bool) → goes p (left_of b ends) ≡ goes_left b (goes p ends)
  which_left true = refl
  which_left false = refl

-- ---- both

-- how often one is listed before the event, after it alone, and after the losses, over plain
-- values: his peer's link ends or not, and the scope stops or not
module _ (was own now : ℕ) (away stops : Bool) (now_is : now ≡ cond away 0 own)
    (own_is : away ≡ true → own ≡ cond stops 0 was) where
  both_left : (n : ℕ) → n ≡ cond (goes_left stops away) was 0 → (was - own) + n ≡ was - now
  both_left n is = grind (arith, is, now_is, own_is)

  both_joined : (n : ℕ) → n ≡ 0 → (own - was) + n ≡ now - was
  both_joined n is = grind (arith, is, now_is, own_is)

-- what an event changes by itself: of peers' rows those of scopes that stop, and no others
pub record LeavesPeers (h k : History) (stops : List ℕ → Bool) : Type 0 where
  pub peers : (s g : List ℕ) (p : Pid) → is_local h p ≡ false
      → listed k s g p ≡ cond (stops s) 0 (listed h s g p)
  pub others : (s g : List ℕ) (p : Pid) → is_running h s ≡ false → listed k s g p ≡ 0

module _ (h k f : History) (stops : List ℕ → Bool) (leaves : LeavesPeers h k stops)
    (ends : List End) (once : (p : Pid) → GoesOnce p ends)
    (far : (p : Pid) → goes p ends ≡ true → is_local h p ≡ false)
    (lists : (s g : List ℕ) (p : Pid) → listed f s g p ≡ cond (goes p ends) 0 (listed k s g p))
    (own : List Change) (change : IsChange h k own) where
  module _ (r : Running) (t : IsRunningOf (scope_words h) r) (d : Change)
      (a : IsLossOf ends stops own r d) where
    abbrev s : List ℕ
    s = r.scope

    abbrev lost : List (List GroupChange)
    lost = a.each.lists

    dropped : AreDropped r.table (left_of (stops s) ends) lost
    dropped = subst (λ es. AreDropped r.table es lost) (ends_left (stops s) ends) a.each.each

    module _ (g : List ℕ) (p : Pid) where
      gone : times_left g p a.lost ≡ cond (goes_left (stops s) (goes p ends)) (listed h s g p) 0
      gone =
          ap (times_left g p) a.each.all
          ∙ lost_left r.table g p (left_of (stops s) ends) lost dropped
          (once_left p ends (stops s) (once p))
          ∙ (λ i. cond (which_left p ends (stops s) i) (counts_listed h s r refl t i g p) 0)

      none_joined : times_joined g p a.lost ≡ 0
      none_joined =
          ap (times_joined g p) a.each.all
          ∙ lost_joined r.table g p (left_of (stops s) ends) lost dropped

      own_is : goes p ends ≡ true → listed k s g p ≡ cond (stops s) 0 (listed h s g p)
      own_is q = leaves.peers s g p (far p q)

    difference : IsDifference (listed h s) (listed f s) d.groups
    difference = record {
      groups = a.groups.groups;
      proper = a.groups.proper;
      left = λ g p.
          a.groups.left g p ∙ left_both g p (groups_in s own) a.lost
          ∙ ap (λ n. n + times_left g p a.lost) ((change.groups s).left g p)
          ∙ both_left _ _ _ (goes p ends) (stops s) (lists s g p) (own_is g p) _ (gone g p);
      joined = λ g p.
          a.groups.joined g p ∙ joined_both g p (groups_in s own) a.lost
          ∙ ap (λ n. n + times_joined g p a.lost) ((change.groups s).joined g p)
          ∙ both_joined _ _ _ (goes p ends) (stops s) (lists s g p) (own_is g p) _
          (none_joined g p);
    }

  abbrev IsOf : Running → Change → Type 0
  IsOf = IsLossOf ends stops own

  abbrev IsIn : List ℕ → Change → Type 0
  IsIn s c = IsDifference (listed h s) (listed f s) c.groups

  -- the own changes and what is lost are the whole change
  pub lost_change : (rs : List Running) → ScopesFollow (scope_words h) rs → (cs : List Change)
      → AreWithLost ends stops own rs cs → IsChange h f cs
  lost_change rs t cs a =
      let scopes : map (λ c. c.scope) a.all ≡ running_scopes h =
      zipped_map IsOf (λ r. r.scope) (λ c. c.scope) (λ r c x. x.scope) rs a.all a.each
      ∙ t.running in
      subst (IsChange h f) (sym a.some)
      (changes_are h f a.all (subst (Rises text_cmp) (sym scopes) (running_rises h))
      (zipped_each IsOf (IsRunningOf (scope_words h)) (λ c. IsIn c.scope c)
      (λ r c x u. subst (λ s. IsIn s c) (sym x.scope) (difference r u c x)) rs a.all a.each t.each)
      (λ s none g p.
      let stopped = sym (running_among h s) ∙ sym (ap (is_among s) scopes) ∙ none in
      stopped_lists h s g p stopped
      ∙ sym (lists s g p ∙ ap (cond (goes p ends) 0) (leaves.others s g p stopped)
      ∙ (grind arith))))
