-- One scope whose own rows have changed, and the links that are told of it.
use Rattle.node_core.proofs
use proofs.Words.{Alike, ap, AreTold, arith, Bool, Change, cond, count_of, facts, false, Follows}
use proofs.Words.{get_or, heard, History, if_among, if_some, if_told, is_empty, is_number, IsChange}
use proofs.Words.{IsDifference, IsMovedBy, IsOwnChange, IsRunningOf, KeptLink, link_version, List}
use proofs.Words.{listed, Message, not, OutFrame, Parts, Pid, refl, Row, rules, Running}
use proofs.Words.{running_rises, running_scopes, said_in, said_to, same, scope_place, scope_words}
use proofs.Words.{ScopesFollow, set, set-get_or, Some, subst, sym, told, true, ℕ, [], ◌==◌, ◌||◌}
use proofs.Words.{◌∙◌, ◌≡◌}
use Rattle.scope_core.specs.Calls.{Counts}
use proofs.Scopes.{counts_listed}
use proofs.MessagePlaces.{scope_here}
use proofs.OneScope.{one_scope_follows, scope_change}
use proofs.Told.{alike_again, IsItsWay}

-- ---- what waits for the links that are told

told_frames : (rows : List Row) (numbers : List ℕ) (frames : Bool → List OutFrame) (l : ℕ)
    (parted version is_told : Bool) → is_number l numbers ≡ is_told
    → (is_told ≡ true → parted ≡ version)
    → cond (is_empty rows || not is_told) [] (frames version)
    ≡ if_among (cond (not (is_empty rows)) numbers []) frames l parted
told_frames rows numbers frames l parted version true q way = grind (arith, q, way refl)
told_frames rows numbers frames l parted version false q way = grind (arith, q)

-- a link that is told takes messages by its version
told_way : (h : History) (l : ℕ) (s : List ℕ) (parted : Bool) → IsItsWay (facts h l) parted
    → told h.opening l s h.entries ≡ true → parted ≡ (link_version h.opening l h.entries == 2)
told_way h l s parted way told_so = grind (arith, way)

-- what the policy owes to a link for rows is what the links of these numbers are told
pub rows_told : (h : History) (l : ℕ) (s : List ℕ) (say : List Row → Message) (rows : List Row)
    (numbers : List ℕ) (parted : Bool) → IsItsWay (facts h l) parted
    → is_number l numbers ≡ told h.opening l s h.entries
    → if_told h l s say rows
    ≡ if_among (cond (not (is_empty rows)) numbers []) (said_in (say rows)) l parted
rows_told h l s say rows numbers parted way q =
    told_frames rows numbers (said_in (say rows)) l parted
    (link_version h.opening l h.entries == 2) (told h.opening l s h.entries) q
    (told_way h l s parted way)

-- ---- one scope after a change of its own rows

-- one scope after its rows have changed: the links that are told there are told this message
pub record IsMoved (m : Message) (count : List ℕ → Pid → ℕ) (old new : Running)
    (links_old links_new : List KeptLink) (cs : List Change) : Type 0 where
  pub scope : new.scope ≡ old.scope
  pub heard : new.heard.items ≡ old.heard.items
  pub told : new.told.items ≡ old.told.items
  pub rows : Counts old.table new.table count
  pub own : IsOwnChange old count cs
  pub links : AreTold (if_among (said_to old.told.items m) (said_in m)) links_old links_new

-- the same, where a link ends with it: the changes of own rows were made beforehand
pub moved_so : {m : Message} {count : List ℕ → Pid → ℕ} {old new : Running}
    {links links_new : List KeptLink} {cs own : List Change} → IsMovedBy count old new cs
    → AreTold (if_among (said_to old.told.items m) (said_in m)) links links_new
    → IsOwnChange old count own → IsMoved m count old new links links_new own
moved_so by links own = search rules

module _ (h : History) (seat : ℕ) (parts : Parts) (t : Follows h parts) (s : List ℕ) (p : ℕ)
    (here : scope_place s parts.scopes ≡ Some p) (a b : Running) (at : a ≡ get_or parts.scopes p a)
    (m : Message) (count : List ℕ → Pid → ℕ) (links : List KeptLink) (cs : List Change)
    (moved : IsMoved m count a b parts.links links cs) where
  its_scope : a.scope ≡ s
  its_scope = (scope_here t s here at).named

  module _ (k : History) (rows : (f : List ℕ) (q : Pid) → listed k s f q ≡ count f q)
      (others : (u f : List ℕ) (q : Pid) → same u s ≡ false → listed h u f q ≡ listed k u f q) where
    now_counted : (f : List ℕ) (q : Pid) → count_of b.table f q ≡ listed k b.scope f q
    now_counted f q = moved.rows.counts f q ∙ sym (rows f q)
        ∙ ap (λ u. listed k u f q) (sym (moved.scope ∙ its_scope))

    pub moved_change : IsChange h k cs
    moved_change =
        let own = moved.own in
        subst (IsChange h k) (sym (own.changes ∙ ap (λ u. if_some u own.groups) its_scope))
        (scope_change h k s own.groups
        (subst (λ f. IsDifference f (listed k s) own.groups)
        (counts_listed h s a its_scope (scope_here t s here at).running)
        (subst (λ f. IsDifference (count_of a.table) f own.groups) (λ i f q. sym (rows f q) i)
        own.difference))
        others)

  -- the scopes after it
  module _ (k : History) (rows : (f : List ℕ) (q : Pid) → listed k s f q ≡ count f q)
      (others : (u f : List ℕ) (q : Pid) → same u s ≡ false → listed h u f q ≡ listed k u f q)
      (running : running_scopes k ≡ running_scopes h) (own_name : k.opening.name ≡ h.opening.name)
      (hears : (l : ℕ) (u : List ℕ) → heard k.opening l u k.entries ≡ heard h.opening l u h.entries)
      (tells : (l : ℕ) (u : List ℕ) → told k.opening l u k.entries ≡ told h.opening l u h.entries)
    where
      abbrev there : IsRunningOf (scope_words h) a
      there = (scope_here t s here at).running

      changed : IsRunningOf (scope_words k) b
      changed = record {
        own = moved.rows.own ∙ there.own ∙ sym own_name;
        rows = now_counted k rows others;
        heard = λ l. ap (is_number l) moved.heard ∙ there.heard l
            ∙ ap (λ u. heard h.opening l u h.entries) (sym moved.scope) ∙ sym (hears l b.scope);
        told = λ l. ap (is_number l) moved.told ∙ there.told l
            ∙ ap (λ u. told h.opening l u h.entries) (sym moved.scope) ∙ sym (tells l b.scope);
      }

      still : (r : Running) → same r.scope s ≡ false → IsRunningOf (scope_words h) r
          → IsRunningOf (scope_words k) r
      still r other q = record {
        own = q.own ∙ sym own_name;
        rows = λ f x. q.rows f x ∙ others r.scope f x other;
        heard = λ l. q.heard l ∙ sym (hears l r.scope);
        told = λ l. q.told l ∙ sym (tells l r.scope);
      }

      pub moved_scopes : ScopesFollow (scope_words k) (set parts.scopes p b)
      moved_scopes = one_scope_follows (scope_words h) (scope_words k) s b changed
          (moved.scope ∙ its_scope) still
          parts.scopes p a t.scopes (running_rises h) running (scope_here t s here at).within
          (sym (ap (λ r. r.scope) at) ∙ its_scope)

  -- what is told of rows, to links of which as many are told as the policy says
  pub moved_frames : (say : List ℕ → List Row → Message) (brought : List Row) (l : ℕ)
      (parted : Bool) → IsItsWay (facts h l) parted
      → if_told h l s (say s) brought
      ≡ if_among (cond (not (is_empty brought)) a.told.items []) (said_in (say a.scope brought)) l
      parted
  moved_frames say brought l parted way =
      let there = (scope_here t s here at).running in
      rows_told h l s (say s) brought a.told.items parted way
      (there.told l ∙ ap (λ u. told h.opening l u h.entries) its_scope)
      ∙ ap (λ u. if_among (cond (not (is_empty brought)) a.told.items []) (said_in (say u brought))
      l
      parted) (sym its_scope)

-- ---- where nothing was moved

-- all is as before where the scope at the place is the same, and the links are but for their room
pub unmoved : {h : History} {parts : Parts} → Follows h parts → (p : ℕ) {a b : Running}
    → a ≡ get_or parts.scopes p a → b ≡ a → {links : List KeptLink} → Alike parts.links links
    → Follows h (record parts { scopes = set parts.scopes p b; links = links })
unmoved {h} {parts} t p {a} at same {links} alike =
    subst (λ rs. Follows h (record parts { scopes = rs; links = links }))
    (sym ((λ i. set parts.scopes p ((same ∙ at) i)) ∙ set-get_or parts.scopes p a))
    (alike_again t links alike)
