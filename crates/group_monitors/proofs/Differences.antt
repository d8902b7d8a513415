-- What the changes of entries tell of a group is the difference of its listings, and what the
-- contents of a scope count.
use Rattle.group_monitors.proofs
use proofs.Words.{ap, append-nil, arith, Bool, cond, contents, counted, drop, drop-append_seam}
use proofs.Words.{Entry, false, flat_map, flat_map-append, group_updates, GroupChange, groups}
use proofs.Words.{History, history, inl, inr, is_among, is_watched, IsDifference, IsGroupListing}
use proofs.Words.{IsLegalIn, IsPidListing, later_than, length, length-reverse, List, listed, map}
use proofs.Words.{members, mentions, Monitor, nat_tests, one_of_many, Opening, Option}
use proofs.Words.{option_and_then, Pid, refl, reverse, reverse-append, same, same_decides, Some}
use proofs.Words.{sym, target, texts_total, times_in, times_joined, times_left, total, true}
use proofs.Words.{true≢false, Update, updates_behind, updates_of, Watches, ℕ, [], ◌++◌, ◌+◌, ◌-◌}
use proofs.Words.{◌<◌, ◌∙◌, ◌∷◌, ◌≡◌, ◌≤◌}
use Rattle.std.proofs.lemmas.Map.Lookups.{exact_bytes}
use Rattle.dist_types.specs.Order.{text_cmp}

-- updates in turn, and then others
pub counted_append : (g : List ℕ) (p : Pid) (us vs : List Update) (n : ℕ)
    → counted g p (us ++ vs) n ≡ option_and_then (counted g p vs) (counted g p us n)
counted_append g p [] vs n = refl
counted_append g p (u ∷ us) vs n = grind (arith, counted_append g p us vs)

-- both, where the first give m
then : (g : List ℕ) (p : Pid) (us vs : List Update) (n m : ℕ) (r : Option ℕ)
    → counted g p us n ≡ Some m → counted g p vs m ≡ r → counted g p (us ++ vs) n ≡ r
then g p us vs n m r first second = counted_append g p us vs n
    ∙ ap (option_and_then (counted g p vs)) first ∙ second

-- what one more entry gives comes last
pub told_last : (f : Entry → List Update) (e : Entry) (es : List Entry)
    → flat_map f (reverse (e ∷ es)) ≡ flat_map f (reverse es) ++ f e
told_last f e es =
    rw (reverse-append (e ∷ []) es, flat_map-append f (reverse es) (e ∷ []), append-nil) refl

module _ (g : List ℕ) (p : Pid) where
  -- how often p left g by the change of a group, and how often it joined
  abbrev few : List ℕ → List Pid → ℕ
  few f ps = cond (same f g) (mentions p ps) 0

  -- the updates of one group's change
  group_told : (f : List ℕ) (left joined : List Pid) (n : ℕ) → few f left ≤ n
      → counted g p (group_updates (record { group = f; left = left; joined = joined })) n ≡ Some
      (n - few f left + few f joined)
  group_told f [] [] n le = grind (arith, nat_tests)
  group_told f [] (r ∷ rs) n le = grind (arith, nat_tests)
  group_told f (q ∷ qs) [] n le = grind (arith, nat_tests)
  group_told f (q ∷ qs) (r ∷ rs) n le = grind (arith, nat_tests)

  module _ (watched : Option (List ℕ)) (all : (c : GroupChange) → same c.group g ≡ true
      → is_watched watched c ≡ true) where
    abbrev piece : GroupChange → List Update
    piece c = cond (is_watched watched c) (group_updates c) []

    -- the updates of all groups of an entry's change
    groups_told : (cs : List GroupChange) (n : ℕ) → times_left g p cs ≤ n
        → counted g p (flat_map piece cs) n ≡ Some (n - times_left g p cs + times_joined g p cs)
    groups_told [] n le = ap Some (let same : n ≡ n - 0 + 0 = omega arith in same)
    groups_told (c ∷ cs) n le =
        let first : counted g p (piece c) n ≡ Some (n - few c.group c.left + few c.group c.joined) =
        grind (arith, all c, group_told c.group c.left c.joined n) in
        then g p (piece c) (flat_map piece cs) n (n - few c.group c.left + few c.group c.joined)
        _ first (groups_told cs _ (omega arith) ∙ ap Some (omega arith))

    -- so the difference of two counts leads from the one to the other
    difference_told : (before after : List ℕ → Pid → ℕ) (cs : List GroupChange)
        → IsDifference before after cs
        → counted g p (flat_map piece cs) (before g p) ≡ Some (after g p)
    difference_told before after cs is = let left = is.left g p in let joined = is.joined g p in
        groups_told cs (before g p) (omega arith) ∙ ap Some (omega arith)

    -- ---- the updates of further entries of a history

    further_told : (o : Opening) (s : List ℕ) (es ks : List Entry) → IsLegalIn o (es ++ ks)
        → counted g p (flat_map (λ e. updates_of (record { scope = s; group = watched }) e.change)
        (reverse es)) (listed (history o ks) s g p) ≡ Some (listed (history o (es ++ ks)) s g p)
    further_told o s [] ks legal = refl
    further_told o s (e ∷ es) ks legal =
        let f : Entry → List Update =
        λ e. updates_of (record { scope = s; group = watched }) e.change in
        ap (λ us. counted g p us (listed (history o ks) s g p)) (told_last f e es)
        ∙ then g p (flat_map f (reverse es)) (f e) (listed (history o ks) s g p)
        (listed (history o (es ++ ks)) s g p) _
        (further_told o s es ks legal.1)
        (difference_told (listed (history o (es ++ ks)) s) (listed (history o (e ∷ es ++ ks)) s)
        _ (legal.0.change.groups s))

-- the monitor's group is told of
watched_told : (g : List ℕ) (m : Monitor) → Watches g m → (c : GroupChange) → same c.group g ≡ true
    → is_watched m.group c ≡ true
watched_told g m (inl one) c this = ap (λ w. is_watched w c) one ∙ this
watched_told g m (inr every) c this = ap (λ w. is_watched w c) every

-- the entries behind a place are the further ones
pub further : (es ks : List Entry) → later_than (length ks) (es ++ ks) ≡ reverse es
further es ks =
    ap (drop (length ks)) (reverse-append es ks) ∙ ap (λ n. drop n (reverse ks ++ reverse es))
    (sym (length-reverse ks)) ∙ drop-append_seam (reverse ks) (reverse es)

pub told : (o : Opening) (es ks : List Entry) → IsLegalIn o (es ++ ks) → (m : Monitor)
    → m.place ≡ length ks → (g : List ℕ) → Watches g m → (p : Pid)
    → counted g p (updates_behind (es ++ ks) m) (listed (history o ks) m.scope g p)
    ≡ Some (listed (history o (es ++ ks)) m.scope g p)
told o es ks legal m at g watches p =
    let behind : later_than m.place (es ++ ks) ≡ reverse es =
    ap (λ n. later_than n (es ++ ks)) at ∙ further es ks in
    ap (λ l. counted g p (flat_map (λ e. updates_of (target m) e.change) l)
    (listed (history o ks) m.scope g p)) behind
    ∙ further_told g p m.group (watched_told g m watches) o m.scope es ks legal

-- in the groups' contents as in the groups
of_groups : (g : List ℕ) (p : Pid) (pids : List ℕ → List Pid) (gs : List (List ℕ))
    → times_in g p (map (λ f. record { group = f; pids = pids f }) gs) ≡ total
    (λ f. cond (same f g) (mentions p (pids f)) 0) gs
of_groups g p pids [] = refl
of_groups g p pids (f ∷ gs) = ap (λ n. cond (same f g) (mentions p (pids f)) 0 + n)
    (of_groups g p pids gs)

pub contents_count : (h : History) (s g : List ℕ) (p : Pid)
    → IsPidListing (listed h s g) (members h s g) → IsGroupListing (listed h s) (groups h s)
    → times_in g p (contents h s) ≡ listed h s g p
contents_count h s g p pids gs =
    of_groups g p (members h s) (groups h s) ∙ one_of_many text_cmp same texts_total exact_bytes
    same_decides (λ f. mentions p (members h s f)) g (groups h s) gs.rises
    ∙ by (is_among g (groups h s)) refl
  where
    by : (b : Bool) → is_among g (groups h s) ≡ b
        → cond b (mentions p (members h s g)) 0 ≡ listed h s g p
    by true is = pids.counts p
    by false is = let none = λ (some : 0 < listed h s g p). true≢false
        (sym (gs.only g p some) ∙ is) in omega arith
