-- The difference of two histories, from the differences in its scopes; and that there is one.
use Rattle.policy_audit.proofs
use proofs.Words.{after, AllByRecursion, ap, append-nil, arith, bare_entry, Bool, Change, change}
use proofs.Words.{cond, Entry, entry_of, Equal, exact_bytes, false, filter, Greater, GroupChange}
use proofs.Words.{groups_in, History, is_among, is_empty, IsChange, IsDifference, IsNext, Less}
use proofs.Words.{List, listed, lt-ltb, map, next_number, not, Ordering, Pid, refl, Rises, same}
use proofs.Words.{same_decides, subst, sym, text_cmp, true, verdict, Verdict, with_entry, ℕ, []}
use proofs.Words.{◌++◌, ◌||◌, ◌∙◌, ◌∷◌, ◌≡◌}
use proofs.OneDifference.{above_all, apart, one_group_difference, turned}
use proofs.ChangeLemmas.{change_as, change_is, no_difference}
use proofs.Accepted.{lie}
use proofs.LostWords.{change_unread}

-- ---- changes by scope

-- the changes that name a group
abbrev pub with_groups : List Change → List Change
with_groups cs = filter (λ c. not (is_empty c.groups)) cs

kept_above : (s : List ℕ) (cs : List Change)
    → AllByRecursion (λ t. text_cmp s t ≡ Less) (map (λ c. c.scope) cs)
    → AllByRecursion (λ t. text_cmp s t ≡ Less) (map (λ c. c.scope) (with_groups cs))
kept_above s [] a = tt
kept_above s (c ∷ cs) a = grind (arith, a.0, kept_above s cs a.1)

kept_rises : (cs : List Change) → Rises text_cmp (map (λ c. c.scope) cs)
    → Rises text_cmp (map (λ c. c.scope) (with_groups cs))
kept_rises [] r = tt
kept_rises (c ∷ cs) r = grind (arith, kept_above c.scope cs r.0, kept_rises cs r.1)

kept_some : (cs : List Change) → AllByRecursion (λ c. is_empty c.groups ≡ false) (with_groups cs)
kept_some [] = tt
kept_some (c ∷ cs) = grind (arith, kept_some cs)

-- a scope that no change is of
no_groups : (s : List ℕ) (cs : List Change) → is_among s (map (λ c. c.scope) cs) ≡ false
    → groups_in s cs ≡ []
no_groups s [] q = refl
no_groups s (c ∷ cs) q = grind (arith, no_groups s cs)

none_above : (s : List ℕ) (xs : List (List ℕ)) → AllByRecursion (λ t. text_cmp s t ≡ Less) xs
    → is_among s xs ≡ false
none_above s [] a = refl
none_above s (t ∷ ts) a = grind (arith, apart s t a.0, none_above s ts a.1)

-- the groups of the first scope
first_groups : (c : Change) (cs : List Change) → Rises text_cmp (map (λ d. d.scope) (c ∷ cs))
    → groups_in c.scope (c ∷ cs) ≡ c.groups
first_groups c cs r = grind (
  arith,
  same_decides c.scope c.scope,
  no_groups c.scope cs (none_above c.scope (map (λ d. d.scope) cs) r.0),
  append-nil,
)

kept_groups : (s : List ℕ) (cs : List Change) → groups_in s (with_groups cs) ≡ groups_in s cs
kept_groups s [] = refl
kept_groups s (c ∷ cs) = grind (arith, kept_groups s cs)

module _ (h k : History) where
  abbrev Differ : List ℕ → List GroupChange → Type 0
  Differ s gs = IsDifference (listed h s) (listed k s) gs

  found : (s : List ℕ) (cs : List Change) → Rises text_cmp (map (λ c. c.scope) cs)
      → AllByRecursion (λ c. Differ c.scope c.groups) cs → is_among s (map (λ c. c.scope) cs) ≡ true
      → Differ s (groups_in s cs)
  found s [] r a q = lie (sym q)
  found s (c ∷ cs) r a q = by (found s cs r.1 a.1) (same c.scope s) refl q
    where
      by : (is_among s (map (λ d. d.scope) cs) ≡ true → Differ s (groups_in s cs)) → (b : Bool)
          → same c.scope s ≡ b → (b || is_among s (map (λ d. d.scope) cs)) ≡ true
          → Differ s (cond b c.groups [] ++ groups_in s cs)
      by others false m q = others q
      by others true m q =
          let here : c.scope ≡ s = (same_decides c.scope s).0 m in
          let rest : groups_in s cs ≡ [] =
          no_groups s cs (none_above s (map (λ d. d.scope) cs)
          (subst (λ t. AllByRecursion (λ u. text_cmp t u ≡ Less) (map (λ d. d.scope) cs)) here
          r.0)) in
          subst (λ gs. Differ s (c.groups ++ gs)) (sym rest)
          (subst (Differ s) (sym (append-nil c.groups))
          (subst (λ t. Differ t c.groups) here a.0))

  -- the differences in all scopes that may have one are the change
  pub changes_are : (cs : List Change) → Rises text_cmp (map (λ c. c.scope) cs)
      → AllByRecursion (λ c. IsDifference (listed h c.scope) (listed k c.scope) c.groups) cs
      → ((s : List ℕ) → is_among s (map (λ c. c.scope) cs) ≡ false → (g : List ℕ) (p : Pid)
      → listed h s g p ≡ listed k s g p)
      → IsChange h k (filter (λ c. not (is_empty c.groups)) cs)
  changes_are cs r a others = record {
    scopes = kept_rises cs r;
    some = kept_some cs;
    groups = λ s. subst (Differ s) (sym (kept_groups s cs))
        (by s (is_among s (map (λ c. c.scope) cs)) refl);
  }
    where
      by : (s : List ℕ) (b : Bool) → is_among s (map (λ c. c.scope) cs) ≡ b
          → Differ s (groups_in s cs)
      by s true q = found s cs r a q
      by s false q = subst (Differ s) (sym (no_groups s cs q)) (no_difference h k s (others s q))

-- ---- there is one change

-- the first scope of cs comes before all of ds
too_early : {P : Type 0} (c : Change) (cs ds : List Change)
    → Rises text_cmp (map (λ x. x.scope) (c ∷ cs)) → is_empty c.groups ≡ false
    → AllByRecursion (λ t. text_cmp c.scope t ≡ Less) (map (λ x. x.scope) ds)
    → groups_in c.scope (c ∷ cs) ≡ groups_in c.scope ds → P
too_early c cs ds r some above m = grind (arith, first_groups, no_groups, none_above)

same_scopes : (cs ds : List Change) → Rises text_cmp (map (λ c. c.scope) cs)
    → Rises text_cmp (map (λ c. c.scope) ds) → AllByRecursion (λ c. is_empty c.groups ≡ false) cs
    → AllByRecursion (λ c. is_empty c.groups ≡ false) ds
    → ((s : List ℕ) → groups_in s cs ≡ groups_in s ds) → cs ≡ ds
same_scopes [] [] rc rd sc sd m = refl
same_scopes [] (d ∷ ds) rc rd sc sd m = too_early d ds [] rd sd.0 tt (sym (m d.scope))
same_scopes (c ∷ cs) [] rc rd sc sd m = too_early c cs [] rc sc.0 tt (m c.scope)
same_scopes (c ∷ cs) (d ∷ ds) rc rd sc sd m =
    by (same_scopes cs ds rc.1 rd.1 sc.1 sd.1) (text_cmp c.scope d.scope) refl
  where
    rest : c.scope ≡ d.scope → (s : List ℕ) → (a : Bool) → same c.scope s ≡ a → (b : Bool)
        → same d.scope s ≡ b → cond a c.groups [] ++ groups_in s cs
        ≡ cond b d.groups [] ++ groups_in s ds → groups_in s cs ≡ groups_in s ds
    rest e s true a b q n =
        no_groups s cs (none_above s (map (λ x. x.scope) cs)
        (subst (λ t. AllByRecursion (λ u. text_cmp t u ≡ Less) (map (λ x. x.scope) cs))
        ((same_decides c.scope s).0 a) rc.0))
        ∙ sym (no_groups s ds (none_above s (map (λ x. x.scope) ds)
        (subst (λ t. AllByRecursion (λ u. text_cmp t u ≡ Less) (map (λ x. x.scope) ds))
        (sym e ∙ (same_decides c.scope s).0 a) rd.0)))
    rest e s false a false q n = n
    rest e s false a true q n = lie (sym q ∙ ap (λ t. same t s) (sym e) ∙ a)

    by : (((s : List ℕ) → groups_in s cs ≡ groups_in s ds) → cs ≡ ds) → (o : Ordering)
        → text_cmp c.scope d.scope ≡ o → c ∷ cs ≡ d ∷ ds
    by others Less e =
        too_early c cs (d ∷ ds) rc sc.0 (
          e,
          above_all c.scope d.scope (map (λ x. x.scope) ds) e rd.0,
        ) (m c.scope)
    by others Greater e = too_early d ds (c ∷ cs) rd sd.0 (
      turned c.scope d.scope e,
      above_all d.scope c.scope (map (λ x. x.scope) cs) (turned c.scope d.scope e) rc.0,
    )
        (sym (m d.scope))
    by others Equal e =
        let scope : c.scope ≡ d.scope = exact_bytes c.scope d.scope e in
        let groups : c.groups ≡ d.groups =
        sym (first_groups c cs rc) ∙ m c.scope ∙ ap (λ s. groups_in s (d ∷ ds)) scope
        ∙ first_groups d ds rd in
        let tail : cs ≡ ds =
        others (λ s. rest scope s (same c.scope s) refl (same d.scope s) refl (m s)) in
        λ i. record { scope = scope i; groups = groups i } ∷ tail i

pub one_change : (h k : History) (cs ds : List Change) → IsChange h k cs → IsChange h k ds → cs ≡ ds
one_change h k cs ds a b =
    same_scopes cs ds a.scopes b.scopes a.some b.some
    (λ s. one_group_difference (listed h s) (listed k s) (groups_in s cs) (groups_in s ds)
    (a.groups s) (b.groups s))

-- ---- so the next entry is the one that the policy computes

pub next_is_entry : (h : History) (e : Entry) → IsNext h e → e ≡ entry_of h e.seat e.event
next_is_entry h e next = λ i. record {
  number = next.number i;
  seat = e.seat;
  event = e.event;
  verdict = next.verdict i;
  change = same_change i;
}
  where
    its : IsChange h (with_entry h (bare_entry h e.seat e.event (verdict h e.seat e.event)))
        e.change
    its =
        let moved = subst
        (λ (x : ℕ × Verdict). IsChange h
        (with_entry h (record {
          number = x.0;
          seat = e.seat;
          event = e.event;
          verdict = x.1;
          change = e.change;
        })) e.change) (λ i. (next.number i, next.verdict i)) next.change in
        change_as h _ _
        (λ s g p. sym (change_unread h
        (record {
          number = next_number h;
          seat = e.seat;
          event = e.event;
          verdict = verdict h e.seat e.event;
          change = e.change;
        }) [] s g p)) e.change moved

    same_change : e.change
        ≡ change h (with_entry h (bare_entry h e.seat e.event (verdict h e.seat e.event)))
    same_change =
        one_change h (with_entry h (bare_entry h e.seat e.event (verdict h e.seat e.event)))
        e.change _ its
        (change_is h (with_entry h (bare_entry h e.seat e.event (verdict h e.seat e.event))))

pub next_is_after : (h : History) (e : Entry) → IsNext h e → with_entry h e ≡ after h e.seat e.event
next_is_after h e next = grind (arith, next_is_entry, lt-ltb)
