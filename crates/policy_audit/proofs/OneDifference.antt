-- There is one difference between two counts.
use Rattle.policy_audit.proofs
use proofs.Words.{after, AllByRecursion, ap, arith, Ascends, cond, Equal, exact_bytes, exact_pids}
use proofs.Words.{false, Greater, GroupChange, is_empty, IsDifference, IsProper, Less, List}
use proofs.Words.{map, mentions, Ordering, ordering_reverse, Pid, pid_cmp, pids_total, refl, Rises}
use proofs.Words.{same, same_ascending, same_decides, same_pid, same_pid_decides, sym, text_cmp}
use proofs.Words.{texts_total, tied_itself, total, true, ℕ, [], ◌&&◌, ◌+◌, ◌∙◌, ◌∷◌, ◌≡◌}
use proofs.Accepted.{lie}

-- a text that comes before another isn't the same
pub apart : (s t : List ℕ) → text_cmp s t ≡ Less → same t s ≡ false
apart s t less = grind (arith, same_decides t s, tied_itself texts_total s)

pub above_all : (s t : List ℕ) (xs : List (List ℕ)) → text_cmp s t ≡ Less
    → AllByRecursion (λ u. text_cmp t u ≡ Less) xs → AllByRecursion (λ u. text_cmp s u ≡ Less) xs
above_all s t [] less a = tt
above_all s t (u ∷ us) less a = (texts_total.trans s t u less a.0, above_all s t us less a.1)

pub turned : (s t : List ℕ) → text_cmp s t ≡ Greater → text_cmp t s ≡ Less
turned s t g = texts_total.antisymm t s ∙ ap ordering_reverse g

-- a list in which nobody is mentioned is empty
nobody : (ps : List Pid) → ((p : Pid) → mentions p ps ≡ 0) → is_empty ps ≡ true
nobody [] m = refl
nobody (q ∷ ps) m = absurd (grind (arith, m q, same_pid_decides q q))

-- ---- how often a list of changes names a process, on one of its sides

module _ (side : GroupChange → List Pid) where
  abbrev pub times : List ℕ → Pid → List GroupChange → ℕ
  times g p cs = total (λ c. cond (same c.group g) (mentions p (side c)) 0) cs

  pub times_above : (g : List ℕ) (p : Pid) (cs : List GroupChange)
      → AllByRecursion (λ u. text_cmp g u ≡ Less) (map (λ c. c.group) cs) → times g p cs ≡ 0
  times_above g p [] a = refl
  times_above g p (c ∷ cs) a =
      ap (λ b. cond b (mentions p (side c)) 0 + times g p cs) (apart g c.group a.0)
      ∙ (let rest = times_above g p cs a.1 in omega (arith, rest))

  pub times_first : (c : GroupChange) (cs : List GroupChange)
      → Rises text_cmp (map (λ d. d.group) (c ∷ cs)) → (p : Pid)
      → times c.group p (c ∷ cs) ≡ mentions p (side c)
  times_first c cs r p = grind (arith, same_decides, times_above)

  pub times_rest : (c d : GroupChange) (cs ds : List GroupChange) → c ≡ d
      → ((g : List ℕ) (p : Pid) → times g p (c ∷ cs) ≡ times g p (d ∷ ds)) → (g : List ℕ) (p : Pid)
      → times g p cs ≡ times g p ds
  times_rest c d cs ds s m g p = grind (arith, m)

abbrev lefts : GroupChange → List Pid
lefts c = c.left

abbrev joins : GroupChange → List Pid
joins c = c.joined

-- a change that names nobody isn't one
improper : {P : Type 0} (c : GroupChange) → IsProper c → ((p : Pid) → mentions p c.left ≡ 0)
    → ((p : Pid) → mentions p c.joined ≡ 0) → P
improper c proper l j = lie (sym (λ i. nobody c.left l i && nobody c.joined j i) ∙ proper.some)

abbrev Agree : List GroupChange → List GroupChange → Type 0
Agree cs ds = ((g : List ℕ) (p : Pid) → times lefts g p cs ≡ times lefts g p ds)
    × ((g : List ℕ) (p : Pid) → times joins g p cs ≡ times joins g p ds)

-- the first of cs comes before all of ds
early : {P : Type 0} (c : GroupChange) (cs ds : List GroupChange)
    → Rises text_cmp (map (λ x. x.group) (c ∷ cs)) → IsProper c
    → AllByRecursion (λ u. text_cmp c.group u ≡ Less) (map (λ x. x.group) ds) → Agree (c ∷ cs) ds
    → P
early c cs ds r proper above m = improper c proper
    (λ p. sym (times_first lefts c cs r p) ∙ m.0 c.group p ∙ times_above lefts c.group p ds above)
    (λ p. sym (times_first joins c cs r p) ∙ m.1 c.group p ∙ times_above joins c.group p ds above)

-- the two sides of a group
one_side : (side : GroupChange → List Pid) (c d : GroupChange) (cs ds : List GroupChange)
    → Rises text_cmp (map (λ x. x.group) (c ∷ cs)) → Rises text_cmp (map (λ x. x.group) (d ∷ ds))
    → c.group ≡ d.group
    → ((g : List ℕ) (p : Pid) → times side g p (c ∷ cs) ≡ times side g p (d ∷ ds))
    → Ascends pid_cmp (side c) → Ascends pid_cmp (side d) → side c ≡ side d
one_side side c d cs ds rc rd s m ac ad =
    same_ascending pid_cmp same_pid pids_total exact_pids same_pid_decides (side c) (side d) ac ad
    (λ p. sym (times_first side c cs rc p) ∙ m c.group p ∙ ap (λ g. times side g p (d ∷ ds)) s
    ∙ times_first side d ds rd p)

pub same_changes : (cs ds : List GroupChange) → Rises text_cmp (map (λ c. c.group) cs)
    → Rises text_cmp (map (λ c. c.group) ds) → AllByRecursion IsProper cs
    → AllByRecursion IsProper ds → Agree cs ds → cs ≡ ds
same_changes [] [] rc rd pc pd m = refl
same_changes [] (d ∷ ds) rc rd pc pd m =
    early d ds [] rd pd.0 tt ((λ g p. sym (m.0 g p)), (λ g p. sym (m.1 g p)))
same_changes (c ∷ cs) [] rc rd pc pd m = early c cs [] rc pc.0 tt m
same_changes (c ∷ cs) (d ∷ ds) rc rd pc pd m =
    by (same_changes cs ds rc.1 rd.1 pc.1 pd.1) (text_cmp c.group d.group) refl
  where
    by : (Agree cs ds → cs ≡ ds) → (o : Ordering) → text_cmp c.group d.group ≡ o → c ∷ cs ≡ d ∷ ds
    by rest Less e =
        early c cs (d ∷ ds) rc pc.0 (e, above_all c.group d.group (map (λ x. x.group) ds) e rd.0) m
    by rest Greater e = early d ds (c ∷ cs) rd pd.0 (
      turned c.group d.group e,
      above_all d.group c.group (map (λ x. x.group) cs) (turned c.group d.group e) rc.0,
    )
        ((λ g p. sym (m.0 g p)), (λ g p. sym (m.1 g p)))
    by rest Equal e =
        let group : c.group ≡ d.group = exact_bytes c.group d.group e in
        let left : c.left ≡ d.left = one_side lefts c d cs ds rc rd group m.0 pc.0.left pd.0.left in
        let joined : c.joined ≡ d.joined =
        one_side joins c d cs ds rc rd group m.1 pc.0.joined pd.0.joined in
        let first : c ≡ d = λ i. record { group = group i; left = left i; joined = joined i } in
        let others : cs ≡ ds =
        rest (times_rest lefts c d cs ds first m.0, times_rest joins c d cs ds first m.1) in
        λ i. first i ∷ others i

pub one_group_difference : (before after : List ℕ → Pid → ℕ) (cs ds : List GroupChange)
    → IsDifference before after cs → IsDifference before after ds → cs ≡ ds
one_group_difference before after cs ds a b =
    same_changes cs ds a.groups b.groups a.proper b.proper (
      (λ g p. a.left g p ∙ sym (b.left g p)),
      (λ g p. a.joined g p ∙ sym (b.joined g p)),
    )
