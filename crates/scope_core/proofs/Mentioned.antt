-- Processes in order: those that are the same stand in a run.
use Rattle.scope_core.proofs
use proofs.Words
use Words.{AllByRecursion, AllWithin, ap, append_assoc, arith, Ascends, cases_lt, drop, exact_pids}
use Words.{false, how_many_append, how_many_is, how_many_replicate, inl, inr, is_gt}
use Words.{IsPartitionedBy, length, length-filter, length-take-le, List, mentions, min, Pid}
use Words.{pid_cmp, pids_total, refl, replicate, same_pid, same_pid_decides, subst, suc, sym, take}
use Words.{take-append-drop, true, zero, [], ℕ, ◌++◌, ◌+◌, ◌∙◌, ◌∷◌, ◌≡◌, ◌≤◌}
use proofs.Runs.{all_at, filter_takes}

-- where neither comes after the other, they are the same
neither_above : (p q : Pid) → is_gt (pid_cmp p q) ≡ false → is_gt (pid_cmp q p) ≡ false → p ≡ q
neither_above p q a b = grind (arith, exact_pids, pids_total.antisymm)

-- behind a process, those that are the same come first
pub run_partitions : (q : Pid) (ps : List Pid) → Ascends pid_cmp (q ∷ ps)
    → IsPartitionedBy (λ x. same_pid x q) ps
run_partitions q [] a i j d l h e = grind arith
run_partitions q (p ∷ ps) a zero zero d l h e = e
run_partitions q (p ∷ ps) a zero (suc j) d l h e =
    let up = all_at (λ x. is_gt (pid_cmp p x) ≡ false) ps j d a.1.0 (omega arith) in
    grind (arith, same_pid_decides, neither_above p q)
run_partitions q (p ∷ ps) a (suc i) zero d l h e = grind arith
run_partitions q (p ∷ ps) a (suc i) (suc j) d l h e =
    run_partitions q ps (a.0.1, a.1.1) i j d (omega arith) (omega arith) e

-- so the front is a run of the same
pub front_is : (q : Pid) (n : ℕ) (ps : List Pid) → n ≤ length ps
    → AllWithin (λ x. same_pid x q ≡ true) ps 0 n → take n ps ≡ replicate n q
front_is q zero ps l a = refl
front_is q (suc n) [] l a = grind arith
front_is q (suc n) (p ∷ ps) l a =
    let rest = front_is q n ps (omega arith) (λ k d m h. a (suc k) d (omega arith) (omega arith)) in
    grind (arith, same_pid_decides, a 0 p)

-- and there are no more of them behind it
pub front_counts : (q : Pid) (n : ℕ) (ps : List Pid) → n ≤ length ps
    → AllWithin (λ x. same_pid x q ≡ true) ps 0 n
    → AllWithin (λ x. same_pid x q ≡ false) ps n (length ps) → n ≡ mentions q ps
front_counts q n ps l a b =
    let test = λ (x : Pid). same_pid x q in
    sym (how_many_is test ps ∙ sym (length-filter test ps)
    ∙ ap length (filter_takes test n ps l a b) ∙ length-take-le n ps l)

-- ---- less of a run

all_without : (P : Pid → Type 0) (xs : List Pid) (y : Pid) (zs : List Pid)
    → AllByRecursion P (xs ++ y ∷ zs) → AllByRecursion P (xs ++ zs)
all_without P [] y zs a = a.1
all_without P (x ∷ xs) y zs a = (a.0, all_without P xs y zs a.1)

ascends_without : (xs : List Pid) (y : Pid) (zs : List Pid) → Ascends pid_cmp (xs ++ y ∷ zs)
    → Ascends pid_cmp (xs ++ zs)
ascends_without [] y zs a = a.1
ascends_without (x ∷ xs) y zs a =
    (all_without (λ p. is_gt (pid_cmp x p) ≡ false) xs y zs a.0, ascends_without xs y zs a.1)

-- a run in the midst may be shorter
ascends_less : (xs : List Pid) (q : Pid) (m n : ℕ) (zs : List Pid) → m ≤ n
    → Ascends pid_cmp (xs ++ (replicate n q ++ zs)) → Ascends pid_cmp (xs ++ (replicate m q ++ zs))
ascends_less xs q zero zero zs l a = a
ascends_less xs q (suc m) zero zs l a = grind arith
ascends_less xs q m (suc n) zs l a = elim (cases_lt m (suc n)) [
  | inl b ↦ ascends_less xs q m n zs (omega arith) (ascends_without xs q (replicate n q ++ zs) a)
  | inr b ↦ let e : suc n ≡ m = omega arith in
      subst (λ k. Ascends pid_cmp (xs ++ (replicate k q ++ zs))) e a
]

pub ascends_behind : (xs ys : List Pid) → Ascends pid_cmp (xs ++ ys) → Ascends pid_cmp ys
ascends_behind [] ys a = a
ascends_behind (x ∷ xs) ys a = ascends_behind xs ys a.1

module _ (q : Pid) (n : ℕ) (ps : List Pid) (run : take n ps ≡ replicate n q) where
  front_first : ps ≡ replicate n q ++ drop n ps
  front_first = grind (arith, take-append-drop)

  -- some of the run are put behind those that are gone, and the rest of it is passed over
  pub ascends_on : (gone : List Pid) (m : ℕ) → m ≤ n + 1 → Ascends pid_cmp (gone ++ q ∷ ps)
      → Ascends pid_cmp ((gone ++ replicate m q) ++ drop n ps)
  ascends_on gone m l a =
      subst (Ascends pid_cmp) (sym (append_assoc gone (replicate m q) (drop n ps)))
      (ascends_less gone q m (suc n) (drop n ps) (omega arith)
      (subst (λ xs. Ascends pid_cmp (gone ++ q ∷ xs)) front_first a))

  -- as many are put there as count has of them
  pub counts_on : n ≡ mentions q ps → (count : Pid → ℕ) (gone : List Pid) (m : ℕ)
      → m ≡ min (count q) (n + 1) → (p : Pid)
      → mentions p (gone ++ replicate m q) + min (mentions p (drop n ps)) (count p)
      ≡ mentions p gone + min (mentions p (q ∷ ps)) (count p)
  counts_on all count gone m is p =
      grind (arith, front_first, how_many_append, how_many_replicate, same_pid_decides)
