-- Groups that an answer doesn't name have the members that they had.
use Rattle.scope_core.proofs.Words
use Words.{AllByRecursion, arith, Bool, cond, Counted, false, GroupChange, has_members, is_empty}
use Words.{is_named, is_row, is_there, IsDifference, IsProper, List, mentions, nat_lt, Pid, refl}
use Words.{same, same_decides, same_pid_decides, sym, tally, times_joined, times_left, total, true}
use Words.{[], ℕ, ◌&&◌, ◌+◌, ◌<◌, ◌∷◌, ◌≡◌, ◌≤◌}

named_total : (part : GroupChange → List Pid) (g : List ℕ) (p : Pid) (changes : List GroupChange)
    → is_named g changes ≡ false
    → total (λ c. cond (same c.group g) (mentions p (part c)) 0) changes ≡ 0
named_total part g p [] e = refl
named_total part g p (c ∷ cs) e = grind (arith, named_total part g p cs)

-- in a group that isn't named as many processes are counted after as before
pub unnamed_same : (before after : List ℕ → Pid → ℕ) (changes : List GroupChange)
    → IsDifference before after changes → (g : List ℕ) → is_named g changes ≡ false → (p : Pid)
    → before g p ≡ after g p
unnamed_same before after changes d g e p =
    let left = named_total (λ c. c.left) g p changes e in
    omega (arith, named_total (λ c. c.joined) g p changes e, d.left g p, d.joined g p)

-- in a group that is named somebody leaves or joins
pub named_moves : (g : List ℕ) (cs : List GroupChange) → AllByRecursion IsProper cs
    → is_named g cs ≡ true → (p : Pid) × (0 < times_left g p cs + times_joined g p cs)
named_moves g [] a e = grind arith
named_moves g (c ∷ cs) a e =
    by (same c.group g) c.left c.joined refl refl refl a.0.some (named_moves g cs a.1)
  where
    by : (b : Bool) (l j : List Pid) → same c.group g ≡ b → c.left ≡ l → c.joined ≡ j
        → (is_empty l && is_empty j) ≡ false
        → (is_named g cs ≡ true → (p : Pid) × (0 < times_left g p cs + times_joined g p cs))
        → (p : Pid) × (0 < times_left g p (c ∷ cs) + times_joined g p (c ∷ cs))
    by true (q ∷ l) j s x y m rest = (q, grind (arith, same_pid_decides))
    by true [] (q ∷ j) s x y m rest = (q, grind (arith, same_pid_decides))
    by true [] [] s x y m rest = grind arith
    by false l j s x y m rest = grind arith

pub row_there : (g : List ℕ) (p : Pid) (rows : List Counted)
    → tally (is_row g p) rows ≤ tally (is_there g p.node) rows
row_there g p [] = omega arith
row_there g p (c ∷ cs) = grind (arith, row_there g p cs)

-- who is counted somewhere is counted by name
pub some_row : (g n : List ℕ) (rows : List Counted) → 0 < tally (is_there g n) rows → (p : Pid)
    × (p.node ≡ n) × (0 < tally (is_row g p) rows)
some_row g n [] l = grind arith
some_row g n (c ∷ cs) l = by (is_there g n c.row) (nat_lt 0 c.count) refl refl (some_row g n cs)
  where
    by : (b s : Bool) → is_there g n c.row ≡ b → nat_lt 0 c.count ≡ s
        → (0 < tally (is_there g n) cs → (p : Pid) × (p.node ≡ n) × (0 < tally (is_row g p) cs))
        → (p : Pid) × (p.node ≡ n) × (0 < tally (is_row g p) (c ∷ cs))
    by true true e s rest = grind (arith, same_decides, same_pid_decides)
    by true false e s rest = grind arith
    by false s e t rest = grind arith

-- where each process is counted as often, or more often, a node with processes has some
pub some_more : (g n : List ℕ) (xs ys : List Counted)
    → ((p : Pid) → p.node ≡ n → tally (is_row g p) xs ≤ tally (is_row g p) ys)
    → has_members g n xs ≡ true → has_members g n ys ≡ true
some_more g n xs ys e h = grind (arith, some_row, row_there)

-- rows with the same count of each process have processes in the same groups
pub same_members : (g n : List ℕ) (xs ys : List Counted)
    → ((p : Pid) → p.node ≡ n → tally (is_row g p) xs ≡ tally (is_row g p) ys)
    → has_members g n xs ≡ has_members g n ys
same_members g n xs ys e =
    by (has_members g n xs) (has_members g n ys) (some_more g n xs ys (λ p m. omega (arith, e p m)))
    (some_more g n ys xs (λ p m. omega (arith, e p m)))
  where
    by : (a b : Bool) → (a ≡ true → b ≡ true) → (b ≡ true → a ≡ true) → a ≡ b
    by true b f h = sym (f refl)
    by false true f h = h refl
    by false false f h = refl
