-- Changes of own rows, as they are made before they happen.
use Rattle.node_core.proofs
use Rattle.node_core.specs
use proofs.Words.{Alike, All, AllByRecursion, AllZip, AreIdle, ArePrepared, arith, Bool, Change}
use proofs.Words.{cond, count_after_join, count_after_leave, count_of, Err, false, filter, get_or}
use proofs.Words.{get_or_default, GroupChange, if_some, is_empty, IsDifference, IsParting}
use proofs.Words.{IsPidListing, IsProper, KeptLink, length, List, local_count, map, mentions, min}
use proofs.Words.{None, not, Ok, OnErr, OnOk, Option, OutFrame, Pid, refl, Result, Running, same}
use proofs.Words.{same_decides, same_pid, same_pid_decides, same_sym, Some, subst, sym, Table}
use proofs.Words.{unroomed, with_prepared, ℕ, [], ◌-◌, ◌<◌, ◌∙◌, ◌∷◌, ◌≡◌, ◌⊎◌}
use Rattle.std.specs.Result.{IfOk}
use Rattle.dist_types.specs.Difference.{change_unless_empty}
use Rattle.dist_types.proofs.Differences.{one_difference}
use Rattle.dist_types.proofs.Sorts.{all_from}
use Rattle.scope_core.proofs.Calls.{joined_change}
use Rattle.scope_core.proofs.Rising.{all_map, none_pass}
use proofs.Told.{forgotten, prepared_bare}
use specs.declared.slow.End.{End}
use specs.declared.slow.Ending.{Ending}
use specs.Ending.{IsEnding}

-- what is known of own changes may be less
pub ending_weaker : {P Q : List Change → Type 0} → ((cs : List Change) → P cs → Q cs)
    → (ends : List End) (stops : List ℕ → Bool) (rs : List Running) (o : Option Ending)
    → IsEnding ends stops P rs o → IsEnding ends stops Q rs o
ending_weaker f ends stops rs None t = t
ending_weaker f ends stops rs (Some e) t = (t.0, f t.0 t.1, t.2, t.3)

-- each change of such a list has lists of processes in their order
abbrev pub AreAllProper : List Change → Type 0
AreAllProper cs = AllByRecursion (λ c. AllByRecursion IsProper c.groups) cs

pub one_proper : (s : List ℕ) (gs : List GroupChange) → AllByRecursion IsProper gs
    → AreAllProper (if_some s gs)
one_proper s [] a = tt
one_proper s (g ∷ gs) a = (a, tt)

pub partings_proper : (left : Table → List ℕ → Pid → ℕ) (rs : List Running) (cs : List Change)
    → AllZip (IsParting left) rs cs
    → AreAllProper (filter (λ c. not (is_empty c.groups)) cs)
partings_proper left [] [] a = tt
partings_proper left (r ∷ rs) (c ∷ cs) a =
    grind (arith, partings_proper left rs cs a.1, IsDifference.proper (IsParting.groups a.0))
partings_proper left rs cs a = absurd a

-- ---- what failed, and what didn't

pub err_both : {T E : Type 0} {P Q R : Type 0} (o p : Result T E) → o ≡ p → OnErr o P → OnErr p Q
    → (P → Q → R) → OnErr o R
err_both (Ok x) p same a b both = tt
err_both {Q} (Err e) p same a b both = both a (subst (λ r. OnErr r Q) (sym same) b)

pub ok_both : {T E : Type 0} {P : Type 0} {F G : T → Type 0} (o p : Result T E) → o ≡ p → OnOk o P
    → IfOk p F → (P → (x : T) → F x → G x) → IfOk o G
ok_both {F} (Ok x) p same a b both = both a x (subst (λ r. IfOk r F) (sym same) b)
ok_both (Err e) p same a b both = tt

-- what was prepared is dropped again
pub dropped : (more : ℕ → Bool → List OutFrame) (old mid new : List KeptLink) → AreIdle old
    → ArePrepared more old mid
    → map unroomed new ≡ map (λ x. unroomed (with_prepared x [])) mid → Alike old new
dropped more old mid new idle q d = d ∙ prepared_bare more old mid q ∙ forgotten old idle

-- two looks at a place find the same
pub one_place : {A : Type 0} (xs : List A) (p : ℕ) {a b : A} → p < length xs → a ≡ get_or xs p a
    → b ≡ get_or xs p b → a ≡ b
one_place xs p {a} {b} within at there = at ∙ get_or_default xs p a b within ∙ sym there

-- ---- what a join and a leave change in one group

pub ok_weaker : {T E : Type 0} {F G : T → Type 0} (o : Result T E) → IfOk o F
    → ((x : T) → F x → G x) → IfOk o G
ok_weaker (Ok x) t on = on x t
ok_weaker (Err e) t on = tt

-- a process of another node is none of these
unnamed : (own : List ℕ) (ps : List Pid) → All (λ q. q.node ≡ own) ps → (p : Pid)
    → same p.node own ≡ false → mentions p ps ≡ 0
unnamed own ps all p other =
    none_pass (λ q. same_pid q p) ps
    (all_map (λ q. q.node ≡ own) (λ q. same_pid q p ≡ false)
    (λ q is. grind (arith, is, same_pid_decides q p, same_decides p.node own)) ps
    (all_from (λ q. q.node ≡ own) ps (λ k d l h. all k d h)))

module _ (r : Running) (g : List ℕ) (ps : List Pid) where
  pub own_join : (joined : List Pid) → IsPidListing (λ p. mentions p ps) joined
      → IsDifference (count_of r.table) (count_after_join r.table g ps)
      (change_unless_empty g [] joined)
  own_join joined t =
      joined_change g ps joined (count_of r.table) (count_after_join r.table g ps) t (λ h p. refl)

  left_times : (n m k l : ℕ) (here : Bool) → l ≡ min m k → (k ≡ n ⊎ m ≡ 0)
      → n - (n - cond here m 0) ≡ cond here l 0
  left_times n m k l here is either = grind arith

  pub own_leave : All (λ q. q.node ≡ r.table.own) ps → (left : List Pid)
      → IsPidListing (λ p. min (mentions p ps) (local_count r.table g p)) left
      → IsDifference (count_of r.table) (count_after_leave r.table g ps)
      (change_unless_empty g left [])
  own_leave all left t =
      one_difference (count_of r.table) (count_after_leave r.table g ps) g left [] t.ascends tt
      (λ h p. grind (
        arith,
        t.counts p,
        same_sym g h,
        same_decides h g,
        unnamed r.table.own ps all p,
      ))
      (λ h p. grind arith)
