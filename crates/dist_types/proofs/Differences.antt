-- The difference in one group, and in many.
use Rattle.dist_types.specs
use Rattle.std.specs.Prelude.{cond, false, List, true, ℕ, [], ◌&&◌, ◌-◌, ◌∷◌, ◌≡◌}
use Rattle.std.proofs.Common.{arith, refl}
use Rattle.std.proofs.lemmas.Bool.{and_parts}
use specs.declared.pid.Pid.{Pid}
use specs.Order.{pid_cmp}
use specs.Listing.{Ascends, mentions, same}
use specs.Difference.{change_unless_empty, is_empty, IsDifference}

none_mentioned : (p : Pid) (ps : List Pid) → is_empty ps ≡ true → mentions p ps ≡ 0
none_mentioned p [] e = refl
none_mentioned p (q ∷ ps) e = grind arith

-- where the counts differ in one group alone, its change is the difference
pub one_difference : (before after : List ℕ → Pid → ℕ) (g : List ℕ) (left joined : List Pid)
    → Ascends pid_cmp left → Ascends pid_cmp joined
    → ((h : List ℕ) (p : Pid) → before h p - after h p ≡ cond (same g h) (mentions p left) 0)
    → ((h : List ℕ) (p : Pid) → after h p - before h p ≡ cond (same g h) (mentions p joined) 0)
    → IsDifference before after (change_unless_empty g left joined)
one_difference before after g left joined l j less more =
    elim (is_empty left && is_empty joined) as (λ v. (is_empty left && is_empty joined) ≡ v
    → IsDifference before after
    (cond v [] (record { group = g; left = left; joined = joined } ∷ []))) [
      | true ↦ λ e. let none = and_parts (is_empty left) (is_empty joined) e in record {
        groups = tt;
        proper = tt;
        left = λ h p. grind (arith, less h p, none_mentioned p left none.0);
        joined = λ h p. grind (arith, more h p, none_mentioned p joined none.1);
      }
      | false ↦ λ e. record {
        groups = (tt, tt);
        proper = (record { left = l; joined = j; some = e }, tt);
        left = λ h p. omega (arith, less h p);
        joined = λ h p. omega (arith, more h p);
      }
    ] refl
