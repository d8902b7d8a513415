-- Steps that move frames, one and then others.
use Rattle.std.proofs.Common.{arith, Bool, Err, false, IfOk, if◌then◌else◌, List, min, Ok, OnErr}
use Rattle.std.proofs.Common.{refl, subst, sym, true, ℕ, [], ◌++◌, ◌+◌, ◌<◌, ◌∷◌, ◌≡◌, ◌≤◌}
use mir.Val.{bool_byte}
use Rattle.std.specs.List.{AllByRecursion}
use Rattle.std.specs.declared.result.Result.{Result}
use Rattle.dist_types.specs.Listing.{total}
use Rattle.pg_world.specs.declared.world_step.WorldStep.{WorldStep}
use Rattle.pg_world.specs.declared.world_step.WorldReply.{WorldReply}
use Rattle.pg_world.specs.declared.fault.WorldFault.{WorldFault}
use Rattle.pg_world.specs.World.{Nodes}
use Rattle.pg_world.specs.Steps.{IsWorldStep}
use Rattle.world_script.specs.Settling.{came_in, has_come, Lead, Made, MovesFrames, Settles}

abbrev count : Made → ℕ
count m = came_in m.step m.answer

lead_on : (u v w : Nodes) (ms ns : List Made) → Lead u ms v → Lead v ns w → Lead u (ns ++ ms) w
lead_on u v w ms [] a b = subst (λ x. Lead u ms x) (sym b) a
lead_on u v w ms (n ∷ ns) a b = (b.0, lead_on u v b.0 ms ns a b.1, b.2)

all_on : (seat : ℕ) (ms ns : List Made) → AllByRecursion (λ m. MovesFrames seat m.step) ms
    → AllByRecursion (λ m. MovesFrames seat m.step) ns
    → AllByRecursion (λ m. MovesFrames seat m.step) (ns ++ ms)
all_on seat ms [] a b = a
all_on seat ms (n ∷ ns) a b = (b.0, all_on seat ms ns a b.1)

total_on : (ms ns : List Made) → total count (ns ++ ms) ≡ total count ns + total count ms
total_on ms [] = omega arith
total_on ms (n ∷ ns) = omega (arith, total_on ms ns)

-- no step
pub rests : (seat : ℕ) (w : Nodes) → Settles seat w 0 w
rests seat w = record { made = []; lead = refl; moves = tt; count = refl }

-- one step
pub moves : (seat : ℕ) (old new : Nodes) (t : WorldStep) (a : Result WorldReply WorldFault)
    → MovesFrames seat t → IsWorldStep old t new a → Settles seat old (came_in t a) new
moves seat old new t a is made = record {
  made = record { step = t; answer = a } ∷ [];
  lead = (old, refl, made);
  moves = (is, tt);
  count = omega arith;
}

-- one delivery, whether or not a frame came
module _ (seat : ℕ) (old new : Nodes) (a : Result WorldReply WorldFault)
    (one : Settles seat old (if has_come a then 1 else 0) new) {E : Type 0} where
  pub comes : (r : Result Bool E) → IfOk r (λ b. b ≡ has_come a)
      → IfOk r (λ b. Settles seat old (if b then 1 else 0) new)
  comes (Ok b) is = subst (λ x. Settles seat old (if x then 1 else 0) new) (sym is) one
  comes (Err e) is = tt

  pub comes_not : (r : Result Bool E) → OnErr r (has_come a ≡ false)
      → OnErr r (Settles seat old 0 new)
  comes_not (Ok b) is = tt
  comes_not (Err e) is = subst (λ x. Settles seat old (if x then 1 else 0) new) is one

-- some steps, and then others
pub settles_on : (seat m n k : ℕ) (u v w : Nodes) → k ≡ m + n → Settles seat u m v
    → Settles seat v n w → Settles seat u k w
settles_on seat m n k u v w is a b = record {
  made = b.made ++ a.made;
  lead = lead_on u v w a.made b.made a.lead b.lead;
  moves = all_on seat a.made b.made a.moves b.moves;
  count = omega (arith, is, a.count, b.count, total_on a.made b.made);
}

-- so few turns don't saturate the count
pub counts_on : (b : Bool) (came turn one sum : ℕ) → one ≡ bool_byte b → came ≤ turn → turn < 100000
    → sum ≡ min (came + one) 4294967295 → (sum ≡ came + (if b then 1 else 0)) × (sum ≤ turn + 1)
counts_on true came turn one sum is few below sums =
    (omega (arith, is, few, below, sums), omega (arith, is, few, below, sums))
counts_on false came turn one sum is few below sums =
    (omega (arith, is, few, below, sums), omega (arith, is, few, below, sums))

-- what holds whatever failed
pub on_err : {T E P : Type 0} (r : Result T E) → P → OnErr r P
on_err (Ok x) p = tt
on_err (Err e) p = p
