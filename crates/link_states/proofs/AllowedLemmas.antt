-- The test for an allowed name decides that the rules allow it.
use Rattle.link_states.specs
use Rattle.std.proofs.Common.{ap, arith, Bool, IsTrue, length, List, refl, rules, true, ℕ, [], ◌↔◌}
use Rattle.std.proofs.Common.{◌∷◌, ◌≡◌}
use Rattle.std.specs.Prelude.{◌==◌}
use Rattle.std.specs.Bool.{Decides}
use Rattle.std.proofs.lemmas.Bool.Decides.{Decides-or, same_from_decides}
use Rattle.admission_rules.specs.Admission.{AdmissionRules, IsAllowed}
use Rattle.admission_rules.proofs.NameLists.{has_decides, has_flipped}
use specs.Pending.{has_name}
use specs.Checks.{allows}

empty_decides : (names : List (List ℕ)) → Decides (length names == 0) (names ≡ [])
empty_decides [] = (λ _. refl, λ _. refl)
empty_decides (name ∷ names) =
    (search rules, λ none. absurd (omega (arith, ap (length {A = List ℕ}) none)))

allows_decides : (r : AdmissionRules) (name : List ℕ) → Decides (allows r name) (IsAllowed r name)
allows_decides r name =
    Decides-or (length r.allowed == 0) (has_name r.allowed name) (empty_decides r.allowed)
    (rw (has_flipped name r.allowed) (has_decides name r.allowed))

-- the answer to whether a name is allowed is the test
pub allowed_is : (found : Bool) (r : AdmissionRules) (name : List ℕ)
    → IsTrue found ↔ IsAllowed r name → found ≡ allows r name
allowed_is found r name is = same_from_decides found (allows r name) is (allows_decides r name)

-- a name that is allowed passes the test
pub allows_allowed : (r : AdmissionRules) (name : List ℕ) → IsAllowed r name → allows r name ≡ true
allows_allowed r name allowed = (allows_decides r name).1 allowed
