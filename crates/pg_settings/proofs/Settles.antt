-- What is told sets, allows and starts alone.
use Rattle.pg_settings.specs
use Rattle.std.proofs.Common.{arith, List, map, refl, true, ℕ, [], ◌++◌, ◌∷◌, ◌≡◌}
use Rattle.std.specs.List.{list_all}
use Rattle.std.proofs.lemmas.List.Folds.{list_all-append}
use Rattle.admission_rules.specs.Admission.{AdmissionRules}
use Rattle.policy_audit.specs.declared.event.Event.{Event}
use Rattle.policy_audit.specs.declared.event.Event.TheVariants as event
use specs.Settings.{all_told, cookies_told, is_setting, names_told, own_told, scopes_told}

each_setting : {A : Type 0} (say : A → Event) → ((x : A) → is_setting (say x) ≡ true)
    → (xs : List A) → list_all is_setting (map say xs) ≡ true
each_setting say is [] = refl
each_setting say is (x ∷ xs) = grind (arith, is x, each_setting say is xs)

own_setting : (begun own : List ℕ) → list_all is_setting (own_told begun own) ≡ true
own_setting begun own = grind arith

names_setting : (ns : List (List ℕ)) → list_all is_setting (names_told ns) ≡ true
names_setting [] = refl
names_setting (n ∷ ns) = refl

pub all_settings : (begun : List ℕ) (rules : AdmissionRules) (scopes : List (List ℕ))
    → list_all is_setting (all_told begun rules scopes) ≡ true
all_settings begun rules scopes =
    let own = own_told begun rules.cookie in
    let each = cookies_told rules.peers in
    let names = names_told rules.allowed in
    grind (
      arith,
      list_all-append is_setting (own ++ each ++ names) (scopes_told scopes),
      list_all-append is_setting (own ++ each) names,
      list_all-append is_setting own each,
      own_setting begun rules.cookie,
      each_setting (λ (p : List ℕ × List ℕ). event.SetCookieFor p.0 p.1) (λ p. refl) rules.peers,
      names_setting rules.allowed,
      each_setting event.StartScope (λ s. refl) scopes,
    )
