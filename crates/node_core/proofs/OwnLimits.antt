-- How many own rows a scope may have, by the links that are told there.
use Rattle.node_core.proofs
use proofs.Words.{and_parts, ap, arith, bare, Bool, cond, facts, false, few_local, filter, Follows}
use proofs.Words.{History, is_any_in, is_kept, is_number, is_old_told, IsLinkOf, IsRunningOf}
use proofs.Words.{KeptLink, length, link_version, link_words, links, List, list_any, local_rows}
use proofs.Words.{local_total, map, max_rows, not, own_limit, own_most, Parts, refl, Running}
use proofs.Words.{scope_words, subst, sym, takes, told, told_limit, true, ℕ, [], ◌&&◌, ◌==◌, ◌∙◌}
use proofs.Words.{◌∷◌, ◌≡◌, ◌≤◌}
use Rattle.policy_audit.proofs.KeptNumbers.{any_reverse}
use proofs.Found.{any_map}
use proofs.LinkTests.{agree}
use proofs.RowsGone.{rows_total}
use proofs.Told.{its_way}

any_filter : {A : Type 0} (test passes : A → Bool) → ((x : A) → test x ≡ true → passes x ≡ true)
    → (xs : List A) → list_any test (filter passes xs) ≡ list_any test xs
any_filter test passes all [] = refl
any_filter test passes all (x ∷ xs) = grind (arith, any_filter test passes all xs, all x)

-- a link that is told is kept
told_kept : (h : History) (l : ℕ) (s : List ℕ) → told h.opening l s h.entries ≡ true
    → is_kept h l ≡ true
told_kept h l s told_so = grind arith

module _ {h : History} {parts : Parts} (t : Follows h parts) (r : Running)
    (there : IsRunningOf (scope_words h) r) where
  abbrev is_old : ℕ → Bool
  is_old l =
      told h.opening l r.scope h.entries && not (link_version h.opening l h.entries == 2)

  one_old : (x : KeptLink) → IsLinkOf (link_words h) x
      → (takes false x.state && is_number x.number r.told.items) ≡ is_old x.number
  one_old x it =
      grind (arith, there.told x.number, its_way (facts h x.number) x.state it.state)

  -- a link without parts is told in a scope where the policy says so
  pub old_told : is_any_in false r.told.items parts.links ≡ is_old_told h r.scope
  old_told =
      agree (IsLinkOf (link_words h)) (λ x. takes false x.state && is_number x.number r.told.items)
      (λ x. is_old x.number) one_old parts.links t.links.each
      ∙ sym (any_map is_old (λ x. x.number) parts.links)
      ∙ ap (list_any is_old) t.links.numbers
      ∙ any_reverse is_old (filter (is_kept h) (links h.entries))
      ∙ any_filter is_old (is_kept h)
      (λ l q. told_kept h l r.scope (and_parts (told h.opening l r.scope h.entries) _ q).0)
      (links h.entries)

  -- so is the most own rows that it may have
  pub own_limit_is : own_most h.opening.links r.told.items parts.links ≡ own_limit h r.scope
  own_limit_is = rw old_told

  limit_fits : (version old : Bool) → cond (version && not old) 65536 max_rows
      ≤ cond old max_rows 65536
  limit_fits version old = grind arith

  -- and as many can be told
  pub most_told : own_most h.opening.links r.told.items parts.links
      ≤ told_limit r.told.items parts.links
  most_told = limit_fits (h.opening.links == 2) (is_any_in false r.told.items parts.links)

  -- its own rows are no more
  pub few_told : local_total r.table ≤ told_limit r.told.items parts.links
  few_told =
      let is = rows_total h r.scope r refl there t.sound.played in
      let few = subst (λ n. length (local_rows h r.scope) ≤ n) (sym own_limit_is)
      (few_local h t.sound.played r.scope) in
      let fits = most_told in
      omega arith

-- links that are the same but for room and what is prepared take messages alike
pub limit_again : (numbers : List ℕ) (old new : List KeptLink) → map bare new ≡ map bare old
    → told_limit numbers new ≡ told_limit numbers old
limit_again numbers old new same =
    grind (arith, any_map test bare new, ap (list_any test) same, any_map test bare old)
  where
    test : KeptLink → Bool
    test x = takes false x.state && is_number x.number numbers
