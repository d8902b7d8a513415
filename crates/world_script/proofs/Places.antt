-- Places of nodes.
use Rattle.std.proofs.Common.{ap, arith, false, get_or, length, List, sym, true, ℕ, [], ◌<◌, ◌∙◌}
use Rattle.std.proofs.Common.{◌≡◌, ◌≤◌}
use Rattle.std.specs.Option.{option_map_or}
use Rattle.std.proofs.lemmas.Option.{slice_get-get_or}
use Rattle.std.proofs.lemmas.List.Sums.{position_or_len_is}
use Rattle.dist_types.specs.Listing.{same}
use Rattle.policy_audit.specs.History.{History, past}
use Rattle.world_script.specs.Names.{is_named, place_of}

-- some node, where a list of nodes has to be read past its end
abbrev pub nobody : History
nobody = past (record {
  name = [];
  cookie = [];
  hidden = false;
  creation = 0;
  entries = 0;
  links = 1;
}) []

module _ (name : List ℕ) (hs : List History) where
  named_at : (k : ℕ) → k < length hs
      → same (get_or hs k nobody).opening.name name ≡ is_named name hs k
  named_at k low = ap (λ o. option_map_or (λ h. same h.opening.name name) o false)
      (sym (slice_get-get_or hs k nobody low))

  -- the first place of that name, or the end
  pub placed : (i : ℕ) → i ≤ length hs → ((k : ℕ) → k < i → is_named name hs k ≡ false)
      → (i < length hs → is_named name hs i ≡ true) → i ≡ place_of name hs
  placed i within before there =
      sym (position_or_len_is (λ h. same h.opening.name name) hs i nobody within
      (λ k low. named_at k (omega (arith, low, within)) ∙ before k low)
      (λ low. named_at i low ∙ there low))
