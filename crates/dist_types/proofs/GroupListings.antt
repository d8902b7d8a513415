-- A count has one listing of its groups.
use Rattle.dist_types.proofs
use Rattle.dist_types.specs
use Rattle.std.specs.Prelude.{List, true, ℕ, ◌≡◌}
use Rattle.std.proofs.Common.{arith}
use Rattle.std.proofs.lemmas.Map.Lookups.{exact_bytes}
use specs.declared.pid.Pid.{Pid}
use specs.Order.{text_cmp}
use specs.Listing.{is_among, IsGroupListing, same}
use proofs.Orders.{same_decides, texts_total}
use proofs.Listings.{same_rising}

pub one_group_listing : (count : List ℕ → Pid → ℕ) (gs hs : List (List ℕ)) → IsGroupListing count gs
    → IsGroupListing count hs → gs ≡ hs
one_group_listing count gs hs a b = same_rising text_cmp same texts_total exact_bytes same_decides
    gs hs a.rises b.rises (λ g. let onward : is_among g gs ≡ true → is_among g hs ≡ true =
    λ e. let one = a.found g e in b.only g one.0 one.1 in let back : is_among g hs ≡ true
    → is_among g gs ≡ true = λ e. let one = b.found g e in a.only g one.0 one.1 in grind arith)
