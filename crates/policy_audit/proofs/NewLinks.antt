-- What an accepted Opened or Dial makes of links.
use Rattle.policy_audit.proofs
use proofs.Words.{arith, awaited_in, awaits, Entry, false, given, is_accepted, is_open, is_whole}
use proofs.Words.{IsPlayedIn, IsSameLink, List, None, opened, Opening, peer_in, peer_of, Some}
use proofs.Words.{Start, start_of, taken, true, ℕ, [], ◌==◌, ◌||◌, ◌∷◌, ◌≡◌}
use proofs.UpLinks.{none_taken}

-- link l was opened after these entries: it has no frames yet
pub record IsNewLink (l : ℕ) (old new : List Entry) (st : Start) : Type 0 where
  pub opened : opened l new ≡ Some (record { start = st; before = old })
  pub taken : taken l new ≡ []
  pub given : given l new ≡ None
  pub peer : peer_of l new ≡ peer_in st []
  pub awaits : awaits l new ≡ awaited_in st []
  pub whole : is_whole l new ≡ false

module _ (es : List Entry) (e : Entry) (l : ℕ) (st : Start) where
  module _ (yes : is_accepted e.verdict ≡ true) (begins : start_of e.event ≡ Some st) where
    -- the links that are open: the new one, and those that were
    pub opened_open : is_open l (e ∷ es) ≡ ((e.number == l) || is_open l es)
    opened_open = grind arith

    -- of every other link the same is said
    pub opened_apart : (e.number == l) ≡ false → IsSameLink l es (e ∷ es)
    opened_apart other = grind arith

    -- and its own has no frames yet
    pub opened_new : (o : Opening) → IsPlayedIn o es → opened e.number es ≡ None
        → (e.number == l) ≡ true → IsNewLink l es (e ∷ es) st
    opened_new o legal new here = grind (arith, none_taken o es legal [] e new l here)
