-- A frame of the handshake, as the node hears it: the state of its link, and what is heard of it.
use Rattle.node_core.proofs
use proofs.Words.{accepted_as, AdmissionRules, arith, Bool, Event, facts, false, Follows, get_or}
use proofs.Words.{Heard, History, is_last, is_whole, IsLinkOf, IsState, KeptLink, length}
use proofs.Words.{link_place, link_words, LinkFacts, LinkState, List, may_tell, nat_le, no_value}
use proofs.Words.{None, Option, option_map, Parts, Pending, refl, Some, subst, sym, true, ℕ, ◌&&◌}
use proofs.Words.{◌<◌, ◌≡◌}
use proofs.KeptOn.{each_at, place_is}
use proofs.Found.{some_is}

-- ---- the state of the link

-- a state in which a frame that isn't the last is awaited
abbrev pub is_early : LinkState → Bool
is_early (LinkState.Name c) = true
is_early (LinkState.Answer s) = true
is_early (LinkState.Status dial) = true
is_early (LinkState.Challenge dial) = true
is_early s = false

-- one in which the last frame of its side is awaited
abbrev pub is_last_state : LinkState → Bool
is_last_state (LinkState.Reply s) = true
is_last_state (LinkState.Ack s) = true
is_last_state s = false

-- what a state says of its link, and which state it is by what is said
module _ (f : LinkFacts) (s : LinkState) (a : IsState f s) where
  pub early_facts : is_early s ≡ true
      → (f.open_now ≡ true) × (f.whole ≡ false) × (is_last f.awaited ≡ false)
  early_facts q = (grind (arith, a), grind (arith, a), grind (arith, a))

  pub last_facts : is_last_state s ≡ true
      → (f.open_now ≡ true) × (f.whole ≡ false) × (is_last f.awaited ≡ true)
  last_facts q = (grind (arith, a), grind (arith, a), grind (arith, a))

  pub early_state : f.open_now ≡ true → f.whole ≡ false → is_last f.awaited ≡ false
      → is_early s ≡ true
  early_state opens unwhole inner = grind (arith, a)

  pub last_state : f.open_now ≡ true → is_last f.awaited ≡ true → is_last_state s ≡ true
  last_state opens last = grind (arith, a)

-- a frame of an unfinished handshake owes no message
pub unwhole_quiet : (h : History) (j : ℕ) (body : List ℕ) → is_whole j h.entries ≡ false
    → may_tell h.opening h.entries (Event.Frame j body) ≡ false
unwhole_quiet h j body unwhole =
    grind (arith, unwhole)

-- the link at the place of a number
module _ {h : History} {parts : Parts} (t : Follows h parts) (j : ℕ) {p : ℕ}
    (at : link_place j parts.links ≡ Some p) (d : KeptLink) where
  pub is_there : (p < length parts.links) × ((get_or parts.links p d).number ≡ j)
  is_there = place_is parts.links j p d at

  pub link_there : IsLinkOf (link_words h) (get_or parts.links p d)
  link_there = each_at (IsLinkOf (link_words h)) parts.links p d t.links.each is_there.0

  pub state_there : IsState (facts h j) (get_or parts.links p d).state
  state_there = subst (λ (n : ℕ). IsState (facts h n) (get_or parts.links p d).state) is_there.1
      link_there.state

-- ---- what a frame leads to

-- a frame of the handshake leads on, or the last one makes the link up, with at most two frames
abbrev pub leads : LinkState → Heard → Bool
leads s (Heard.On now frames gives_up) = is_early s && nat_le (length frames) 2
leads s (Heard.Up up frames) = is_last_state s && nat_le (length frames) 2
leads s r = false

module _ (rules : AdmissionRules) (pending : Pending) (body : List ℕ) where
  pub heard_leads : (s : LinkState) (r : Heard) → accepted_as rules pending s body ≡ Some r
      → leads s r ≡ true
  heard_leads s r q = grind (arith, q)

-- what holds of each value that a frame may be holds of what it leads to
pub by_all : {A : Type 0} (P : Heard → Type 0) (f : A → Heard) (o : Option A) {r : Heard}
    → option_map f o ≡ Some r → ((x : A) → o ≡ Some x → P (f x)) → P r
by_all P f None q all = no_value (sym q)
by_all P f (Some x) q all = subst P (some_is q) (all x refl)
