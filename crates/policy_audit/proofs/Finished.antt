-- What an accepted frame makes of its link: it completes the side, or leaves it whole or
-- unfinished.
use Rattle.policy_audit.proofs
use proofs.Words.{ap, arith, Awaited, awaited_in, AwaitMessage, Bool, ByDial, ByPeer, Challenge}
use proofs.Words.{Entry, eqb-false, eqb-true, false, get_or, get_or-eq_default, given_in}
use proofs.Words.{is_last, is_some, is_whole_in, le-leb, leb-true, length, length-append, List}
use proofs.Words.{Name, nat_le, None, Opened, Opening, Option, option_and_then, option_map_or, refl}
use proofs.Words.{Some, Start, suc, sym, Taken, true, was_up, whole_side, zero, ℕ, [], ◌++◌, ◌+◌}
use proofs.Words.{◌==◌, ◌∙◌, ◌∷◌, ◌≡◌}
use proofs.Accepted.{lie, peer_by}
use proofs.Walked.{Far, hello_of, Walk}

-- whether the frames are a whole side
abbrev pub whole_by : Option Opened → List Taken → Bool
whole_by oe ts = option_map_or (λ x. is_whole_in x.start ts) oe false

abbrev pub awaited_by : Option Opened → List Taken → Awaited
awaited_by oe ts = option_map_or (λ x. awaited_in x.start ts) oe AwaitMessage

abbrev pub given_by : Option Opened → List Taken → Option Name
given_by oe ts = option_and_then (λ x. given_in x.start ts) oe

pub two_of : {A : Type 0} (x y : A) (xs : List A) → nat_le 2 (length (x ∷ y ∷ xs)) ≡ true
two_of x y xs = le-leb 2 _ (omega arith)

pub three_of : {A : Type 0} (x y z : A) (xs : List A) → nat_le 3 (length (x ∷ y ∷ z ∷ xs)) ≡ true
three_of x y z xs = le-leb 3 _ (omega arith)

-- a message: what a link with a whole side awaits
abbrev pub is_message : Awaited → Bool
is_message AwaitMessage = true
is_message a = false

-- the place of the last frame of a side, and those behind it
last_is : (s : Start) (up : Bool) (n : ℕ)
    → is_last (get_or (whole_side s up) n AwaitMessage) ≡ (n + 1 == length (whole_side s up))
last_is s up zero = grind arith
last_is s up (suc zero) = grind arith
last_is s up (suc (suc zero)) = grind arith
last_is s up (suc (suc (suc n))) = grind (arith, eqb-true)

message_is : (s : Start) (up : Bool) (n : ℕ)
    → is_message (get_or (whole_side s up) n AwaitMessage) ≡ nat_le (length (whole_side s up)) n
message_is s up zero = grind arith
message_is s up (suc zero) = grind arith
message_is s up (suc (suc zero)) = grind arith
message_is s up (suc (suc (suc n))) = grind (arith, le-leb)

-- a side is as long as it was, where the name is known
abbrev pub whole_after : ℕ → Bool → Taken → List Taken → Bool
whole_after c up a ts = nat_le (length (whole_side (ByPeer c) up)) (length (a ∷ ts))

-- a link that is whole awaits a message
pub whole_awaits : (oe : Option Opened) (ts : List Taken) → whole_by oe ts ≡ true
    → awaited_by oe ts ≡ AwaitMessage
whole_awaits None ts q = lie (sym q)
whole_awaits (Some x) ts q =
    get_or-eq_default (whole_side x.start (was_up ts)) AwaitMessage
    (leb-true _ _ q)

-- a link that awaits a message is whole
pub message_whole : (oe : Option Opened) (ts : List Taken) → is_some oe ≡ true
    → is_message (awaited_by oe ts) ≡ true → whole_by oe ts ≡ true
message_whole None ts s q = lie (sym s)
message_whole (Some x) ts s q = sym (message_is x.start (was_up ts) (length ts)) ∙ q

module _ (m : Taken) where
  -- ---- a frame that is not the last of a side leaves it whole, or unfinished

  longer : (a n : ℕ) → (n + 1 == a) ≡ false → nat_le a (n + 1) ≡ nat_le a n
  longer a n q = grind (arith, le-leb, leb-true, eqb-false)

  stays_in : (s : Start) (ts : List Taken) → is_last (awaited_in s ts) ≡ false
      → is_whole_in s (ts ++ m ∷ []) ≡ is_whole_in s ts
  stays_in s [] q = grind arith
  stays_in s (a ∷ ts) q = grind (arith, length-append, longer, last_is)

  pub stays : (oe : Option Opened) (ts : List Taken) → is_last (awaited_by oe ts) ≡ false
      → whole_by oe (ts ++ m ∷ []) ≡ whole_by oe ts
  stays None ts q = refl
  stays (Some x) ts q = stays_in x.start ts q

  -- ---- a further frame on a link that is whole leaves its peer

  pub kept : (oe : Option Opened) (ts : List Taken) → whole_by oe ts ≡ true
      → peer_by oe (ts ++ m ∷ []) ≡ peer_by oe ts
  kept oe ts q = grind arith

  -- and what its peer gave
  pub given_kept : (oe : Option Opened) (ts : List Taken) → whole_by oe ts ≡ true
      → given_by oe (ts ++ m ∷ []) ≡ given_by oe ts
  given_kept oe ts q = grind arith

  -- and it is whole still
  pub whole_kept : (oe : Option Opened) (ts : List Taken) → whole_by oe ts ≡ true
      → whole_by oe (ts ++ m ∷ []) ≡ true
  whole_kept oe ts q = stays oe ts (ap is_last (whole_awaits oe ts q)) ∙ q

  -- ---- the last frame of a side

  -- it makes the side whole
  ends_in : (s : Start) (ts : List Taken) → is_last (awaited_in s ts) ≡ true
      → (is_whole_in s ts ≡ false) × (is_whole_in s (ts ++ m ∷ []) ≡ true)
  ends_in s [] q = grind arith
  ends_in s (a ∷ ts) q = grind (arith, last_is, le-leb, leb-true, eqb-true, length-append)

  -- what it makes: the peer and what it gave are known, and the side is whole
  pub record Completed (oe : Option Opened) (ts : List Taken) : Type 0 where
    pub peer : List ℕ
    pub gave : Name
    pub was_of : peer_by oe ts ≡ Some peer
    pub is_of : peer_by oe (ts ++ m ∷ []) ≡ Some peer
    pub was_given : given_by oe ts ≡ Some gave
    pub was_whole : whole_by oe ts ≡ false
    pub is_whole : whole_by oe (ts ++ m ∷ []) ≡ true

  module _ (o : Opening) (bo : List Entry) where
    completed_in : (s : Start) (ts : List Taken) → Walk o bo s ts → is_last (awaited_in s ts) ≡ true
        → Completed (Some (record { start = s; before = bo })) ts
    completed_in (ByPeer c) [] p q = lie (sym q)
    completed_in (ByPeer c) (a ∷ ts) p q =
        let ends = ends_in (ByPeer c) (a ∷ ts) q in
        let name = ap (λ x. option_and_then {T = Name} {U = List ℕ} (λ g. Some g.name) x) p.0.1 in
        record {
          peer = p.0.0.name;
          gave = p.0.0;
          was_of = name;
          is_of = name;
          was_given = p.0.1;
          was_whole = ends.0;
          is_whole = ends.1;
        }
    completed_in (ByDial n c) (a ∷ b ∷ []) p q = record {
      peer = n;
      gave = hello_of p.1.1.0;
      was_of = refl;
      is_of = refl;
      was_given =
          ap (λ x. option_and_then {T = Challenge} {U = Name} (λ f. Some (hello_of f)) x) p.1.1.1;
      was_whole = refl;
      is_whole = refl;
    }
    completed_in (ByDial n c) ts p q = lie (sym q)

  pub completed : (o : Opening) (oe : Option Opened) (ts : List Taken) → Far o oe ts
      → is_last (awaited_by oe ts) ≡ true → Completed oe ts
  completed o None ts p q = lie (sym q)
  completed o (Some x) ts p q = completed_in o x.before x.start ts p q
