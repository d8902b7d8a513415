-- What an accepted message makes of what is kept, and of what all that came makes.
use Rattle.frame_laws.proofs
use proofs.Words.{Accepted, all_hold, always, arith, begun, begun_of, Bool, but, completed}
use proofs.Words.{delivered, Entry, eqb-true, Event, first_broken, frame_taken, heard, History}
use proofs.Words.{is_next, is_up, is_whole, IsPlayedIn, IsStep, kept_after, link_version, List}
use proofs.Words.{Message2, message_checks, message_taken, None, none_begun, Opening, Option}
use proofs.Words.{option_and_then, option_map_or, option_to_list, Part, PartKind, past, Pid, Reply}
use proofs.Words.{Row, Rule, same_decides, seen_by, Some, true, unbroken, ℕ, ◌&&◌, ◌==◌, ◌||◌, ◌≡◌}
use proofs.KeptStands.{rules_met}
use proofs.NotRefused.{kept_of}

-- where a message of s is kept, or could go on while s is heard, all that came makes the same
abbrev pub NeedsAlike : ℕ → Opening → ℕ → List ℕ → List Entry → Bool
NeedsAlike v o l s es = kept_of s (begun o l es)
    || (heard o l s es && kept_of s (begun_of v (delivered l es)))

abbrev pub Alike : ℕ → Opening → ℕ → List ℕ → List Entry → Type 0
Alike v o l s es = is_up l es ≡ true → NeedsAlike v o l s es ≡ true
    → begun o l es ≡ begun_of v (delivered l es)

module _ (v : ℕ) (o : Opening) (es : List Entry) (e : Entry) (legal : IsPlayedIn o es) (l : ℕ)
    (agrees : is_whole l es ≡ true → link_version o l es ≡ v) (s : List ℕ) where
  abbrev h : History
  h = past o es

  abbrev bodies : List (List ℕ)
  bodies = delivered l es

  pub some_whole : kept_of s (begun o l es) ≡ true → is_whole l es ≡ true
  some_whole = grind (arith, none_begun)

  -- a message that is taken makes of both the same, as far as s is concerned
  pub record AcceptsAlike (x y : Option Message2) : Type 0 where
    pub views : (g : List ℕ) (p : Pid) (w : Option ℕ)
        → seen_by s g p (option_to_list (option_and_then (completed (begun o l es)) x)) w
        ≡ seen_by s g p (option_to_list (option_and_then (completed (begun_of v bodies)) y)) w
    pub begins : (kept_of s (kept_after (begun o l es) x)
        || kept_of s (kept_after (begun_of v bodies) y)) ≡ true
        → kept_after (begun o l es) x ≡ kept_after (begun_of v bodies) y

  next_of : (kind : PartKind) (t : List ℕ) (number : ℕ) (last : Bool) (rows : List Row)
      → first_broken (message_checks h l (Part kind t number last rows)) ≡ None
      → is_next (begun o l es) kind t number ≡ true
  next_of PartKind.Sync t number last rows met = grind arith
  next_of PartKind.Join t number last rows met = grind (arith, unbroken)
  next_of PartKind.Leave t number last rows met =
      unbroken (is_next (begun o l es) PartKind.Leave t number)
      (all_hold (message_checks h l (Part PartKind.Leave t number last rows)) met).1.1.1.0

  taken_alike : (kept_of s (begun o l es) ≡ true → begun o l es ≡ begun_of v bodies)
      → (x : Option Message2)
      → first_broken (option_map_or (message_checks h l) x (always Rule.BadFrame)) ≡ None
      → AcceptsAlike x x
  taken_alike same_kept (Some (Part kind t number last rows)) met =
      grind (arith, same_decides, next_of kind t number last rows met)
  taken_alike same_kept x met = grind arith

  pub accepts_alike : (k : ℕ) (body : List ℕ) (r : Reply)
      → IsStep h (but e (Event.Frame k body) (Accepted r)) → (k == l) ≡ true
      → is_whole l es ≡ true → Alike v o l s es
      → AcceptsAlike (frame_taken o l es body) (message_taken v body)
  accepts_alike k body r = grind (arith, taken_alike, rules_met o l es e legal body r, eqb-true)
