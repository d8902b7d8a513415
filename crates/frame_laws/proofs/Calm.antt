-- What frames make of a view, and which leave it.
use Rattle.frame_laws.proofs
use proofs.Words.{all_append, AllByRecursion, AreThere, arith, begun_by, Bool, completed_by, drop}
use proofs.Words.{false, flat_map-append, frames_said, has_rows, is_about_rows, IsFew, IsText, List}
use proofs.Words.{map-append, max_rows, Message, Message2, message_taken, narrow, None, Option}
use proofs.Words.{OutFrame, Part, PartKind, parts_from, Pid, refl, Row, said_frames, same, seen}
use proofs.Words.{seen_by, slice_get, so_far_behind, Some, suc, true, view_of, wide, zero, ℕ, []}
use proofs.Words.{◌++◌, ◌∷◌, ◌≡◌}
use proofs.Handshakes.{begins_message, first_byte, IsClosed, no_message}
use proofs.Pieces.{begun_apart, completed_apart, pieces, pieces_complete, pieces_end}
use proofs.Sayable.{asks_alike, asks_sayable, downs_alike, downs_sayable, IsSayable, reads}
use proofs.Sayable.{reads_hold, said, said_all}

-- what these frames make of a view
abbrev pub seen_frames : ℕ → List ℕ → List ℕ → Pid → List OutFrame → Option ℕ → Option ℕ
seen_frames v s g p fs x = seen_by s g p (completed_by None (said v fs)) x

module _ (s g : List ℕ) (p : Pid) where
  pub seen_apart : (ms ns : List Message) (x : Option ℕ)
      → seen_by s g p (ms ++ ns) x ≡ seen_by s g p ns (seen_by s g p ms x)
  seen_apart [] ns x = refl
  seen_apart (m ∷ ms) ns x = seen_apart ms ns (seen s g p m x)

pub said_apart : (v : ℕ) (xs ys : List (List ℕ))
    → frames_said v (xs ++ ys) ≡ frames_said v xs ++ frames_said v ys
said_apart = grind (arith, flat_map-append)

pub frames_apart : (v : ℕ) (xs ys : List OutFrame) → said v (xs ++ ys) ≡ said v xs ++ said v ys
frames_apart = grind (arith, map-append, said_apart)

-- messages, and each is whole
abbrev pub AreWhole : ℕ → List OutFrame → Type 0
AreWhole v fs = begun_by None (said v fs) ≡ None

pub whole_both : (v : ℕ) (xs ys : List OutFrame) → AreWhole v xs → AreWhole v ys
    → AreWhole v (xs ++ ys)
whole_both = grind (arith, frames_apart, begun_apart)

pub frames_seen : (v : ℕ) (s g : List ℕ) (p : Pid) (xs ys : List OutFrame) (x : Option ℕ)
    → AreWhole v xs
    → seen_frames v s g p (xs ++ ys) x ≡ seen_frames v s g p ys (seen_frames v s g p xs x)
frames_seen = grind (arith, frames_apart, completed_apart, seen_apart)

-- what a part says holds behind these bodies: no more are there than may be, or so many are there
abbrev pub FewBehind : ℕ → List ℕ → PartKind → ℕ → List Row → List (List ℕ) → Type 0
FewBehind v s kind number rows bs =
    IsFew v s (λ g p. view_of v s g p bs) kind (so_far_behind v bs kind s number rows)

abbrev pub ThereBehind : ℕ → List ℕ → ℕ → List Row → List (List ℕ) → Type 0
ThereBehind v s number rows bs = AreThere (λ g p. view_of v s g p bs)
    (so_far_behind v bs PartKind.Leave s number rows)

-- ---- one message

module _ (v : ℕ) (m : Message) (can : IsSayable v m) where
  pub message_says : said v (said_frames v m) ≡ pieces v m
  message_says = said_all v (said_frames v m) (pieces v m) (reads v m can)

  pub message_seen : (s g : List ℕ) (p : Pid) (x : Option ℕ)
      → seen_frames v s g p (said_frames v m) x ≡ seen s g p m x
  message_seen = grind (arith, message_says, pieces_complete)

  pub message_ends : AreWhole v (said_frames v m)
  message_ends = grind (arith, message_says, pieces_end)

-- ---- frames that say no rows of s and leave each view of it

-- a part of a message with rows of s
abbrev pub is_part : List ℕ → Option Message2 → Bool
is_part s (Some (Part kind t number last rows)) = same t s
is_part s x = false

-- no frame is one
abbrev pub HasNoRows : ℕ → List ℕ → List OutFrame → Type 0
HasNoRows v s fs = AllByRecursion (λ f. is_part s (message_taken v f.body) ≡ false) fs

pub record AllCalm (v : ℕ) (s : List ℕ) (fs : List OutFrame) : Type 0 where
  pub ends : AreWhole v fs
  pub no_rows : HasNoRows v s fs
  pub stays : (g : List ℕ) (p : Pid) (x : Option ℕ) → seen_frames v s g p fs x ≡ x

from_other : (s : List ℕ) (kind : PartKind) (t : List ℕ) (number more : ℕ) (rows : List Row)
    → same t s ≡ false
    → AllByRecursion (λ p. is_part s (Some p) ≡ false) (parts_from kind t number more rows)
from_other s kind t number zero rows other = (other, tt)
from_other s kind t number (suc more) rows other =
    (other, from_other s kind t (suc number) more (drop max_rows rows) other)

pieces_other : (v : ℕ) (s : List ℕ) (m : Message) → is_about_rows s (Some m) ≡ false
    → AllByRecursion (λ p. is_part s (Some p) ≡ false) (pieces v m)
pieces_other = grind (arith, from_other)

module _ (v : ℕ) (s : List ℕ) where
  pub calm_closed : IsClosed (AllCalm v s)
  calm_closed = grind (arith, whole_both, all_append, frames_seen)

  pub calm_message : (m : Message) → IsSayable v m → is_about_rows s (Some m) ≡ false
      → AllCalm v s (said_frames v m)
  calm_message m can =
      grind (arith, message_ends v m can, reads_hold v, reads v m can, pieces_other, message_seen)

  pub calm_hello : (body : List ℕ) → begins_message (first_byte body) ≡ false
      → AllCalm v s (narrow body ∷ [])
  calm_hello = grind (arith, no_message)

  pub calm_asks : (t : List ℕ) → IsText t → AllCalm v s (wide (Message.Discover t) ∷ [])
  calm_asks t text = rw asks_alike at
      (calm_message (Message.Discover t) (asks_sayable v t text) refl)

  pub calm_down : (t : List ℕ) → IsText t → same t s ≡ false
      → AllCalm v s (wide (Message.Down t) ∷ [])
  calm_down t text other = rw downs_alike at
      (calm_message (Message.Down t) (downs_sayable v t text) other)

pub no_rows_at : (v : ℕ) (s : List ℕ) (fs : List OutFrame) → HasNoRows v s fs → (m : ℕ)
    (f : OutFrame) → slice_get fs m ≡ Some f → is_part s (message_taken v f.body) ≡ false
no_rows_at v s [] all m f q = grind arith
no_rows_at v s (x ∷ fs) all zero f q = grind arith
no_rows_at v s (x ∷ fs) all (suc m) f q = no_rows_at v s fs all.1 m f q

-- what completes rows of s is a part of it
pub rows_part : (v : ℕ) (s body : List ℕ) → has_rows v s body ≡ true
    → is_part s (message_taken v body) ≡ true
rows_part = grind arith
