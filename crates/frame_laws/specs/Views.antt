-- What the messages of a link, applied in their order, make of a view of the sender's rows.
use Rattle.std.specs.Prelude.{◌≡◌, ℕ, ◌+◌, ◌-◌, ◌≤◌, Bool, cond, List, [], ◌∷◌, Option, Some, None}
use Rattle.std.specs.Prelude.{length, take, slice_get, IsTrue}
use Rattle.std.specs.Option.{option_map}
use Rattle.dist_types.specs.declared.pid.Pid.{Pid}
use Rattle.dist_types.specs.declared.row.Row.{Row}
use Rattle.dist_types.specs.Listing.{same}
use Rattle.link_frames.specs.declared.message.Message.{Message}
use Rattle.link_frames.specs.declared.message.Message.TheVariants as said
use Rattle.policy_audit.specs.History.{History}
use Rattle.policy_audit.specs.Own.{own}
use Rattle.link_frames.specs.declared.part.PartKind.{PartKind}
use Rattle.link_frames.specs.declared.part.PartKind.TheVariants as kinds
use Rattle.link_frames.specs.declared.part.Message2.TheVariants as frames
use Rattle.link_frames.specs.Parts.{message_of, rows_so_far}
use Rattle.policy_audit.specs.Hearing.{message_taken, told, rows_of}
use Rattle.frame_laws.specs.Sent.{Owing, out, bodies_of}
use Rattle.frame_laws.specs.Moments.{moment}
use Rattle.frame_laws.specs.Spoken.{limit, messages_said, begun_of}
use Rattle.frame_laws.specs.ToldRows.{has_rows}

-- A view of one row of s is how often it is there, or None where nothing is known. A Sync says it,
-- a Join adds, a Leave takes away, a Down ends it.
abbrev pub seen : List ℕ → List ℕ → Pid → Message → Option ℕ → Option ℕ
seen s g p (said.Sync t rows) v = cond (same t s) (Some (rows_of g p rows)) v
seen s g p (said.Join t rows) v = cond (same t s) (option_map (λ n. n + rows_of g p rows) v) v
seen s g p (said.Leave t rows) v = cond (same t s) (option_map (λ n. n - rows_of g p rows) v) v
seen s g p (said.Down t) v = cond (same t s) None v
seen s g p (said.Discover t) v = v

-- what these messages make of a view, the oldest first
abbrev pub seen_by : List ℕ → List ℕ → Pid → List Message → Option ℕ → Option ℕ
seen_by s g p [] v = v
seen_by s g p (m ∷ ms) v = seen_by s g p ms (seen s g p m v)

-- the view after these bodies, the oldest first
abbrev pub view_of : ℕ → List ℕ → List ℕ → Pid → List (List ℕ) → Option ℕ
view_of version s g p bodies = seen_by s g p (messages_said version bodies) None

-- the rows of a message behind these bodies so far, with those of its part of this number
abbrev pub so_far_behind : ℕ → List (List ℕ) → PartKind → List ℕ → ℕ → List Row → List Row
so_far_behind version bodies kind s number rows =
    rows_so_far (begun_of version bodies) kind s number rows

-- with these rows of a message of s, no more are there than may be, where the view was this before
abbrev pub IsFew : ℕ → List ℕ → (List ℕ → Pid → Option ℕ) → PartKind → List Row → Type 0
IsFew version s view kind rows =
    (all : List Row)
    × ((g : List ℕ) (p : Pid) → (n : ℕ)
    × (seen s g p (message_of kind s rows) (view g p) ≡ Some n)
    × (n ≤ rows_of g p all)) × (length all ≤ limit version)

-- at least these rows are there
abbrev pub AreThere : (List ℕ → Pid → Option ℕ) → List Row → Type 0
AreThere view rows =
    (g : List ℕ) (p : Pid) → (n : ℕ) × (view g p ≡ Some n) × (rows_of g p rows ≤ n)

-- The frames owed to link l pass through the sender's own rows of s: after each frame that
-- completes a message with rows of s the view is those of the moment of its source, and while the
-- peer is told, the view after all frames is those of now. With the rows of a message so far there
-- are at no part more than may be, and at each part of a Leave those so far are there.
pub record PassesThrough (version : ℕ) (h : History) (l : ℕ) (s : List ℕ) : Type 0 where
  pub moments : (place : ℕ) (x : Owing) → slice_get (out h l) place ≡ Some x → IsTrue (has_rows
      version s x.frame.body)
      → (g : List ℕ) (p : Pid) → view_of version s g p (bodies_of (take (place + 1) (out h l))) ≡
      Some (own (moment x.source h) s g p)
  pub now : IsTrue (told h.opening l s h.entries) → (g : List ℕ) (p : Pid)
      → view_of version s g p (bodies_of (out h l)) ≡ Some (own h s g p)
  pub few : (place : ℕ) (x : Owing) → slice_get (out h l) place ≡ Some x
      → (kind : PartKind) (number : ℕ) (last : Bool) (rows : List Row)
      → message_taken version x.frame.body ≡ Some (frames.Part kind s number last rows)
      → IsFew version s (λ g p. view_of version s g p (bodies_of (take place (out h l)))) kind
      (so_far_behind version (bodies_of (take place (out h l))) kind s number rows)
  pub there : (place : ℕ) (x : Owing) → slice_get (out h l) place ≡ Some x
      → (number : ℕ) (last : Bool) (rows : List Row)
      → message_taken version x.frame.body ≡ Some (frames.Part kinds.Leave s number last rows)
      → AreThere (λ g p. view_of version s g p (bodies_of (take place (out h l))))
      (so_far_behind version (bodies_of (take place (out h l))) kinds.Leave s number rows)
