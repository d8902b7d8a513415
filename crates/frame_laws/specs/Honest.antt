-- What came on a link, where its other end is a node that says its own rows; and what is heard
-- then.
use Rattle.std.specs.Prelude.{◌≡◌, ℕ, ◌+◌, Bool, List, [], ◌∷◌, Some, None, take, slice_get, IsTrue}
use Rattle.std.specs.Option.{option_map}
use Rattle.dist_types.specs.declared.pid.Pid.{Pid}
use Rattle.dist_types.specs.declared.row.Row.{Row}
use Rattle.link_frames.specs.declared.part.PartKind.{PartKind}
use Rattle.link_frames.specs.declared.part.PartKind.TheVariants as kinds
use Rattle.link_frames.specs.declared.part.Message2.{Message2}
use Rattle.link_frames.specs.declared.part.Message2.TheVariants as frames
use Rattle.link_frames.specs.Parts.{AreInOrder}
use Rattle.policy_audit.specs.declared.entry.Entry.{Entry}
use Rattle.policy_audit.specs.History.{History}
use Rattle.policy_audit.specs.Sides.{given, peer_of, is_whole}
use Rattle.policy_audit.specs.Hearing.{message_taken, stated}
use Rattle.frame_laws.specs.Says.{is_of}
use Rattle.frame_laws.specs.Sent.{delivered}
use Rattle.frame_laws.specs.Spoken.{frames_said}
use Rattle.frame_laws.specs.ToldRows.{has_rows, told_rows}
use Rattle.frame_laws.specs.Views.{view_of, so_far_behind, IsFew, AreThere}

-- Bodies as a node of this name and creation sends them on a link of that version: the rows of each
-- message are its own; each part stands right behind those before it; with the rows so far the node
-- has no more in s than it may; and a Leave takes away what is there.
pub record IsHonest (version : ℕ) (name : List ℕ) (creation : ℕ) (s : List ℕ) (bodies : List (List
    ℕ)) : Type 0 where
  pub own : (place : ℕ) (body : List ℕ) (m : Message2) → slice_get bodies place ≡ Some body
      → message_taken version body ≡ Some m → IsTrue (is_of name creation m)
  pub order : AreInOrder None (frames_said version bodies)
  pub few : (place : ℕ) (body : List ℕ) → slice_get bodies place ≡ Some body
      → (kind : PartKind) (number : ℕ) (last : Bool) (rows : List Row)
      → message_taken version body ≡ Some (frames.Part kind s number last rows)
      → IsFew version s (λ g p. view_of version s g p (take place bodies)) kind
      (so_far_behind version (take place bodies) kind s number rows)
  pub there : (place : ℕ) (body : List ℕ) → slice_get bodies place ≡ Some body
      → (number : ℕ) (last : Bool) (rows : List Row)
      → message_taken version body ≡ Some (frames.Part kinds.Leave s number last rows)
      → AreThere (λ g p. view_of version s g p (take place bodies))
      (so_far_behind version (take place bodies) kinds.Leave s number rows)

-- the peer of link l has given this name and this creation
pub record IsGiven (l : ℕ) (name : List ℕ) (creation : ℕ) (es : List Entry) : Type 0 where
  pub peer : peer_of l es ≡ Some name
  pub creation_is : option_map (λ f. f.creation) (given l es) ≡ Some creation

-- it had done so after each entry after which the link was whole
abbrev pub HasGiven : ℕ → List ℕ → ℕ → List Entry → Type 0
HasGiven l name creation [] = Unit {0}
HasGiven l name creation (e ∷ es) = (IsTrue (is_whole l (e ∷ es))
    → IsGiven l name creation (e ∷ es)) × HasGiven l name creation es

-- What is heard is what was said: the view of all that came on link l is what the link has stated,
-- and so it was behind the last told rows of the present hearing.
pub record HeardIsSaid (version : ℕ) (h : History) (l : ℕ) (s : List ℕ) : Type 0 where
  pub place : ℕ
  pub earlier : List ℕ
  pub last : told_rows h.opening l s h.entries ≡ place ∷ earlier
  pub body : List ℕ
  pub stands : slice_get (delivered l h.entries) place ≡ Some body
  pub rows : IsTrue (has_rows version s body)
  pub behind : (g : List ℕ) (p : Pid)
      → view_of version s g p (take (place + 1) (delivered l h.entries))
      ≡ Some (stated h.opening l s g p h.entries)
  pub now : (g : List ℕ) (p : Pid)
      → view_of version s g p (delivered l h.entries) ≡ Some (stated h.opening l s g p h.entries)
