-- What an honest node says on a link, over which it is heard, is not refused.
use Rattle.frame_laws.proofs
use proofs.Words.{ap, AreFrom, AreThere, arith, Begun, begun, begun_of, Bool, but, comes_next}
use proofs.Words.{delivered, Entry, false, fewer_length, Frame, heard, History, is_from, is_next}
use proofs.Words.{is_running, is_up, is_visible, IsFew, IsGiven, IsHonest, IsPlayedIn, IsStep}
use proofs.Words.{last_in_order, length, limit, link_version, List, list_all, MaySay, MaySaySoFar}
use proofs.Words.{Message, Message2, message_taken, Opening, Option, option_map_or, Part, PartKind}
use proofs.Words.{past, peer_limit, Pid, refl, Refused, Row, rows_before, rows_of, Rule, same}
use proofs.Words.{same_decides, same_row, same_row_decides, same_sym, seen, slice_get, so_far}
use proofs.Words.{so_far_behind, Some, stated, sym, true, view_of, ℕ, [], ◌&&◌, ◌++◌, ◌+◌, ◌==◌}
use proofs.Words.{◌∙◌, ◌∷◌, ◌≡◌, first_broken, message_checks, None}
use proofs.Accepting.{heard_met, sync_met}
use proofs.Bodies.{frames_more, stands_last, take_all}
use proofs.Pieces.{value_of}

-- processes of the name and the creation that the peer has given are from it
module _ (o : Opening) (es : List Entry) (l : ℕ) (name : List ℕ) (creation : ℕ)
    (gave : IsGiven l name creation es) where
  pub one_from : (p : Pid) → (same p.node name && p.creation == creation) ≡ true
      → is_from l es p ≡ true
  one_from = grind (arith, same_sym)

  all_from : (rows : List Row) → list_all (λ r. same r.pid.node name && r.pid.creation == creation)
      rows ≡ true → AreFrom (past o es) l rows
  all_from [] q = refl
  all_from (r ∷ rows) q = grind (arith, one_from, all_from rows)

-- what is kept is of s
abbrev pub kept_of : List ℕ → Option Begun → Bool
kept_of s b = option_map_or (λ x. same x.scope s) b false

-- a part may come where r is kept as where b is, with the same rows before it
pub record IsInStep (r b : Option Begun) (kind : PartKind) (s : List ℕ) (number : ℕ) : Type 0 where
  pub next : is_next r kind s number ≡ true
  pub before : rows_before r kind s number ≡ rows_before b kind s number

pub in_step : (r b : Option Begun) (kind : PartKind) (s : List ℕ) (number : ℕ) (last : Bool)
    (rows : List Row) → comes_next b (Part kind s number last rows) ≡ true
    → (kept_of s b ≡ true → r ≡ b) → IsInStep r b kind s number
in_step = grind arith

module _ (v : ℕ) (o : Opening) (es : List Entry) (e : Entry) (legal : IsPlayedIn o es) (l : ℕ)
    (s : List ℕ) (up : is_up l es ≡ true) (agrees : link_version o l es ≡ v) where
  abbrev h : History
  h = past o es

  abbrev bodies : List (List ℕ)
  bodies = delivered l es

  room_is : peer_limit h l ≡ limit v
  room_is = ap limit agrees

  module _ (name : List ℕ) (creation : ℕ) (gave : IsGiven l name creation es) (body : List ℕ)
      (honest : IsHonest v name creation s (bodies ++ body ∷ [])) where
    here : slice_get (bodies ++ body ∷ []) (length bodies) ≡ Some body
    here = stands_last bodies body

    -- the next message stands right behind what came
    pub comes : (f : Message2) → message_taken v body ≡ Some f
        → comes_next (begun_of v bodies) f ≡ true
    comes = grind (arith, last_in_order, frames_more)

    module _ (kind : PartKind) (number : ℕ) (last : Bool) (rows : List Row)
        (says : message_taken v body ≡ Some (Part kind s number last rows))
        (step : IsInStep (begun o l es) (begun_of v bodies) kind s number) where
      abbrev all_rows : List Row
      all_rows = so_far h l kind s number rows

      rows_are : so_far_behind v bodies kind s number rows ≡ all_rows
      rows_are = grind arith

      rows_from : AreFrom h l rows
      rows_from = all_from o es l name creation gave rows
          (honest.own (length bodies) body (Part kind s number last rows) here says)

      room : IsFew v s (λ g p. view_of v s g p bodies) kind all_rows
      room = rw (take_all bodies body, rows_are) at
          (honest.few (length bodies) body here kind number last rows says)

      may_if : MaySaySoFar h l kind s all_rows → MaySay h l (Part kind s number last rows)
      may_if may = (step.next, rows_from, may)

    -- as many rows as a Sync says
    synced_number : (g : List ℕ) (p : Pid) (rows : List Row) (x : Option ℕ) (n : ℕ)
        → seen s g p (Message.Sync s rows) x ≡ Some n → n ≡ rows_of g p rows
    synced_number = grind (arith, same_decides)

    may_sync : (rows : List Row) → IsFew v s (λ g p. view_of v s g p bodies) PartKind.Sync rows
        → MaySaySoFar h l PartKind.Sync s rows
    may_sync rows few =
        let fewer = fewer_length same_row same_row_decides rows few.0
        (λ r. (let it = few.1 r.group r.pid in omega (
          arith,
          synced_number r.group r.pid rows (view_of v s r.group r.pid bodies) it.0 it.1,
        ))) in
        omega (arith, room_is)

    -- while it is heard so, with what it has stated
    module _ (now : (g : List ℕ) (p : Pid)
        → view_of v s g p bodies ≡ Some (stated o l s g p es)) where
      joined_number : (g : List ℕ) (p : Pid) (rows : List Row) (n m : ℕ)
          → seen s g p (Message.Join s rows) (Some m) ≡ Some n → n ≡ m + rows_of g p rows
      joined_number = grind (arith, same_decides)

      may_join : (rows : List Row) → IsFew v s (λ g p. view_of v s g p bodies) PartKind.Join rows
          → MaySaySoFar h l PartKind.Join s rows
      may_join rows few = record {
        all = few.0;
        counts = λ r. (let it = few.1 r.group r.pid in
            let is = joined_number r.group r.pid rows it.0 (stated o l s r.group r.pid es)
            (sym (ap (seen s r.group r.pid (Message.Join s rows)) (now r.group r.pid)) ∙ it.1) in
            omega arith);
        room = omega (arith, room_is);
      }

      may_leave : (rows : List Row) → AreThere (λ g p. view_of v s g p bodies) rows
          → MaySaySoFar h l PartKind.Leave s rows
      may_leave rows there r =
          let it = there r.group r.pid in
          let is = value_of (sym it.1 ∙ now r.group r.pid) in
          omega arith

      may_say : (kind : PartKind) (number : ℕ) (last : Bool) (rows : List Row)
          → message_taken v body ≡ Some (Part kind s number last rows)
          → IsInStep (begun o l es) (begun_of v bodies) kind s number
          → MaySay h l (Part kind s number last rows)
      may_say PartKind.Sync number last rows says step =
          may_if PartKind.Sync number last rows says step
          (may_sync (so_far h l PartKind.Sync s number rows)
          (room PartKind.Sync number last rows says step))
      may_say PartKind.Join number last rows says step =
          may_if PartKind.Join number last rows says step
          (may_join (so_far h l PartKind.Join s number rows)
          (room PartKind.Join number last rows says step))
      may_say PartKind.Leave number last rows says step =
          may_if PartKind.Leave number last rows says step
          (may_leave (so_far h l PartKind.Leave s number rows)
          (rw (take_all bodies body, rows_are PartKind.Leave number last rows says step) at
          (honest.there (length bodies) body here number last rows says)))

    -- what meets the rules isn't refused
    never : (f : Message2) → message_taken v body ≡ Some f
        → first_broken (message_checks h l f) ≡ None → (r : Rule)
        → IsStep h (but e (Frame l body) (Refused r)) → true ≡ false
    never = grind arith

    -- so a part of s is not refused while it is heard
    pub heard_never : ((g : List ℕ) (p : Pid) → view_of v s g p bodies ≡ Some (stated o l s g p es))
        → heard o l s es ≡ true → (kept_of s (begun_of v bodies) ≡ true
        → begun o l es ≡ begun_of v bodies)
        → (kind : PartKind) (number : ℕ) (last : Bool) (rows : List Row)
        → message_taken v body ≡ Some (Part kind s number last rows)
        → (r : Rule) → IsStep h (but e (Frame l body) (Refused r)) → true ≡ false
    heard_never now hears alike kind number last rows says r next =
        let f = Part kind s number last rows in
        let step = in_step (begun o l es) (begun_of v bodies) kind s number last rows
        (comes f says) alike in
        never f says (heard_met h legal l f hears (may_say now kind number last rows says step)) r
        next

    -- nor is a part of a Sync that goes on
    pub sync_never : is_visible h l ≡ true → is_running h s ≡ true
        → (kept_of s (begun_of v bodies) ≡ true → begun o l es ≡ begun_of v bodies)
        → (number : ℕ) (last : Bool) (rows : List Row)
        → message_taken v body ≡ Some (Part PartKind.Sync s number last rows)
        → (r : Rule) → IsStep h (but e (Frame l body) (Refused r)) → true ≡ false
    sync_never shown runs alike number last rows says r next =
        let f = Part PartKind.Sync s number last rows in
        let step = in_step (begun o l es) (begun_of v bodies) PartKind.Sync s number last rows
        (comes f says) alike in
        never f says (sync_met h legal l s shown runs number last rows
        (may_if PartKind.Sync number last rows says step
        (may_sync (so_far h l PartKind.Sync s number rows)
        (room PartKind.Sync number last rows says step)))) r next
