-- The rows of each message are of the node's own name, and of its creation at the opening of the
-- link.
use Rattle.frame_laws.proofs
use proofs.Words.{arith, Bool, but, creation, entered, Entry, Event, is_of, is_opened_by, IsNode}
use proofs.Words.{List, Message2, message_taken, moment, nat_le, None, Opening, out_in, OutFrame}
use proofs.Words.{owed, owes, Owing, past, refl, slice_get, Some, Speaks, true, unowed, Verdict, ℕ}
use proofs.Words.{[], ◌∷◌, ◌≡◌, ◌≤◌}
use proofs.Handshakes.{no_message}
use proofs.Openings.{open_low, same_creation, unborn_out}
use proofs.Places.{all_at, InFirst, InSecond, owed_here, part, Parted}
use proofs.Spoken.{entry_says, IsSpoken, node_before}

module _ (o : Opening) (es : List Entry) (e : Entry) (l v : ℕ) where
  -- the entry that opens a link owes it no message
  opened_silent : (ev : Event) (w : Verdict) → is_opened_by l (but e ev w) ≡ true
      → (m : ℕ) (f : OutFrame) → slice_get (owed (past o es) l e.number ev w) m ≡ Some f
      → message_taken v f.body ≡ None
  opened_silent = grind (arith, no_message)

pub rows_own : (o : Opening) (es : List Entry) → IsNode (past o es) → (l v : ℕ) → Speaks o l v es
    → (n : ℕ) (x : Owing) → slice_get (out_in o l es) n ≡ Some x → (m : Message2)
    → message_taken v x.frame.body ≡ Some m
    → is_of o.name (creation (moment l (past o es))) m ≡ true
rows_own o [] node l v speaks n x q m says = grind arith
rows_own o (e ∷ es) node l v speaks n x q m says = by (λ r. rows_own o es (node_before o e es node)
    l v speaks.1 n x r m says) (part (out_in o l es) (owes (past o es) l e) n x q)
  where
    earlier : l ≤ entered es
        → creation (moment l (past o es)) ≡ creation (moment l (past o (e ∷ es)))
    earlier = grind arith

    -- a link to which something is owed was opened
    low_of : slice_get (out_in o l es) n ≡ Some x → (b : Bool) → nat_le l (entered es) ≡ b
        → l ≤ entered es
    low_of = grind (arith, unborn_out)

    by : (slice_get (out_in o l es) n ≡ Some x → is_of o.name (creation (moment l (past o es)))
        m ≡ true) → Parted (out_in o l es) (owes (past o es) l e) n x
        → is_of o.name (creation (moment l (past o (e ∷ es)))) m ≡ true
    by so_far (InFirst r less) =
        rw (earlier (low_of r (nat_le l (entered es)) refl)) at (so_far r)
    by so_far (InSecond j at r) =
        grind (
          arith,
          owed_here e.number (owed (past o es) l e.number e.event e.verdict) j x r,
          all_at (IsSpoken v (past o es)) (owed (past o es) l e.number e.event e.verdict)
              (entry_says o e es node l v speaks.1) j x.frame,
          entry_says o e es node l v speaks.1,
          same_creation o es node.legal.1 l,
          earlier,
          open_low o es node.legal.1 l,
          opened_silent o es e l v e.event e.verdict,
          unowed o es l,
        )
