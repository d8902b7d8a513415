-- What a node owes to a link is whole messages, one behind the other, each in its parts.
use Rattle.frame_laws.proofs
use proofs.Words.{AreInOrder, arith, begun_by, bodies_of, Entry, false, frames_said, History}
use proofs.Words.{IsNode, List, map, map-append, Message, narrow, None, Opening, out_in, OutFrame}
use proofs.Words.{owed, Owing, owing, past, refl, said_frames, Speaks, ℕ, [], ◌++◌, ◌∷◌, ◌≡◌}
use proofs.Calm.{AreWhole, frames_apart, message_ends, message_says, said_apart, whole_both}
use proofs.Handshakes.{begins_message, first_byte, IsClosed, no_message}
use proofs.Pieces.{begun_apart, order_apart, pieces_in_order}
use proofs.Spoken.{entry_holds, Holds, holds_of, node_before}
use proofs.Sayable.{IsSayable, said}

-- messages, each whole and in the order of its parts
pub record IsOrderly (v : ℕ) (fs : List OutFrame) : Type 0 where
  pub ends : AreWhole v fs
  pub order : AreInOrder None (said v fs)

module _ (v : ℕ) where
  orderly_both : (xs ys : List OutFrame) → IsOrderly v xs → IsOrderly v ys → IsOrderly v (xs ++ ys)
  orderly_both = grind (arith, whole_both, frames_apart, order_apart)

  orderly_closed : IsClosed (IsOrderly v)
  orderly_closed = record { nothing = record { ends = refl; order = tt }; both = orderly_both }

  orderly_message : (m : Message) → IsSayable v m → IsOrderly v (said_frames v m)
  orderly_message = grind (arith, message_ends, message_says, pieces_in_order)

  orderly_hello : (body : List ℕ) → begins_message (first_byte body) ≡ false
      → IsOrderly v (narrow body ∷ [])
  orderly_hello = grind (arith, no_message)

  pub each_orderly : (h : History) (node : IsNode h) (l : ℕ) → Holds h node l v (IsOrderly v)
  each_orderly h node l = holds_of h node l v (IsOrderly v) orderly_closed orderly_hello
      (λ m can own. orderly_message m can)

-- ---- along a history

pub bodies_owing : (n : ℕ) (fs : List OutFrame) → bodies_of (map (owing n) fs) ≡ map (λ f. f.body)
    fs
bodies_owing n [] = refl
bodies_owing n (f ∷ fs) = grind (arith, bodies_owing n fs)

-- what these bodies say, and those of frames that one entry owes behind them
pub said_more : (v : ℕ) (xs : List Owing) (n : ℕ) (fs : List OutFrame)
    → frames_said v (bodies_of (xs ++ map (owing n) fs)) ≡ frames_said v (bodies_of xs) ++ said v fs
said_more = grind (arith, map-append, bodies_owing, said_apart)

pub record OutOrderly (v : ℕ) (xs : List Owing) : Type 0 where
  pub ends : begun_by None (frames_said v (bodies_of xs)) ≡ None
  pub order : AreInOrder None (frames_said v (bodies_of xs))

pub owed_orderly : (o : Opening) (e : Entry) (es : List Entry) → IsNode (past o (e ∷ es))
    → (l v : ℕ) → Speaks o l v es
    → IsOrderly v (owed (past o es) l e.number e.event e.verdict)
owed_orderly o e es node l v speaks = entry_holds o e es node l v speaks (IsOrderly v)
    (each_orderly v (past o es) (node_before o e es node) l) (orderly_hello v _ refl)

pub out_orderly : (o : Opening) (es : List Entry) → IsNode (past o es) → (l v : ℕ)
    → Speaks o l v es → OutOrderly v (out_in o l es)
out_orderly o [] node l v speaks = record { ends = refl; order = tt }
out_orderly o (e ∷ es) node l v speaks =
    grind (
      arith,
      out_orderly o es (node_before o e es node) l v speaks.1,
      owed_orderly o e es node l v speaks.1,
      said_more,
      begun_apart,
      order_apart,
    )
