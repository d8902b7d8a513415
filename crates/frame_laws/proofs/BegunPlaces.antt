-- What is begun at a place in what a node owed is the first parts of one message.
use Rattle.frame_laws.proofs
use proofs.Words.{ap, arith, Begun, begun_after, begun_by, begun_of, bodies_of, Bool, cond}
use proofs.Words.{drop-append-add, drop-append-le, Entry, false, frames_said, History, IsBegun}
use proofs.Words.{IsNode, leb-false, leb-true, length, length-append, length-drop, length-map, lie}
use proofs.Words.{List, map, map-append, Message, Message2, message_taken, narrow, nat_le, None}
use proofs.Words.{Opening, out_in, OutFrame, owed, PartKind, parts, parts_from, past, refl, Row}
use proofs.Words.{said_frames, Some, Speaks, suc, sym, take, take-append-add, take-append-le}
use proofs.Words.{take-map, take_past, true, whole, zero, ℕ, [], ◌++◌, ◌+◌, ◌-◌, ◌<◌, ◌==◌, ◌∙◌}
use proofs.Words.{◌∷◌, ◌≡◌, ◌≤◌}
use proofs.Calm.{message_ends, said_apart}
use proofs.Handshakes.{begins_message, first_byte, IsClosed, no_message}
use proofs.OneView.{element}
use proofs.Orderly.{bodies_owing}
use proofs.Pieces.{begun_apart, IsPiece, last_ends, piece_at, pieces}
use proofs.Spoken.{entry_holds, Holds, holds_of, node_before}
use proofs.Sayable.{IsSayable, reads, said_take}

-- messages, each whole; and what is begun at a place in them is one of them
pub record IsCut (v : ℕ) (bs : List (List ℕ)) : Type 0 where
  pub ends : begun_of v bs ≡ None
  pub each : (n : ℕ) (k : Begun) → begun_of v (take n bs) ≡ Some k → IsBegun v bs n k

module _ (v : ℕ) where
  cut_both : (xs ys : List (List ℕ)) → IsCut v xs → IsCut v ys → IsCut v (xs ++ ys)
  cut_both xs ys first later = record { ends = behind ys ∙ later.ends; each = each }
    where
      behind : (zs : List (List ℕ)) → begun_of v (xs ++ zs) ≡ begun_of v zs
      behind = grind (arith, said_apart, begun_apart)

      in_first : (n : ℕ) (k : Begun) → IsBegun v xs n k → IsBegun v (xs ++ ys) n k
      in_first = grind (arith, length-append, length-drop, drop-append-le, take-append-le)

      in_second : (n m : ℕ) (k : Begun) → n ≡ length xs + m → IsBegun v ys m k
          → IsBegun v (xs ++ ys) n k
      in_second n m k at it = record {
        message = it.message;
        place = length xs + it.place;
        fits = omega (arith, length-append xs ys);
        parts_are = λ j le. grind (arith, drop-append-add);
        few = it.few;
        kept = it.kept;
        behind = omega arith;
      }

      each : (n : ℕ) (k : Begun) → begun_of v (take n (xs ++ ys)) ≡ Some k
          → IsBegun v (xs ++ ys) n k
      each n k q = by (nat_le n (length xs)) refl
        where
          by : (b : Bool) → nat_le n (length xs) ≡ b → IsBegun v (xs ++ ys) n k
          by true le = grind (arith, in_first, take-append-le, leb-true)
          by false more =
              let above = leb-false n (length xs) more in
              let at : n ≡ length xs + (n - length xs) = omega arith in
              in_second n (n - length xs) k at (later.each (n - length xs) k
              (sym (behind (take (n - length xs) ys)) ∙ ap (begun_of v)
              (sym (take-append-add xs ys (n - length xs))
              ∙ ap (λ j. take j (xs ++ ys)) (sym at)) ∙ q))

  -- ---- one message

  -- what is begun behind some parts of it is numbered as they are many
  begun_at : (kind : PartKind) (s : List ℕ) (more : ℕ) (rows : List Row) (n : ℕ) (k : Begun)
      → begun_by None (take n (parts_from kind s 1 more rows)) ≡ Some k
      → (k.number ≡ n) × (n < length (parts_from kind s 1 more rows))
  begun_at kind s more rows zero k q = cc
  begun_at kind s more rows (suc j) k q = by (nat_le (suc (suc j)) (length (parts_from kind s 1
      more rows))) refl
    where
      ended : length (parts_from kind s 1 more rows) ≤ suc j → true ≡ false
      ended = grind (arith, take_past, last_ends)

      here : (f : Message2)
          → (it : IsPiece None kind s [] rows 0 (parts_from kind s 1 more rows) j f) → (b : Bool)
          → it.last ≡ b → k.number ≡ suc j
      here f it true is = lie (ended (omega arith))
      here f it false is = grind arith

      by : (b : Bool) → nat_le (suc (suc j)) (length (parts_from kind s 1 more rows)) ≡ b
          → (k.number ≡ suc j) × (suc j < length (parts_from kind s 1 more rows))
      by false more_than = grind (arith, ended)
      by true le =
          let less = leb-true (suc (suc j)) (length (parts_from kind s 1 more rows)) le in
          let f = element (parts_from kind s 1 more rows) j (omega arith) in
          let it = piece_at kind s 0 more rows [] None refl j f.0 f.1 in
          (here f.0 it it.last refl, omega arith)

  -- so it is of a message, in the parts of its version
  begun_of_message : (m : Message) (n : ℕ) (k : Begun)
      → begun_by None (take n (pieces v m)) ≡ Some k
      → (pieces v m ≡ parts m) × (k.number ≡ n) × (n < length (parts m))
  begun_of_message m n k q = by (v == 2) refl m q
    where
      single : (f : Message2) → begun_after None f ≡ None → (n : ℕ)
          → begun_by None (take n (f ∷ [])) ≡ Some k → true ≡ false
      single f none zero q = (cc)
      single f none (suc n) q = cc (alone n, none)
        where
          alone : (n : ℕ) → begun_by None (take (suc n) (f ∷ [])) ≡ begun_after None f
          alone zero = refl
          alone (suc n) = refl

      by : (b : Bool) → (v == 2) ≡ b → (m : Message)
          → begun_by None (take n (cond b (parts m) (whole m ∷ []))) ≡ Some k
          → (cond (v == 2) (parts m) (whole m ∷ []) ≡ parts m) × (k.number ≡ n)
          × (n < length (parts m))
      by = grind (arith, single, begun_at)

  abbrev Cut : List OutFrame → Type 0
  Cut fs = IsCut v (map (λ f. f.body) fs)

  cut_message : (m : Message) → IsSayable v m → Cut (said_frames v m)
  cut_message m can = record { ends = message_ends v m can; each = each }
    where
      said_so : (n : ℕ) → frames_said v (take n (map (λ f. f.body) (said_frames v m)))
          ≡ take n (pieces v m)
      said_so = grind (arith, take-map, said_take, reads)

      each : (n : ℕ) (k : Begun)
          → begun_of v (take n (map (λ f. f.body) (said_frames v m))) ≡ Some k
          → IsBegun v (map (λ f. f.body) (said_frames v m)) n k
      each = grind (arith, begun_of_message, said_so, length-map)

  cut_hello : (body : List ℕ) → begins_message (first_byte body) ≡ false
      → Cut (narrow body ∷ [])
  cut_hello body other = record {
    ends = none_said 1;
    each = λ n k q. cc (none_said n);
  }
    where
      none : message_taken v body ≡ None
      none = no_message v body other

      none_said : (n : ℕ) → begun_of v (take n (body ∷ [])) ≡ None
      none_said zero = refl
      none_said (suc zero) = grind (arith, none)
      none_said (suc (suc n)) = grind (arith, none)

  cut_closed : IsClosed Cut
  cut_closed = record {
    nothing = grind arith;
    both = λ xs ys first later. rw map-append (cut_both _ _ first later);
  }

  each_cut : (h : History) (node : IsNode h) (l : ℕ) → Holds h node l v Cut
  each_cut h node l = holds_of h node l v Cut cut_closed cut_hello (λ m can own. cut_message m can)

-- ---- along a history

pub out_cut : (o : Opening) (es : List Entry) → IsNode (past o es) → (l v : ℕ) → Speaks o l v es
    → IsCut v (bodies_of (out_in o l es))
out_cut o [] node l v speaks = (cut_closed v).nothing
out_cut o (e ∷ es) node l v speaks =
    let was = node_before o e es node in
    rw (map-append, bodies_owing) (cut_both v (bodies_of (out_in o l es))
    (map (λ f. f.body) (owed (past o es) l e.number e.event e.verdict))
    (out_cut o es was l v speaks.1)
    (entry_holds o e es node l v speaks.1 (Cut v) (each_cut v (past o es) was l)
    (cut_hello v _ refl)))
