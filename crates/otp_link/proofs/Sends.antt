-- What is sent of one piece behind the other.
use Rattle.otp_link.specs
use Rattle.std.proofs.Common.{ap, append_assoc, arith, Bool, false, length, length-append, List}
use Rattle.std.proofs.Common.{refl, subst, sym, true, ℕ, [], ◌++◌, ◌+◌, ◌<◌, ◌∙◌, ◌≡◌}
use Rattle.std.specs.Int.{w16, w32}
use Rattle.handshake_frames.specs.Spelling.{counted}
use specs.Pieces.{IsShort, IsUnsent, Lacks}
use specs.declared.link.LinkKind.{LinkKind}
use specs.Sent.{frame, message, more, none, Sends, SendsAll, SendsFront, SendsPiece, SendsUpTo}
use specs.Sent.{Stand, tick}

pub sends_none : (kind : LinkKind) (first : Stand) (bytes out : List ℕ)
    → out ≡ [] → SendsUpTo kind first first bytes bytes out
sends_none kind first bytes out is = record {
  used = [];
  front = refl;
  sends = subst (λ l. Sends kind first first [] l) (sym is) none;
}

pub sends_more : (kind seen : LinkKind) (first between later : Stand)
    (bytes left rest out all : List ℕ) → seen ≡ kind
    → SendsUpTo kind first between bytes left out
    → SendsFront seen between later left rest out all
    → SendsUpTo kind first later bytes rest all
sends_more kind seen first between later bytes left rest out all same so front = record {
  used = so.used ++ front.piece;
  front = so.front ∙ ap (λ l. so.used ++ l) front.front
      ∙ sym (append_assoc so.used front.piece rest);
  sends = subst (λ l. Sends kind first later (so.used ++ front.piece) l) (sym front.behind)
      (more between later so.used out front.piece front.out so.sends
      (subst (λ k. SendsPiece k between later front.piece front.out) same front.sends));
}

-- each piece has bytes
frame_has : (piece body : List ℕ) → piece ≡ counted w16 body → 0 < length piece
frame_has piece body is = rw is (omega arith)

body_has : (piece body : List ℕ) → piece ≡ counted w32 body → 0 < length piece
body_has piece body is = rw is (omega arith)

piece_has : (kind : LinkKind) (before after : Stand) (piece out : List ℕ)
    → SendsPiece kind before after piece out → 0 < length piece
piece_has kind before after piece out (frame body sent up short is own goes edge life last) =
    frame_has piece body is
piece_has kind before after piece out (message body up some few is sends still) =
    body_has piece body is
piece_has kind before after piece out (tick up is goes same) = body_has piece [] is

pub shorter : (kind : LinkKind) (before after : Stand) (bytes rest sent all : List ℕ)
    → SendsFront kind before after bytes rest sent all → length rest < length bytes
shorter kind before after bytes rest sent all front =
    let has = piece_has kind before after front.piece front.out front.sends in
    let whole : length bytes ≡ length front.piece + length rest =
    ap length front.front ∙ length-append front.piece rest in omega arith

-- ---- what stays unsent

no_frame : (bytes body rest : List ℕ) → length bytes ≡ 0 → bytes ≡ counted w16 body ++ rest → ⊥
no_frame bytes body rest empty is =
    let some : length bytes ≡ length (counted w16 body ++ rest) = ap length is in
    absurd (omega arith)

no_body : (bytes body rest : List ℕ) → length bytes ≡ 0 → bytes ≡ counted w32 body ++ rest → ⊥
no_body bytes body rest empty is =
    let some : length bytes ≡ length (counted w32 body ++ rest) = ap length is in
    absurd (omega arith)

-- where nothing is left
pub nothing_unsent : (is_up : Bool) (bytes : List ℕ) → length bytes ≡ 0 → IsUnsent is_up bytes
nothing_unsent false bytes empty = λ body rest few is. no_frame bytes body rest empty is
nothing_unsent true bytes empty = λ body rest few is. no_body bytes body rest empty is

-- where more are wanted
pub more_unsent : (is_up : Bool) (bytes : List ℕ) → IsShort is_up bytes → IsUnsent is_up bytes
more_unsent false bytes short = short
more_unsent true bytes short = λ body rest few is. short body rest (omega arith) is

-- where a longer one begins
pub long_unsent : (is_up : Bool) (bytes : List ℕ) → is_up ≡ true → Lacks w32 4194304 bytes
    → IsUnsent is_up bytes
long_unsent false bytes up lacks = absurd (cc)
long_unsent true bytes up lacks = lacks

-- what was sent is all, where nothing whole is left
pub sends_all : (kind : LinkKind) (first between after : Stand) (bytes left sent out : List ℕ)
    → SendsUpTo kind first between bytes left sent → after ≡ between → out ≡ sent
    → IsUnsent between.is_up left → SendsAll kind first after bytes out
sends_all kind first between after bytes left sent out so same is unsent =
    subst (λ s. SendsAll kind first s bytes out) (sym same)
    (subst (λ l. SendsAll kind first between bytes l) (sym is)
    (record { rest = left; sends = so; unsent = unsent }))
