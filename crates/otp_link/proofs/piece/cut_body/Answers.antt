use Rattle.std.proofs.Common.{ap, append_assoc, arith, drop, length, sym, take, ◌++◌, ◌<◌, ◌∙◌, ◌≡◌}
use Rattle.std.proofs.lemmas.List.{length-take-le, take-append-drop}
use Rattle.otp_link.proofs.piece.cut_body.Goals as goal

-- of a longer one its begin would be there
pub returns-in-None : goal.returns-in-None
returns-in-None c = λ body rest few is.
    let read = c.in-Some.ensures.only (length body) (body ++ rest) (omega arith) is in
    let long : 4194304 < length body = omega (arith, read.0) in
    let split : c.in-Some.rest.now ≡ take 4096 body ++ (drop 4096 body ++ rest) =
    read.1 ∙ ap (λ l. l ++ rest) (sym (take-append-drop 4096 body))
    ∙ append_assoc (take 4096 body) (drop 4096 body) rest in
    c.in-None.ensures.only (take 4096 body) (drop 4096 body ++ rest)
    (length-take-le 4096 body (omega arith)) split
