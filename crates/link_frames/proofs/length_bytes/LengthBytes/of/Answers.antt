use Rattle.link_frames.proofs.Words.{ap, arith, length, length-append, take_at, ℕ, ◌++◌, ◌+◌, ◌∙◌}
use Rattle.std.proofs.lemmas.Slice.{take-put_mid}
use Rattle.link_frames.proofs.length_bytes.LengthBytes.of.Goals as goal

pub returns : goal.returns
returns c =
    let held = c.args.held.now in
    let piece = c.args.piece.now in
    let front = c.copy_from_slice.ensures.after in
    let back = c.copy_from_slice-2.ensures.after in
    take-put_mid (length held) _ _ _ (length held + length piece) (omega (arith, ap length back))
    (omega (arith, ap length front, length-append {A = ℕ}))
    ∙ rw back (ap (λ xs. xs ++ piece) (take_at _ _ (length held) (ap length front) ∙ front))
