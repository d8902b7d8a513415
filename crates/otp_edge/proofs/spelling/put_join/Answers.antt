use Rattle.otp_edge.proofs
use proofs.Words.{ap, listed, pid_bytes, ◌++◌, ◌∙◌}
use Rattle.std.specs.Prelude.{codes}
use Rattle.external_terms.specs.Values.{atom_bytes, tuple_head}
use Rattle.otp_edge.specs.Telling.{pids_of}
use proofs.PutLemmas.{join_put}
use Rattle.otp_edge.proofs.spelling.put_join.Goals as goal

pub returns : goal.returns
returns c =
    let told = c.args.told.now in
    join_put c.args.out.now.items _ c.put_member.new.out.items _ _ (tuple_head 4)
    (atom_bytes (codes "join")) (pid_bytes c.args.own.now) told.group.items
    (listed pid_bytes (pids_of told.rows.now)) c.in_ok-put_head.ensures
    c.in_ok-put_member.ensures (c.in_ok-extend_from_slice.ensures.items
    ∙ ap (λ g. c.put_member.new.out.items ++ g) c.as_slice.ensures.value)
    c.in_ok-put_pids.ensures
