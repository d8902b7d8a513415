use Rattle.otp_edge.proofs
use proofs.Words.{ap, listed, pid_bytes, ◌++◌, ◌∙◌}
use Rattle.external_terms.specs.Values.{tuple_head}
use Rattle.otp_edge.specs.Telling.{pids_of}
use proofs.PutLemmas.{stated_put}
use Rattle.otp_edge.proofs.spelling.put_stated.Goals as goal

pub returns : goal.returns
returns c =
    let told = c.args.told.now in
    stated_put c.args.out.now.items c.put_tuple.new.out.items _ _ (tuple_head 2)
    told.group.items (listed pid_bytes (pids_of told.rows.now)) c.in_ok-put_tuple.ensures.ok
    (c.in_ok-extend_from_slice.ensures.items
    ∙ ap (λ g. c.put_tuple.new.out.items ++ g) c.as_slice.ensures.value)
    c.in_ok-put_pids.ensures
