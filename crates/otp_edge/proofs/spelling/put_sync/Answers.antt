use Rattle.std.specs.Prelude.{codes}
use Rattle.external_terms.specs.Values.{atom_bytes, tuple_head}
use Rattle.otp_edge.proofs.PutLemmas.{sync_put}
use Rattle.otp_edge.proofs.spelling.put_sync.Goals as goal

pub returns : goal.returns
returns c = sync_put c.args.out.now.items _ _ _ _ (tuple_head 2) (atom_bytes (codes "$gen_cast"))
    (tuple_head 3) (atom_bytes (codes "sync")) _ _ c.in_ok-put_head.ensures
    c.in_ok-put_head-2.ensures c.in_ok-put_member.ensures c.in_ok-put_all_stated.ensures
