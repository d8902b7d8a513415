use Rattle.std.specs.Prelude.{codes}
use Rattle.external_terms.specs.Values.{atom_bytes, tuple_head}
use Rattle.otp_edge.proofs.PutLemmas.{discover_put}
use Rattle.otp_edge.proofs.spelling.put_discover.Goals as goal

pub returns : goal.returns
returns c = discover_put c.args.out.now.items _ _ (tuple_head 2) (atom_bytes (codes "discover")) _
    c.in_ok-put_head.ensures c.in_ok-put_member.ensures
