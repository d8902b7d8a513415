use Rattle.std.specs.Prelude.{codes}
use Rattle.external_terms.specs.Values.{atom_bytes, tuple_head}
use Rattle.otp_edge.proofs.PutLemmas.{sync_put}
use Rattle.otp_edge.proofs.asked.put_in_sync.Goals as goal

pub returns : goal.returns
returns c =
    sync_put c.args.out.now.items _ _ _ c.put_atom-2.new.out.items (tuple_head 2)
    (atom_bytes (codes "$gen_cast")) (tuple_head 3) (atom_bytes (codes "in_sync"))
    (atom_bytes c.args.node.now) (atom_bytes (codes "true")) c.in_ok-put_head.ensures
    c.in_ok-put_head-2.ensures c.in_ok-put_atom.ensures.ok c.in_ok-put_atom-2.ensures.ok
