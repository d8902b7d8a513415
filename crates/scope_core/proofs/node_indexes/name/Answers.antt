use Rattle.scope_core.proofs
use proofs.Words.{find_in, key_cmp, key_of, on_err_weaker, text_cmp}
use proofs.HashedWrites.{put_back}
use proofs.node_indexes.name.Goals as goal

pub returns-then-is_err-clause-same_groups : goal.returns-then-is_err-clause-same_groups
returns-then-is_err-clause-same_groups c =
    let row = c.args.row.now in
    let put = rw c.of-key.ensures at c.in_ok-put.ensures.ok in
    let took = rw c.of-key.ensures at c.take.ensures.taken in
    on_err_weaker c.name_process-named.result (λ same g k. put_back row.group g (key_of row.pid) k
    (find_in text_cmp key_cmp c.args.groups.now) c.args.count _ _ c.requires (put g k) (took g k))
    c.name_process-named.ensures.same

pub returns-else-is_err-clause-processes : goal.returns-else-is_err-clause-processes
returns-else-is_err-clause-processes c = rw c.of-key.ensures at c.name_process-named.ensures.ok
