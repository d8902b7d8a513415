use Rattle.node_core.proofs
use proofs.Words.{rules}
use Rattle.std.proofs.lemmas.List.Sorted.{IsPartitionPoint-from_clause}
use proofs.Starting.{before_partitions, is_before, put_at}
use proofs.scoping.put_in.Goals as goal

pub returns : goal.returns
returns c =
    let rs = c.args.scopes.now.items in
    let start = IsPartitionPoint-from_clause (is_before c.args.running.scope) rs _
    (rw c.deref.ensures.value at c.partition_point-place.ensures.partitioned)
    (before_partitions c.args.running.scope rs c.requires.ascending)
    (λ a r f' k. search rules) in
    rw (c.insert.ensures.items, c.insert.ensures.succeeds c.requires.room)
    (put_at c.args.running rs c.partition_point-place.result
    (rw c.deref.ensures.value at c.partition_point-place.ensures.bound) start)
