use Rattle.scope_core.proofs
use proofs.Words.{IsPartitionPoint-from_clause, rules, same_pid}
use proofs.Mentioned.{front_counts, front_is, run_partitions}
use proofs.leaving.run_of.Goals as goal

pub returns : goal.returns
returns c =
    let q = c.args.pid.now in
    let ps = c.args.pids.now in
    let bound = c.partition_point.ensures.bound in
    let point =
    IsPartitionPoint-from_clause (λ x. same_pid x q) ps _ c.partition_point.ensures.partitioned
    (run_partitions q ps c.requires) (λ a r f' k. search rules) in
    record {
      bound = bound;
      run = front_is q _ ps bound point.0;
      all = front_counts q _ ps bound point.0 point.1;
    }
