use Rattle.scope_core.proofs
use proofs.Words.{ap, arith, is_row, mentions, min, Pid, sym, tally, ◌+◌, ◌∙◌}
use proofs.Mentioned.{ascends_on, counts_on}
use proofs.leaving.gone_in_order.Goals as goal

pub loop-pid-preserved : goal.loop-pid-preserved
loop-pid-preserved c =
    let q = c.in-Some.pid.now in
    let ps = c.in-Some.others.now in
    let n = c.run_of-again.result in
    let gone = c.loop-pid.gone.items in
    let count = λ (p : Pid). tally (is_row c.args.group.now p) c.args.rows.now in
    let first = c.in-Some.ensures.cases.0 in
    let run = c.run_of-again.ensures.run in
    rw (c.in_ok-push_copies.ensures, c.split_at.ensures.back) (record {
      order = ascends_on q n ps run gone c.min.result (omega arith)
          (rw (← first) c.loop-pid.invariant.order);
      counts = λ p. counts_on q n ps run c.run_of-again.ensures.all count gone c.min.result
          (c.min.ensures ∙ ap (λ k. min k (n + 1)) c.count-count.ensures) p
          ∙ ap (λ xs. mentions p gone + min (mentions p xs) (count p)) (sym first)
          ∙ c.loop-pid.invariant.counts p;
    })
