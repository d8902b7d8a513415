use Rattle.scope_core.proofs
use proofs.Words.{ap, NodeCounts, ◌∙◌}
use proofs.LoweredRows.{last_raised, room_for_last, verdict}
use proofs.lowering.can_lower.Goals as goal

pub raise-requires-clause-few : goal.raise-requires-clause-few
raise-requires-clause-few c =
    let now = c.loop-lowered in
    room_for_last c.args.gone.now now.lowered c.index-gone-lowered.result now.counts.entries
    c.args.counts.now.entries c.loop-lowered-test.true now.invariant.0 c.index-gone-lowered.is
    now.invariant.2 c.requires.once c.requires.few

pub loop-lowered-preserved : goal.loop-lowered-preserved
loop-lowered-preserved c =
    let now = c.loop-lowered in
    let raised =
    last_raised c.args.gone.now now.lowered c.index-gone-lowered.result now.counts.entries
    c.args.counts.now.entries c.loop-lowered-test.true now.invariant.0 c.index-gone-lowered.is
    now.invariant.2 c.raise.new.self.entries
    (ap (λ (t : NodeCounts). t.entries) c.raise.ensures) in (
      raised.0,
      ap (λ (t : NodeCounts). t.node) c.raise.ensures ∙ now.invariant.1,
      raised.1,
    )

pub returns-clause-value : goal.returns-clause-value
returns-clause-value c =
    let all = c.lower_all-lowered in
    verdict c.args.gone.now all.result all.new.counts.entries c.args.counts.now.entries
    c.requires.once all.ensures.within all.ensures.lowered all.ensures.ended
