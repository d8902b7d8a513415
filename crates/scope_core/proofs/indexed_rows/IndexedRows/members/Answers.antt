use Rattle.scope_core.proofs
use proofs.Words.{ap, is_row, tally, ◌∙◌}
use proofs.Indexed.{all_gathered}
use proofs.indexed_rows.IndexedRows.members.Goals as goal

pub returns : goal.returns
returns c = record {
  ascends = c.in_ok-pids.ensures.ascends;
  counts = λ p. c.in_ok-pids.ensures.counts p
      ∙ all_gathered c.args.group.now p c.self.inside.lists _
      (c.of-nodes.ensures.nodes p.node ∙ c.self.invariant c.args.group.now p.node)
      ∙ ap (tally (is_row c.args.group.now p)) c.self.view_is;
}
