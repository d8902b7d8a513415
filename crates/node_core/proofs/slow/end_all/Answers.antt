use Rattle.node_core.proofs
use proofs.Words.{ap, sym, take, take_more, without_number, ◌∙◌}
use proofs.AllLost.{cut_more, ends_more}
use proofs.slow.end_all.Goals as goal

pub loop-end-preserved : goal.loop-end-preserved
loop-end-preserved c =
    let ends = c.args.ends.now in
    let end = c.end-item.result in
    let gone = take c.loop-end.end-index ends in
    let fewer = ap (without_number end.number) c.loop-end.invariant.links in
    rw (take_more ends c.loop-end.end-index end c.loop-end-test.true, ← c.end-item.is) record {
      scopes = cut_more gone end c.args.scopes.now.items c.loop-end.scopes.items
          c.end_link.new.scopes.items c.loop-end.invariant.scopes c.end_link.ensures;
      links = c.remove.ensures ∙ fewer ∙ sym (ends_more gone end c.args.links.now.items);
    }
