use Rattle.scope_core.proofs
use proofs.Words.{sym, times_named, ◌∙◌}
use proofs.Outcomes.{from_err, from_not_err}
use proofs.Indexed.{joined_settled, unsettled}
use proofs.indexed_rows.IndexedRows.join.Goals as goal

pub invariant_of-self : goal.invariant_of-self
invariant_of-self c =
    let some = from_err c.put_all.result
    (sym c.is_err.ensures.value ∙ c.if-is_err.true) c.put_all.ensures.some in
    unsettled c.args.changes.now c.args.node.now c.self.inside.lists
    (times_named c.self.inside.index) (times_named c.put_all.new.index)
    (times_named c.settle_all.new.index) c.self.invariant some c.settle_all.ensures

pub invariant_of-self-else-is_err-2 : goal.invariant_of-self-else-is_err-2
invariant_of-self-else-is_err-2 c =
    let put = from_not_err c.put_all.result
    (sym c.is_err.ensures.value ∙ c.if-is_err.false) c.put_all.ensures.ok in
    let joins = from_not_err c.join-joined.result
    (sym c.is_err-2.ensures.value ∙ c.if-is_err-2.false) c.join-joined.ensures.ok in
    joined_settled c.args.changes.now c.args.node.now c.args.more.items c.self.inside.lists
    c.join-joined.new.self (times_named c.self.inside.index)
    (times_named c.put_all.new.index) c.self.invariant put
    c.requires.changes c.requires.named c.requires.list.own joins
