use Rattle.scope_core.proofs
use proofs.Words.{on_ok_weaker, sym, times_named, ◌∙◌}
use proofs.Outcomes.{from_err, from_not_err}
use proofs.Indexed.{covers_replaced, replaced_others, step_settled, unsettled}
use proofs.indexed_rows.IndexedRows.replace.Goals as goal

pub invariant_of-self : goal.invariant_of-self
invariant_of-self c =
    let some = from_err c.put_all.result
    (sym c.is_err.ensures.value ∙ c.if-is_err.true) c.put_all.ensures.some in
    unsettled c.args.changes.now c.args.node.now c.self.inside.lists
    (times_named c.self.inside.index) (times_named c.put_all.new.index)
    (times_named c.settle_all.new.index) c.self.invariant some c.settle_all.ensures

pub invariant_of-self-2 : goal.invariant_of-self-2
invariant_of-self-2 c =
    let n = c.args.node.now in
    let cs = c.args.changes.now in
    let was = c.self.inside.lists in
    let put = from_not_err c.put_all.result
    (sym c.is_err.ensures.value ∙ c.if-is_err.false) c.put_all.ensures.ok in
    step_settled c.replace-replaced.result cs n was c.replace-replaced.new.self
    (times_named c.self.inside.index) (times_named c.put_all.new.index)
    (times_named c.settle_all-2.new.index) c.self.invariant put c.settle_all-2.ensures
    (on_ok_weaker c.replace-replaced.result (λ joins. (
      covers_replaced n c.args.rows.items was c.replace-replaced.new.self joins cs
          (rw (← c.self.view_is) at c.requires.changes),
      replaced_others n c.args.rows.items was c.replace-replaced.new.self joins c.requires.list.own,
    )) c.replace-replaced.ensures.ok) c.replace-replaced.ensures.same
