use Rattle.scope_core.proofs
use proofs.Words.{ap, Some, sym, tied_itself, ◌∙◌}
use proofs.Short.{found_at, gap_none}
use proofs.short_map.ShortMap.get.Goals as goal

pub returns-in-Ok : goal.returns-in-Ok
returns-in-Ok g c =
    let found = rw (← c.self.view_is) at c.in-Ok.ensures.found in
    let within = rw (← c.self.view_is) at c.in-Ok.ensures.bound in
    rw (← c.self.view_is) (ap (λ e. Some e.1) c.index.ensures
    ∙ sym (found_at g.met.K.Ord.total c.args.key.now _ _ c.index.result.now within
    c.self.invariant found))

pub returns-in-Err : goal.returns-in-Err
returns-in-Err g c =
    let total = g.met.K.Ord.total in
    let key = c.args.key.now in
    sym (gap_none total key key _ _ c.in-Err.ensures.end (tied_itself total key)
    c.in-Err.ensures.gap)
