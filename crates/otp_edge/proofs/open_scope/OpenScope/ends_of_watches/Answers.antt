use Rattle.otp_edge.proofs
use Rattle.otp_edge.specs
use proofs.Words.{ap, ◌++◌, ◌∙◌}
use Rattle.std.specs.Prelude.{codes}
use Rattle.external_terms.specs.Values.{atom_bytes}
use specs.Bodies.{control_bytes, framed}
use specs.Endings.{alone, end_bytes}
use proofs.SayingLemmas.{bytes_more}
use Rattle.otp_edge.proofs.open_scope.OpenScope.ends_of_watches.Goals as goal

pub loop-watcher-preserved : goal.loop-watcher-preserved
loop-watcher-preserved c =
    let w = c.watcher-item.result in
    bytes_more (end_bytes c.args.self.now.own) c.args.self.now.watchers.items
    c.deref-watcher-items.result.now c.loop-watcher.watcher-index w c.loop-watcher.out.items
    c.put_end.new.out.items c.deref-watcher-items.ensures.value c.loop-watcher-test.true
    c.watcher-item.is c.loop-watcher.invariant
    (c.in_ok-put_end.ensures ∙ ap (λ s. c.loop-watcher.out.items ++ framed (alone
    (control_bytes 5 21 s w.from.items (w.reference.items ++ atom_bytes (codes "normal")))))
    (c.deref.ensures.value ∙ c.in_ok-own.ensures))
