use Rattle.node_core.proofs
use proofs.Words.{same, same_decides, sym}
use proofs.Found.{found_passes}
use proofs.kept.Kept.shared_scope.Goals as goal

pub copy_or-requires : goal.copy_or-requires
copy_or-requires c =
    (same_decides _ _).0 (found_passes (λ r. same r.scope c.args.scope) c.args.self.now.scopes.items
    c.in-Some.running.now (sym (rw (c.in-Some.is, c.deref.ensures.value) at c.find.ensures)))
