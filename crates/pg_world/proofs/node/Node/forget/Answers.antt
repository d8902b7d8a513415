use Rattle.pg_world.proofs.Words.{History, subst}
use Rattle.std.proofs.lemmas.Option.{IfSome_then}
use Rattle.policy_audit.specs.History.{audited}
use Rattle.policy_audit.specs.Pages.{IsPageBehind}
use Rattle.pg_world.proofs.node.Node.forget.Goals as goal

pub returns-clause-page : goal.returns-clause-page
returns-clause-page c = IfSome_then c.forget.result c.forget.ensures.page (λ page p. (
  c.self.inside.core.forgotten,
  subst (λ (h : History). IsPageBehind c.self.inside.core.forgotten (audited h.entries) page)
      c.self.view_is p.0,
))
