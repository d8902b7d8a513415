use Rattle.pg_world.proofs
use proofs.Words.{ap, History, length, Nodes, slice_get, slice_get-get_or, Some, subst, sym, ◌<◌}
use proofs.Words.{◌∙◌, ◌≡◌}
use Rattle.std.proofs.Common.{rules}
use Rattle.std.proofs.lemmas.Option.{IfSome_then}
use Rattle.pg_world.proofs.world.World.forget.Goals as goal

pub returns-clause-page : goal.returns-clause-page
returns-clause-page c =
    let x = c.in_ok-node.node.now in
    let within : c.args.place < length c.self.inside.nodes.items = search rules in
    let stands = slice_get-get_or c.self.inside.nodes.items c.args.place x within
    ∙ ap (λ (h : History). Some h) (sym c.in_ok-node.ensures.value) in
    IfSome_then c.forget.result c.forget.ensures.page (λ page p. record {
      node = x;
      stands = subst (λ (w : Nodes). slice_get w.nodes c.args.place ≡ Some x) c.self.view_is stands;
      handed = p.0;
      behind = p.1;
    })
