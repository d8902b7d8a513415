use Rattle.node_core.proofs
use proofs.Words.{all_from_yields_List, is_number, rules, tests, YieldsList-from_slice, ◌∙◌}
use proofs.Joining.{alive_all}
use proofs.kept.Kept.are_alive.Goals as goal

pub returns : goal.returns
returns g c =
    all_from_yields_List (λ p. is_number p.number c.args.self.now.processes.live) _ _ c.all.result
    c.all.ensures.ran (YieldsList-from_slice c.args.pids.now cc)
    (λ x b q k. search (rules, tests))
    ∙ alive_all g.past c.args.self.now.processes c.requires.0.follows.processes c.args.pids.now
    c.requires.1
