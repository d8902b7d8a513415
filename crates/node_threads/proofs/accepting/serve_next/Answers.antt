use Rattle.node_threads.proofs
use Rattle.std.proofs.Common.{sym}
use Rattle.node_threads.specs.Drawing.{new_challenges}
use proofs.Pairs.{turned, will_serve}
use proofs.Drawn.{spent, spent_last, spent_none, will_have}
use Rattle.node_threads.proofs.accepting.serve_next.Goals as goal

pub returns-then-is_some-clause-drawn : goal.returns-then-is_some-clause-drawn
returns-then-is_some-clause-drawn g c = spent_none c.args.pair c.args.stop.now
    (g.S.Rng.stream c.args.source.now) (sym c.if-is_some.ensures)

pub returns-in-Ok-clause-turn : goal.returns-in-Ok-clause-turn
returns-in-Ok-clause-turn g c =
    turned c.args.pair c.args.place c.args.stop.now c.start.result (sym c.if-is_some.ensures)
    (will_serve c.in-Ok.opened.link c.args.pair c.open_next.new.reader c.start.result
    c.in-Ok.ensures.ok c.start.ensures)

pub returns-in-Ok-clause-drawn : goal.returns-in-Ok-clause-drawn
returns-in-Ok-clause-drawn g c =
    spent c.args.pair c.args.stop.now (g.S.Rng.stream c.args.source.now)
    (g.S.Rng.stream c.open_next.new.source) (new_challenges c.args.pair.reader
    c.open_next.new.reader) c.start.result (sym c.if-is_some.ensures)
    (will_have c.in-Ok.opened.link c.args.pair c.open_next.new.reader c.start.result
    c.in-Ok.ensures.ok c.start.ensures) c.in-Ok.ensures.drawn

pub returns-in-Err-clause-drawn : goal.returns-in-Err-clause-drawn
returns-in-Err-clause-drawn g c =
    spent_last c.args.pair c.open_next.new.reader c.args.stop.now
    _ (g.S.Rng.stream c.args.source.now) (g.S.Rng.stream c.open_next.new.source)
    (sym c.if-is_some.ensures) c.in-Err.ensures.left
