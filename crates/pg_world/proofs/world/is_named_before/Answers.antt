use Rattle.pg_world.proofs
use proofs.Words.{arith, below_more, histories, History, slice_get, Some, ◌≡◌, ◌≢◌}
use proofs.Naming.{apart, shared, stands}
use Rattle.pg_world.proofs.world.is_named_before.Goals as goal

pub returns-then-eq-clause-yes : goal.returns-then-eq-clause-yes
returns-then-eq-clause-yes c = λ _. shared (histories c.args.nodes.now)
    c.loop-earlier.earlier c.args.place c.index-nodes-earlier.result.history
    c.index-nodes-place.result.history c.name.result.now
    c.name-in-loop-earlier.result.now c.eq.result
    (record {
      one = stands c.args.nodes.now c.loop-earlier.earlier c.index-nodes-earlier.result
          (omega arith) c.index-nodes-earlier.is;
      another = stands c.args.nodes.now c.args.place c.index-nodes-place.result c.requires
          c.index-nodes-place.is;
      name = c.name.ensures;
      other = c.name-in-loop-earlier.ensures;
    }) c.loop-earlier-test.true c.eq.ensures c.if-eq.true

pub loop-earlier-preserved : goal.loop-earlier-preserved
loop-earlier-preserved c = λ i h k below one two. below_more
    (λ n. (a b : History) → slice_get (histories c.args.nodes.now) n ≡ Some a
    → slice_get (histories c.args.nodes.now) c.args.place ≡ Some b
    → a.opening.name ≢ b.opening.name) c.loop-earlier.earlier
    (λ n less a b. c.loop-earlier.invariant n a b less)
    (apart (histories c.args.nodes.now) c.loop-earlier.earlier c.args.place
    c.index-nodes-earlier.result.history c.index-nodes-place.result.history c.name.result.now
    c.name-in-loop-earlier.result.now c.eq.result
    (record {
      one = stands c.args.nodes.now c.loop-earlier.earlier c.index-nodes-earlier.result
          (omega arith) c.index-nodes-earlier.is;
      another = stands c.args.nodes.now c.args.place c.index-nodes-place.result c.requires
          c.index-nodes-place.is;
      name = c.name.ensures;
      other = c.name-in-loop-earlier.ensures;
    }) c.eq.ensures c.if-eq.false) i below h k one two
