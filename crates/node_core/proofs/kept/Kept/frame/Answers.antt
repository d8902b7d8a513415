use Rattle.node_core.proofs
use proofs.Words.{ap, arith, facts, IsState, Rule, subst, sym, true, ◌∙◌, ◌≡◌}
use proofs.Answering.{refuses}
use proofs.HeardFrames.{early_facts, is_early, last_facts, state_there}
use proofs.MessagePlaces.{closed_here}
use Rattle.node_core.proofs.kept.Kept.frame.Given.{Over}
use proofs.Searched.{links_in_order}
use Rattle.node_core.proofs.kept.Kept.frame.Goals.{After-state}
use Rattle.node_core.proofs.kept.Kept.frame.Goals as goal

-- the state of the link at its place
state : (g : Over) (c : After-state g)
    → IsState (facts g.call.past c.args.number) c.state.result.now
state g c = subst (IsState _) (sym (c.state.ensures ∙ ap (λ x. x.state) c.index.ensures))
    (state_there c.requires.keeps.follows c.args.number
    (rw c.deref.ensures.value at (sym c.place_of.ensures ∙ c.in-Some.is)) c.index.result.now)

pub returns-in_default : goal.returns-in_default
returns-in_default g c =
    let closed = closed_here c.requires.keeps.follows c.args.number
    (rw c.deref.ensures.value at (sym c.place_of.ensures ∙ c.in_default.is)) in
    refuses c.requires _ Rule.NoSuchLink (grind (arith, closed)) (grind (arith, closed))

pub returns-in-Ended : goal.returns-in-Ended
returns-in-Ended g c =
    let closed = rw c.in-Ended.is at (state g (goal.at.returns-in-Ended g c).After-state) in
    refuses c.requires _ Rule.NoSuchLink (grind (arith, closed)) (grind (arith, closed))

pub message-requires : goal.message-requires
message-requires g c =
    let now = rw c.in-Up.is at (state g (goal.at.message-requires g c).After-state) in
    record {
      link = record {
        called = c.requires;
        here = rw c.deref.ensures.value at (sym c.place_of.ensures ∙ c.in-Some.is);
      };
      up = grind (arith, now);
    }

pub early_frame-requires : goal.early_frame-requires
early_frame-requires g c =
    let early : is_early c.state.result.now ≡ true =
    grind (
      arith,
      c.in_default-state.not-Reply,
      c.in_default-state.not-Ack,
      c.in_default-state.not-Up,
      c.in_default-state.not-Ended,
    ) in
    let it = early_facts _ _ (state g (goal.at.early_frame-requires g c).After-state) early in
    record {
      link = record {
        called = c.requires;
        here = rw c.deref.ensures.value at (sym c.place_of.ensures ∙ c.in-Some.is);
      };
      opens = it.0;
      unwhole = it.1;
      early = it.2;
    }

pub last_frame-requires : goal.last_frame-requires
last_frame-requires g c =
    let it = last_facts _ _ (state g (goal.at.last_frame-requires g c).After-state)
    (grind (arith, c.in-Reply.is)) in
    record {
      link = record {
        called = c.requires;
        here = rw c.deref.ensures.value at (sym c.place_of.ensures ∙ c.in-Some.is);
      };
      opens = it.0;
      last = it.2;
    }

pub last_frame-requires-in-Ack : goal.last_frame-requires-in-Ack
last_frame-requires-in-Ack g c =
    let it = last_facts _ _ (state g (goal.at.last_frame-requires-in-Ack g c).After-state)
    (grind (arith, c.in-Ack.is)) in
    record {
      link = record {
        called = c.requires;
        here = rw c.deref.ensures.value at (sym c.place_of.ensures ∙ c.in-Some.is);
      };
      opens = it.0;
      last = it.2;
    }

pub place_of-requires : goal.place_of-requires
place_of-requires g c = rw c.deref.ensures.value (links_in_order c.requires.keeps.follows)
