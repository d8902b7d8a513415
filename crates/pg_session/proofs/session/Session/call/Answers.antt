use Rattle.pg_session.specs
use Rattle.std.proofs.Common.{ap, inl, subst, sym, true, ◌∙◌, ◌≡◌}
use Rattle.std.specs.List.{list_all}
use specs.Processes.{has, moves_only, spawned}
use specs.Calls.{IsSeat, Seat}
use specs.Kinds.{exit_at, stake_by, watches_after}
use specs.Outcomes.{Kept}
use Rattle.pg_session.proofs.Callers.{answers_call, makes_seat, may_own}
use Rattle.pg_session.proofs.session.Session.call.Given.{Over}
use Rattle.pg_session.proofs.session.Session.call.Goals.{After-has_all, In_ok-keep}
use Rattle.pg_session.proofs.session.Session.call.Goals as goal

-- the processes that the event moves are the connection's
moves : (g : Over) (c : After-has_all g) → c.has_all.result ≡ true
    → moves_only c.self.inside.processes c.args.event ≡ true
moves g c all = subst (λ ps. list_all (has c.self.inside.processes) ps ≡ true)
    (c.pids.ensures ∙ c.of-kind.ensures.moved) (sym c.has_all.ensures ∙ all)

pub call-answered-requires : goal.call-answered-requires
call-answered-requires g c =
    may_own c.self.inside.processes (spawned c.self.inside.caller.calls) c.args.event
    c.self.invariant c.requires (moves g (goal.at.call-answered-requires g c).After-has_all
    c.if-not-has_all.false)

-- the processes that the connection has then were spawned
still_a_seat : (g : Over) (c : In_ok-keep g) → IsSeat (record {
  pass = c.call-answered.new.self;
  own = c.keep.new.processes;
  taken = c.self.inside.is_open;
  known = c.self.inside.news;
  watches = c.keep.new.watches.items;
  seen = c.self.inside.seen;
})
still_a_seat g c =
    let before : Seat = record {
      pass = c.self.inside.caller;
      own = c.self.inside.processes;
      taken = c.self.inside.is_open;
      known = c.self.inside.news;
      watches = c.self.inside.watches.items;
      seen = c.self.inside.seen;
    } in
    let after : Seat = record before {
      pass = c.call-answered.new.self;
      own = c.keep.new.processes;
    } in
    let exits = exit_at c.in-Ok.stake in
    makes_seat before after c.args.event c.call-answered.new.outcome exits c.self.invariant
    c.call-answered.ensures.called (c.call-answered.ensures.own tt)
    (subst (λ own. Kept c.call-answered.new.outcome exits own c.keep.new.processes)
    c.prepare-prepared.ensures.same c.in_ok-keep.ensures.ok)

pub invariant_of-self-2 : goal.invariant_of-self-2
invariant_of-self-2 g c = still_a_seat g (goal.at.invariant_of-self-2 g c).In_ok-keep

pub invariant_of-self-in_err-answered : goal.invariant_of-self-in_err-answered
invariant_of-self-in_err-answered g c =
    still_a_seat g (goal.at.invariant_of-self-in_err-answered g c).In_ok-keep

pub returns-clause-ok : goal.returns-clause-ok
returns-clause-ok g c =
    let before : Seat = record {
      pass = c.self.inside.caller;
      own = c.self.inside.processes;
      taken = c.self.inside.is_open;
      known = c.self.inside.news;
      watches = c.self.inside.watches.items;
      seen = c.self.inside.seen;
    } in
    let after : Seat = record before {
      pass = c.call-answered.new.self;
      own = c.keep.new.processes;
      watches = c.keep.new.watches.items;
    } in
    let exits = exit_at c.in-Ok.stake in
    let came = c.call-answered.new.outcome in
    let stake = c.in-Ok.ensures.is ∙ c.of-kind.ensures.stake in
    let watches =
    c.in_ok-keep.ensures.watches
    ∙ ap (λ s. watches_after came s c.prepare-prepared.new.watches.items) stake
    ∙ ap (watches_after came (stake_by c.args.event)) c.prepare-prepared.ensures.watches in
    let own = moves g (goal.at.returns-clause-ok g c).After-has_all c.if-not-has_all.false in
    rw (← c.self.view_is) (answers_call before after c.args.event c.args.out.now.items
    c.call-answered.new.out.items came c.lack-lack.result exits
    (c.in-Ok.ensures.stake ∙ c.of-kind.ensures.exits) own watches c.lack-lack.ensures
    c.in_ok-answered.ensures.ok
    (subst (λ own. Kept came exits own c.keep.new.processes)
    c.prepare-prepared.ensures.same c.in_ok-keep.ensures.ok))

pub returns-clause-once : goal.returns-clause-once
returns-clause-once g c = rw (← c.self.view_is) (inl c.call-answered.ensures.called)

pub returns-in_err-keep-clause-once : goal.returns-in_err-keep-clause-once
returns-in_err-keep-clause-once g c = rw (← c.self.view_is) (inl c.call-answered.ensures.called)

pub returns-in_err-answered-clause-once : goal.returns-in_err-answered-clause-once
returns-in_err-answered-clause-once g c =
    rw (← c.self.view_is) (inl c.call-answered.ensures.called)
