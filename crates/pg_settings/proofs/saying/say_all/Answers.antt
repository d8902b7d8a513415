use Rattle.pg_settings.proofs
use Rattle.std.proofs.Common.{drop, length, rules, ◌+◌}
use Rattle.std.proofs.lemmas.Iterator.Adapters.{YieldsList-from_vec}
use Rattle.std.proofs.lemmas.Iterator.Consumers.{YieldsList-turn}
use Rattle.pg_settings.specs.Settings.{StopsAt}
use proofs.Taken.{next_stands, seen_more}
use proofs.Told.{said_none, said_one}
use Rattle.pg_settings.proofs.saying.say_all.Goals as goal

pub loop-event-init : goal.loop-event-init
loop-event-init g c = record { said = said_none c.args.pass.now; front = search rules }

pub loop-event-preserved : goal.loop-event-preserved
loop-event-preserved g c =
    let at = c.loop-event in
    let told = c.args.told.items in
    let all = YieldsList-from_vec told (search rules) (search rules) in
    let end = c.next.ensures.steps in
    let next = YieldsList-turn all at.yielded _ at.yielded_by _ c.next.new.self c.in-Some.event
    c.in-Some.is end in
    record {
      said = said_one c.args.pass.now at.pass c.say.new.pass at.yielded c.in_ok-say.ensures.ok.0 _
          at.invariant.said c.in_ok-say.ensures.ok.1;
      front = seen_more told at.yielded c.in-Some.event at.invariant.front next;
    }

pub returns-in_err-say-clause-refused : goal.returns-in_err-say-clause-refused
returns-in_err-say-clause-refused g c =
    let at = c.loop-event in
    let told = c.args.told.items in
    let all = YieldsList-from_vec told (search rules) (search rules) in
    let end = c.next.ensures.steps in
    let next = YieldsList-turn all at.yielded _ at.yielded_by _ c.next.new.self c.in-Some.event
    c.in-Some.is end in
    let stops : StopsAt c.in_err-say.field-0.0 told c.args.pass.now c.say.new.pass = record {
      first = at.yielded;
      event = c.in-Some.event;
      rest = drop (length at.yielded + 1) told;
      order = next_stands told at.yielded c.in-Some.event at.invariant.front next;
      mid = at.pass;
      said = at.invariant.said;
      refused = c.in_err-say.ensures.refused;
    } in
    search (rules, stops)
