use Rattle.otp_edge.proofs
use proofs.SaidLemmas.{discover_meant, discover_only, join_meant, join_only, leave_meant}
use proofs.SaidLemmas.{leave_only, no_message, sync_meant, sync_only}
use Rattle.otp_edge.proofs.hearing.hear.Goals as goal

pub returns-in-Some-clause-found : goal.returns-in-Some-clause-found
returns-in-Some-clause-found c = discover_meant c.args.term.now c.in-Some.rest.now
    c.discover_in.result c.in-Some.ensures.found c.discover_in.ensures.found

pub returns-in-Some-clause-only : goal.returns-in-Some-clause-only
returns-in-Some-clause-only c = λ m spelled.
    let is = discover_only c.args.term.now c.in-Some.rest.now m spelled c.in-Some.ensures.found in
    rw is.3 (c.discover_in.ensures.only is.0 is.1 is.2)

pub returns-in-Some-after_head-clause-found : goal.returns-in-Some-after_head-clause-found
returns-in-Some-after_head-clause-found c =
    let some = c.in-Some-after_head in
    sync_meant c.args.term.now some.rest.now c.sync_in.result some.ensures.found
    c.sync_in.ensures.found

pub returns-in-Some-after_head-clause-only : goal.returns-in-Some-after_head-clause-only
returns-in-Some-after_head-clause-only c = λ m spelled.
    let some = c.in-Some-after_head in
    let is = sync_only c.args.term.now some.rest.now m spelled some.ensures.found in
    rw is.2.3 (c.sync_in.ensures.only is.0 is.2.0 is.1 is.2.1 is.2.2)

pub returns-in-Some-after_head-2-clause-found : goal.returns-in-Some-after_head-2-clause-found
returns-in-Some-after_head-2-clause-found c =
    let some = c.in-Some-after_head-2 in
    join_meant c.args.term.now some.rest.now c.join_in.result some.ensures.found
    c.join_in.ensures.found

pub returns-in-Some-after_head-2-clause-only : goal.returns-in-Some-after_head-2-clause-only
returns-in-Some-after_head-2-clause-only c = λ m spelled.
    let some = c.in-Some-after_head-2 in
    let is = join_only c.args.term.now some.rest.now m spelled some.ensures.found in
    rw is.2.2.3 (c.join_in.ensures.only is.0 is.2.0 is.2.2.0 is.1 is.2.1 is.2.2.1 is.2.2.2)

pub returns-in-Some-after_head-3-clause-found : goal.returns-in-Some-after_head-3-clause-found
returns-in-Some-after_head-3-clause-found c =
    let some = c.in-Some-after_head-3 in
    leave_meant c.args.term.now some.rest.now c.leave_in.result some.ensures.found
    c.leave_in.ensures.found

pub returns-in-Some-after_head-3-clause-only : goal.returns-in-Some-after_head-3-clause-only
returns-in-Some-after_head-3-clause-only c = λ m spelled.
    let some = c.in-Some-after_head-3 in
    let is = leave_only c.args.term.now some.rest.now m spelled some.ensures.found in
    rw is.2.2.3 (c.leave_in.ensures.only is.0 is.2.0 is.2.2.0 is.1 is.2.1 is.2.2.1 is.2.2.2)

pub returns-clause-only : goal.returns-clause-only
returns-clause-only c = λ m spelled. absurd (no_message c.args.term.now m spelled
    c.in_default.ensures.only c.in_default-after_head.ensures.only
    c.in_default-after_head-2.ensures.only c.in_default-after_head-3.ensures.only)
