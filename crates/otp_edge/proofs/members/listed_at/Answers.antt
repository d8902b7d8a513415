use Rattle.otp_edge.proofs
use proofs.Words.{flat_map, IsPid, length, pid_bytes, sym, ◌++◌, ◌∙◌}
use Rattle.external_terms.specs.Values.{nil_bytes}
use proofs.ListLemmas.{all_read, inner_of, list_first, list_parts, none_inside}
use proofs.LackLemmas.{lack}
use Rattle.otp_edge.proofs.members.listed_at.Goals as goal

pub returns-in_default-clause-only : goal.returns-in_default-clause-only
returns-in_default-clause-only c = λ pids rest are whole.
    absurd (c.in_default.ensures.only (length pids) (flat_map pid_bytes pids) rest are.few
    (none_inside pid_bytes pids) (whole ∙ list_parts pid_bytes pids rest))

pub returns-in_err-pids-clause-only : goal.returns-in_err-pids-clause-only
returns-in_err-pids-clause-only c = λ pids rest are whole.
    let inside = inner_of pid_bytes IsPid c.args.bytes.now c.in-Some.count c.in-Some.rest.now
    c.in-Some.ensures.only pids rest are whole in
    lack c.from_residual.result _ c.from_residual.ensures.1
    (c.in_err-pids.ensures.only pids (nil_bytes ++ rest) (sym inside.0) are.each inside.1)

pub returns-in_default-after_nil-clause-only : goal.returns-in_default-after_nil-clause-only
returns-in_default-after_nil-clause-only c = λ pids rest are whole.
    let inside = inner_of pid_bytes IsPid c.args.bytes.now c.in-Some.count c.in-Some.rest.now
    c.in-Some.ensures.only pids rest are whole in
    let found = c.in_ok-pids.ensures.found in
    let all = all_read pid_bytes IsPid c.in-Some.rest.now c.in_ok-pids.pids.items
    c.in_ok-pids.rest.now found.1 pids (nil_bytes ++ rest) (found.0 ∙ inside.0) are.each inside.1
    in absurd (c.in_default-after_nil.ensures.only rest all.1)

pub returns-clause-found : goal.returns-clause-found
returns-clause-found c =
    let found = c.in_ok-pids.ensures.found in
    list_first pid_bytes IsPid c.args.bytes.now c.in-Some.count c.in-Some.rest.now
    c.in_ok-pids.pids.items c.in_ok-pids.rest.now c.in-Some-after_nil.rest.now
    c.in-Some.ensures.fits
    c.in-Some.ensures.found c.in-Some.ensures.only found.0 found.1 c.in-Some-after_nil.ensures.found
