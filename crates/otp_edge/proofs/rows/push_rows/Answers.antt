use Rattle.otp_edge.proofs
use proofs.Words.{arith, length, sym, ◌+◌, ◌<◌, ◌∙◌}
use proofs.RowLemmas.{all_rows, rows_none, too_many_rows}
use proofs.rows.push_rows.Goals.{then-len-gt-MAX_SAID-via-else-len-gt-MAX_SAID+then-pids-len}
use proofs.rows.push_rows.Goals.{then-len-gt-MAX_SAID-via-then-len-gt-MAX_SAID}
use Rattle.otp_edge.proofs.rows.push_rows.Goals as goal

pub returns-in_default-clause-ok : goal.returns-in_default-clause-ok
returns-in_default-clause-ok c = rows_none c.args.term.now c.args.pids.now c.args.rows.now.items
    (sym c.in_ok-group.ensures ∙ c.in_default.is)

pub returns-clause-ok : goal.returns-clause-ok
returns-clause-ok c = all_rows c.args.term.now c.args.pids.now c.loop-pid.pid-index c.in-Some.group
    c.args.rows.now.items c.loop-pid.rows.items (omega arith)
    (sym c.in_ok-group.ensures ∙ c.in-Some.is) c.loop-pid.invariant

pub returns-then-len-gt-MAX_SAID-clause-refused : goal.returns-then-len-gt-MAX_SAID-clause-refused
returns-then-len-gt-MAX_SAID-clause-refused c =
    let rows = c.args.rows.now.items in
    let pids = c.args.pids.now in
    let many : 65536 < length rows + length pids = elim c.then-len-gt-MAX_SAID.branch [
      | then-len-gt-MAX_SAID-via-then-len-gt-MAX_SAID b ↦ omega (
        arith,
        c.len.ensures,
        b.if-len-gt-MAX_SAID.true,
      )
      | then-len-gt-MAX_SAID-via-else-len-gt-MAX_SAID+then-pids-len b ↦ omega (
        arith,
        c.len.ensures,
        b.len-else-len-gt-MAX_SAID.ensures,
        b.if-pids-len.true,
      )
    ] in (
      λ is. absurd (cc is),
      λ is. too_many_rows c.args.term.now pids c.in-Some.group rows
          (sym c.in_ok-group.ensures ∙ c.in-Some.is) many,
    )
