use Rattle.node_core.proofs
use proofs.Words.{ap, arith, eqb-true, exit_frames, Message, rows_left, said_in, said_to, sym}
use proofs.Words.{vec_len, ◌∙◌}
use Rattle.std.proofs.lemmas.List.{nil_from_length}
use proofs.RowsGone.{few_left}
use Rattle.scope_core.proofs.Outcomes.{on_err}
use proofs.Told.{forgot_bare, prepared_among, prepared_none}
use proofs.telling.exit_one.Goals.{else-not-is_empty}
use proofs.telling.exit_one.Goals.{then-not-is_empty+in_ok-rows_left+in_ok-try_clone+in_ok-told}
use proofs.telling.exit_one.Goals as goal

pub tell-told-requires : goal.tell-told-requires
tell-told-requires c =
    rw (
      c.deref-then-not-is_empty.ensures.value,
      c.of-rows.ensures,
      c.in_ok-rows_left.ensures,
      c.deref.ensures.value,
    )
    (few_left c.args.running.now.table c.args.pid.now c.requires.own c.in_ok-groups.groups.items
    c.in_ok-groups.ensures.change _ c.requires.few)

pub returns-in_err-told-clause-same : goal.returns-in_err-told-clause-same
returns-in_err-told-clause-same c = on_err _ (forgot_bare c.args.links.now.items
    c.tell-told.new.links.items c.in_err-told.ensures.forgot)

pub returns-clause-told : goal.returns-clause-told
returns-clause-told c =
    let groups = c.in_ok-groups.groups.items in
    let said = Message.Leave c.args.running.now.scope (rows_left groups) in
    elim c.if-not-is_empty.branch [
      | then-not-is_empty+in_ok-rows_left+in_ok-try_clone+in_ok-told w ↦
          let prepared = rw (
            w.deref-then-not-is_empty.ensures.value,
            w.in_ok-try_clone.ensures,
            w.of-rows.ensures,
            w.in_ok-rows_left.ensures,
            w.deref.ensures.value,
          ) at
          w.in_ok-told.ensures.ok in
          rw w.links-is (prepared_among (said_to c.args.running.now.told.items said) (said_in said)
          c.args.links.now.items w.tell-told.new.links.items prepared)
      | else-not-is_empty w ↦
          let none = nil_from_length groups (let empty =
          eqb-true (vec_len c.in_ok-groups.groups) 0
          (sym c.is_empty.ensures ∙ w.if-not-is_empty.false) in
          omega (arith, c.in_ok-groups.groups.ok)) in
          rw w.links-is (prepared_none (exit_frames c.args.running.now groups)
          (λ l parted. ap (λ g. exit_frames c.args.running.now g l parted) none)
          c.args.links.now.items)
    ]
