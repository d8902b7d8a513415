use Rattle.admission_rules.proofs
use Rattle.std.proofs.Common.{ap, arith, is_some, sym, true≢false, ◌∙◌}
use Rattle.std.proofs.lemmas.Result.{err_from_is_err_and}
use proofs.Peers.{more_peers}
use goal.{else-len-ge-MAX_PEERS-via-else-len-ge-MAX_PEERS}
use goal.{else-len-ge-MAX_PEERS-via-then-len-ge-MAX_PEERS+else-not-contains_key}
use proofs.admission.Admission.set_cookie_for.Goals as goal

pub returns-then-not-contains_key-clause-refused : goal.returns-then-not-contains_key-clause-refused
returns-then-not-contains_key-clause-refused c = let more = more_peers _ _ c.args.node c.args.cookie
    c.self.view_is (sym c.eq.ensures ∙ c.if-eq.false) (sym c.contains_key.ensures
    ∙ c.if-not-contains_key.true) in omega (arith, c.if-len-ge-MAX_PEERS.true)

pub returns-in_err-insert-clause-refused : goal.returns-in_err-insert-clause-refused
returns-in_err-insert-clause-refused c = let p = err_from_is_err_and c.from_residual.result
    c.from_residual.ensures.1 in let more = more_peers _ _ c.args.node c.args.cookie c.self.view_is
    (sym c.eq.ensures ∙ c.if-eq.false) (ap is_some c.in_err-insert.ensures.absent) in let absent =
    c.in_err-insert.ensures.absent in
    rw (p.1, p.2)
    (elim c.else-len-ge-MAX_PEERS.branch [
      | else-len-ge-MAX_PEERS-via-then-len-ge-MAX_PEERS+else-not-contains_key w ↦ absurd
          (true≢false (sym w.if-not-contains_key.false ∙ w.contains_key.ensures
          ∙ ap is_some absent))
      | else-len-ge-MAX_PEERS-via-else-len-ge-MAX_PEERS w ↦
          omega (arith, w.if-len-ge-MAX_PEERS.false)
    ])
