use Rattle.node_core.proofs
use proofs.Words.{ap, ◌∙◌}
use proofs.OwnChanges.{err_both, ok_both}
use proofs.Told.{forgotten}
use proofs.telling.tell_exit.Goals as goal

pub returns-clause-same : goal.returns-clause-same
returns-clause-same c =
    err_both c.or_forget.result c.prepare_exit-own.result c.or_forget.ensures.result
    c.or_forget.ensures.forgot c.prepare_exit-own.ensures.same
    (λ dropped bared. dropped ∙ bared ∙ forgotten c.args.links.now.items c.requires.idle)

pub returns-clause-told : goal.returns-clause-told
returns-clause-told c =
    ok_both c.or_forget.result c.prepare_exit-own.result c.or_forget.ensures.result
    c.or_forget.ensures.same c.prepare_exit-own.ensures.told
    (λ same own told. rw (ap (λ x. x.items) same) told)
