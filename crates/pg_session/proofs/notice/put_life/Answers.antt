use Rattle.pg_session.proofs
use Rattle.pg_session.specs
use Rattle.std.proofs.Common.{codes, decimal, None, refl, Some, subst, [], ◌++◌, ◌≡◌}
use specs.Notices.{restarted}
use proofs.Callers.{on_ok}
use proofs.Telling.{in_line, news_all_gone, news_more, news_one}
use Rattle.pg_text.specs.declared.down_reason.DownReason.TheVariants as reasons
use Rattle.pg_session.proofs.notice.put_life.Goals as goal

pub returns : goal.returns
returns c =
    on_ok c.put_numbered_line.result
    (λ is. news_more (record { peers = c.args.peers.now; anew = Some c.args.creation })
    (record { peers = []; anew = Some c.args.creation }) (record { peers = []; anew = None })
    c.args.out.now.items
    c.put_all_down.new.out.items c.put_numbered_line.new.out.items
    (news_all_gone reasons.Restarted c.args.peers.now (Some c.args.creation) c.args.out.now.items
    c.put_all_down.new.out.items c.in_ok-put_all_down.ensures)
    (news_one (record { peers = []; anew = Some c.args.creation })
    (record { peers = []; anew = None }) (restarted c.args.creation) c.put_all_down.new.out.items
    c.put_numbered_line.new.out.items (refl, refl) refl
    (in_line c.put_all_down.new.out.items (codes "! restarted ") (decimal c.args.creation)
    (codes "\n") c.put_numbered_line.new.out.items
    (subst (λ n. c.put_numbered_line.new.out.items ≡ c.put_all_down.new.out.items ++ codes
    "! restarted " ++ decimal n ++ codes "\n") c.from.ensures is))))
    c.put_numbered_line.ensures
