use Rattle.std.proofs.Common.{arith, ◌++◌, ◌≡◌}
use Rattle.std.specs.List.{flat_map}
use Rattle.std.proofs.lemmas.Grind.{common_steps}
use Rattle.std.proofs.lemmas.List.Folds.{flat_map-map}
use Rattle.pg_session.specs.Notices.{gone, notice_line}
use Rattle.pg_session.proofs.notice.put_all_down.Goals as goal

pub returns : goal.returns
returns c =
    let lines : c.loop-peer.out.items ≡ c.args.out.now.items ++ flat_map
    (λ p. notice_line (gone c.args.reason p)) c.args.peers.now = grind (arith, common_steps) in
    rw (flat_map-map notice_line (gone c.args.reason) c.args.peers.now) lines
