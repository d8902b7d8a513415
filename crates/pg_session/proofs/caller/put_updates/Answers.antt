use Rattle.std.proofs.Common.{arith, ◌++◌, ◌≡◌}
use Rattle.std.specs.List.{flat_map}
use Rattle.std.proofs.lemmas.Grind.{common_steps}
use Rattle.std.proofs.lemmas.List.Folds.{flat_map-map}
use Rattle.pg_session.specs.Notices.{change, notice_line}
use Rattle.pg_session.proofs.caller.put_updates.Goals as goal

pub returns : goal.returns
returns c =
    let lines : c.loop-update.out.items ≡ c.args.out.now.items ++ flat_map
    (λ u. notice_line (change c.args.number u)) c.args.updates.now =
    grind (arith, common_steps) in
    rw (flat_map-map notice_line (change c.args.number) c.args.updates.now) lines
