use Rattle.std.proofs.Common.{arith}
use Rattle.std.proofs.lemmas.Grind.{common_steps}
use Rattle.policy_audit.proofs.InPages.{behind}
use Rattle.policy_audit.proofs.later.Later.new.Goals as goal

pub returns-in-Some : goal.returns-in-Some
returns-in-Some c = grind (arith, common_steps, behind c.args.pages.now c.requires c.args.place.now)

pub returns-in-None : goal.returns-in-None
returns-in-None c = grind (arith, common_steps, behind c.args.pages.now c.requires c.args.place.now)
