use Rattle.node_core.proofs
use proofs.Words.{ap, Reply, sym, ◌∙◌}
use Rattle.policy_audit.proofs.Losses.{legal_played}
use proofs.Scopes.{groups_are, local_groups_are, local_members_are, members_are}
use proofs.node.NodeCore.look.Goals as goal

pub returns-in_ok-of-in-Members : goal.returns-in_ok-of-in-Members
returns-in_ok-of-in-Members c = rw c.in-Members.is (λ seat. (
  rw c.in-Some.ensures.found.2,
  ap Reply.Pids
      (sym (c.in_ok-of-in-Members.ensures ∙ members_are c.args.self.now.history c.args.scope.now
      c.in-Some.running.now c.in-Some.ensures.found.0 c.in-Some.ensures.found.1
      c.in-Members.group.now _ c.in_ok-members-in-Members.ensures)),
))

pub returns-in_ok-of-in-LocalMembers : goal.returns-in_ok-of-in-LocalMembers
returns-in_ok-of-in-LocalMembers c = rw c.in-LocalMembers.is (λ seat. (
  rw c.in-Some.ensures.found.2,
  ap Reply.Pids (sym
      (c.in_ok-of-in-LocalMembers.ensures
      ∙ local_members_are c.args.self.now.history c.args.scope.now c.in-Some.running.now
      c.in-Some.ensures.found.0 c.in-Some.ensures.found.1
      (legal_played c.args.self.now.history c.in-Some.ensures.legal) c.in-LocalMembers.group.now _
      c.in_ok-local_members-in-LocalMembers.ensures.value)),
))

pub returns-in_ok-of-in-Groups : goal.returns-in_ok-of-in-Groups
returns-in_ok-of-in-Groups c = rw c.in-Groups.is (λ seat. (
  rw c.in-Some.ensures.found.2,
  ap Reply.Groups
      (sym (c.in_ok-of-in-Groups.ensures ∙ groups_are c.args.self.now.history c.args.scope.now
      c.in-Some.running.now c.in-Some.ensures.found.0 c.in-Some.ensures.found.1 _
      c.in_ok-groups-in-Groups.ensures)),
))

pub returns-in_ok-of-in-LocalGroups : goal.returns-in_ok-of-in-LocalGroups
returns-in_ok-of-in-LocalGroups c = rw c.in-LocalGroups.is (λ seat. (
  rw c.in-Some.ensures.found.2,
  ap Reply.Groups
      (sym (c.in_ok-of-in-LocalGroups.ensures
      ∙ local_groups_are c.args.self.now.history c.args.scope.now c.in-Some.running.now
      c.in-Some.ensures.found.0 c.in-Some.ensures.found.1
      (legal_played c.args.self.now.history c.in-Some.ensures.legal) _
      c.in_ok-local_groups-in-LocalGroups.ensures)),
))
