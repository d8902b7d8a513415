use Rattle.policy_audit.proofs
use proofs.Words.{events, groups_named, listed, local_groups, local_members, own, pids_named}
use proofs.Named.{group_named, listed_named, own_named, pid_named}
use proofs.Lists.{groups_are, members_are, rows_are}
use Rattle.policy_audit.proofs.laws.lists_ascend.Goals as goal

pub returns-clause-members : goal.returns-clause-members
returns-clause-members c =
    λ h s g. members_are (listed h s) (λ f. pids_named s f (events h.entries))
    (groups_named s (events h.entries))
    (λ f p q. pid_named s f p (events h.entries) (listed_named s f p h q))
    (λ f p q. group_named s f p (events h.entries) (listed_named s f p h q)) g

pub returns-clause-local_members : goal.returns-clause-local_members
returns-clause-local_members c =
    λ h s g. members_are (own h s) (λ f. pids_named s f (events h.entries))
    (groups_named s (events h.entries))
    (λ f p q. pid_named s f p (events h.entries) (own_named s f p h q))
    (λ f p q. group_named s f p (events h.entries) (own_named s f p h q)) g

pub returns-clause-groups : goal.returns-clause-groups
returns-clause-groups c =
    λ h s. groups_are (listed h s) (λ f. pids_named s f (events h.entries))
    (groups_named s (events h.entries))
    (λ f p q. pid_named s f p (events h.entries) (listed_named s f p h q))
    (λ f p q. group_named s f p (events h.entries) (listed_named s f p h q))

pub returns-clause-local_groups : goal.returns-clause-local_groups
returns-clause-local_groups c =
    λ h s. groups_are (own h s) (λ f. pids_named s f (events h.entries))
    (groups_named s (events h.entries))
    (λ f p q. pid_named s f p (events h.entries) (own_named s f p h q))
    (λ f p q. group_named s f p (events h.entries) (own_named s f p h q))

pub returns-clause-local_rows : goal.returns-clause-local_rows
returns-clause-local_rows c =
    λ h s. rows_are (own h s) (local_members h s) (λ g. returns-clause-local_members c h s g)
    (local_groups h s) (returns-clause-local_groups c h s)
