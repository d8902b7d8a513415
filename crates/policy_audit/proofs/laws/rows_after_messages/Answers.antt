use Rattle.policy_audit.proofs
use proofs.Foreign.{peer_foreign}
use proofs.MessageRows.{added_rows, discovered_rows, downed_rows, synced_rows, taken_rows}
use Rattle.policy_audit.proofs.laws.rows_after_messages.Goals as goal

pub returns-clause-synced : goal.returns-clause-synced
returns-clause-synced c =
    λ h e l n s rows a. synced_rows h a.accepted.legal e a.accepted.answered a.accepted.accepts l
    a.body a.accepted.is n a.awaited a.peer (peer_foreign h a.accepted.legal l n a.peer) s rows
    a.says

pub returns-clause-joined : goal.returns-clause-joined
returns-clause-joined c =
    λ h e l n s rows a. added_rows h a.accepted.legal e a.accepted.answered a.accepted.accepts l
    a.body a.accepted.is n a.awaited a.peer (peer_foreign h a.accepted.legal l n a.peer) s rows
    a.says

pub returns-clause-left : goal.returns-clause-left
returns-clause-left c =
    λ h e l n s rows a. taken_rows h a.accepted.legal e a.accepted.answered a.accepted.accepts l
    a.body a.accepted.is n a.awaited a.peer (peer_foreign h a.accepted.legal l n a.peer) s rows
    a.says

pub returns-clause-down : goal.returns-clause-down
returns-clause-down c =
    λ h e l n s a. downed_rows h a.accepted.legal e a.accepted.answered a.accepted.accepts l a.body
    a.accepted.is n a.awaited a.peer (peer_foreign h a.accepted.legal l n a.peer) s a.says

pub returns-clause-discovered : goal.returns-clause-discovered
returns-clause-discovered c =
    λ h e l n s a. discovered_rows h a.accepted.legal e a.accepted.answered a.accepted.accepts l
    a.body a.accepted.is n a.awaited a.peer (peer_foreign h a.accepted.legal l n a.peer) s a.says
