use Rattle.policy_audit.proofs
use proofs.Foreign.{left_foreign, peer_foreign}
use proofs.Onward.{frame_open, unwhole_awaits}
use proofs.RowsAfter.{dialled_rows, disconnected_rows, exited_rows, joined_rows, left_rows}
use proofs.RowsAfter.{lost_other, lost_rows, opened_rows, restarted_rows, started_rows}
use proofs.RowsAfter.{stopped_rows, unfinished_rows, up_rows}
use Rattle.policy_audit.proofs.laws.rows_after.Goals as goal

pub returns-clause-joined : goal.returns-clause-joined
returns-clause-joined c = λ h e s g ps a. joined_rows h e a.answered a.accepts s g ps a.is

pub returns-clause-left : goal.returns-clause-left
returns-clause-left c = λ h e s g ps a. left_rows h e a.answered a.accepts s g ps a.is

pub returns-clause-exited : goal.returns-clause-exited
returns-clause-exited c = λ h e q a. exited_rows h e a.answered a.accepts q a.is

pub returns-clause-started : goal.returns-clause-started
returns-clause-started c = λ h e s a. started_rows h a.legal e a.answered a.accepts s a.is

pub returns-clause-stopped : goal.returns-clause-stopped
returns-clause-stopped c = λ h e s a. stopped_rows h a.legal e a.answered a.accepts s a.is

pub returns-clause-restarted : goal.returns-clause-restarted
returns-clause-restarted c = λ h e a. restarted_rows h e a.answered a.accepts a.is

pub returns-clause-opened : goal.returns-clause-opened
returns-clause-opened c = λ h e c a. opened_rows h a.legal e a.answered a.accepts c a.is

pub returns-clause-dialled : goal.returns-clause-dialled
returns-clause-dialled c = λ h e n c a. dialled_rows h a.legal e a.answered a.accepts n c a.is

pub returns-clause-unfinished : goal.returns-clause-unfinished
returns-clause-unfinished c =
    λ h e l body a w q. unfinished_rows h a.legal e a.answered a.accepts l body a.is
    (unwhole_awaits l h.entries (frame_open h e a.answered a.accepts l body a.is) w) q

pub returns-clause-up : goal.returns-clause-up
returns-clause-up c =
    λ h e l body n a q of. up_rows h a.legal e a.answered a.accepts l body a.is n q of
    (peer_foreign h a.legal l n of)

pub returns-clause-lost : goal.returns-clause-lost
returns-clause-lost c =
    λ h e l n a up of. lost_rows h a.legal e a.answered a.accepts l n a.is up of
    (peer_foreign h a.legal l n of)

pub returns-clause-lost_unfinished : goal.returns-clause-lost_unfinished
returns-clause-lost_unfinished c =
    λ h e l a down. lost_other h a.legal e a.answered a.accepts l a.is down

pub returns-clause-disconnected : goal.returns-clause-disconnected
returns-clause-disconnected c =
    λ h e n a. disconnected_rows h a.legal e a.answered a.accepts n a.is
    (left_foreign h a.legal e a.answered a.accepts n a.is)
