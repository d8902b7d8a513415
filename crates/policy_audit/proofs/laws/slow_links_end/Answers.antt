use Rattle.policy_audit.proofs
use proofs.LostWords.{lost_heard, lost_open, lost_same, lost_told, lost_waiting}
use proofs.Losses.{alone, history_opening, legal_played, legal_room, lost_rows_gone, lost_with}
use proofs.Losses.{made_audited, made_entered, made_legal, next_step, slow_both}
use proofs.Early.{early_few}
use proofs.Silent.{all_few, tells_none}
use proofs.WithinLosses.{rows_within_losses}
use Rattle.policy_audit.proofs.laws.slow_links_end.Goals as goal

pub returns : goal.returns
returns c = record {
  plays = legal_played;
  step = next_step;
  made = made_legal;
  opening = history_opening;
  audited = made_audited;
  entered = made_entered;
  room = legal_room;
  few = all_few;
  early = early_few;
  lost = lost_with;
  slow = slow_both;
  alone = alone;
  silent = tells_none;
  opens = lost_open;
  same = lost_same;
  waiting = λ o es ls k. lost_waiting es o ls k;
  heard = λ o es. lost_heard es o;
  told = λ o es. lost_told es o;
  listed = lost_rows_gone;
  within = rows_within_losses;
}
