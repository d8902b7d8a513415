use Rattle.frame_laws.proofs
use proofs.Giving.{asked_once, named_first}
use proofs.Openings.{opening_is}
use Rattle.frame_laws.proofs.laws.given_came.Goals as goal

pub returns : goal.returns
returns c = record {
  opened =
      λ h legal l d before opens none. named_first h.opening l h.entries legal d before none opens;
  dialled = λ h legal l. asked_once h.opening l h.entries legal;
  once = λ l es. opening_is es l;
}
