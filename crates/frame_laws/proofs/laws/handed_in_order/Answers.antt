use Rattle.frame_laws.proofs.Handing.{all_handed, open_rest}
use Rattle.frame_laws.proofs.laws.handed_in_order.Goals as goal

pub returns-clause-order : goal.returns-clause-order
returns-clause-order c = λ h legal l. (let it = all_handed h.opening h.entries legal l in
    (it.rest, it.all))

pub returns-clause-waiting : goal.returns-clause-waiting
returns-clause-waiting c = λ h legal l opens. open_rest h.opening h.entries l opens
    (all_handed h.opening h.entries legal l)
