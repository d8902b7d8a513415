use Rattle.frame_laws.proofs.ToldPlaces.{told_fall}
use Rattle.frame_laws.proofs.laws.told_in_order.Goals as goal

pub returns : goal.returns
returns c = record
    { fall = λ o l s es. (told_fall o l s es).falls; came = λ o l s es. (told_fall o l s es).below }
