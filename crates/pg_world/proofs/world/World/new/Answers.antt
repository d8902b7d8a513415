use Rattle.pg_world.proofs
use proofs.Words.{AreNew, DifferInName, histories, IsWorld, subst, sym, world}
use proofs.Starting.{starts}
use Rattle.pg_world.proofs.world.World.new.Goals as goal

pub returns-clause-unused : goal.returns-clause-unused
returns-clause-unused c = subst (λ ns. AreNew (histories ns)) c.as_slice-2.ensures.value
    (c.have_entries.ensures.no c.if-have_entries.false)

pub returns-in_default-clause-refused : goal.returns-in_default-clause-refused
returns-in_default-clause-refused c = (
  subst (λ ns. DifferInName (histories ns)) c.as_slice.ensures.value
      (c.share_a_name.ensures.no c.if-share_a_name.false),
  subst (λ ns. AreNew (histories ns)) c.as_slice-2.ensures.value
      (c.have_entries.ensures.no c.if-have_entries.false),
)

pub invariant_of-result : goal.invariant_of-result
invariant_of-result c =
    let hs = histories c.args.nodes.items in
    let new = subst (λ ns. AreNew (histories ns)) c.as_slice-2.ensures.value
    (c.have_entries.ensures.no c.if-have_entries.false) in
    let differ = subst (λ ns. DifferInName (histories ns)) c.as_slice.ensures.value
    (c.share_a_name.ensures.no c.if-share_a_name.false) in
    subst (λ ns. IsWorld (world ns c.new.result.items)) (sym c.take_all.ensures)
    (subst (λ xs. IsWorld (world hs xs)) (sym c.new.ensures.items)
    (starts hs differ (λ i h stands. (new i h stands).node) (λ i h stands. (new i h stands).empty)))
