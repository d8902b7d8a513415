use Rattle.pg_world.proofs
use proofs.Words.{arith, below_more, histories, History, IsNew, slice_get, slice_get_within}
use proofs.Words.{Some, subst, sym, ◌∙◌, ◌≡◌}
use proofs.Naming.{stands}
use proofs.Puts.{value_of}
use Rattle.std.proofs.lemmas.List.{length-map}
use Rattle.pg_world.proofs.world.have_entries.Goals as goal

pub loop-place-preserved : goal.loop-place-preserved
loop-place-preserved c = λ i h below it. below_more
    (λ n. (k : History) → slice_get (histories c.args.nodes.now) n ≡ Some k → IsNew k)
    c.loop-place.place (λ n less k. c.loop-place.invariant n k less)
    (λ k there. subst IsNew
    (value_of (sym (stands c.args.nodes.now c.loop-place.place c.index-nodes-place.result
    (omega arith) c.index-nodes-place.is) ∙ there))
    (c.has_entries.ensures.no c.if-has_entries.false)) i below h it

pub returns-clause-no : goal.returns-clause-no
returns-clause-no c =
    λ none i h it. (let low = slice_get_within (histories c.args.nodes.now) i h it in
    let same = length-map c.args.nodes.now (λ n. n.history) in
    let all = c.loop-place-test.false in
    c.loop-place.invariant i h (omega (arith, low, same, all)) it)

pub returns-then-has_entries-clause-yes : goal.returns-then-has_entries-clause-yes
returns-then-has_entries-clause-yes c = λ _. record {
  place = c.loop-place.place;
  node = c.index-nodes-place.result.history;
  stands = stands c.args.nodes.now c.loop-place.place c.index-nodes-place.result (omega arith)
      c.index-nodes-place.is;
  some = c.has_entries.ensures.yes c.if-has_entries.true;
}
