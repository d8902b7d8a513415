use Rattle.node_core.proofs
use proofs.Words.{arith, length, refl, rules, ◌≡◌}
use Rattle.std.proofs.Math.Seq.{take-append_seam}
use proofs.MergedGroups.{are_some, HasSorted, sorted_gathered}
use proofs.Zipped.{all_zipped, zipped}
use proofs.gathering.gathered.Goals as goal

pub merged-requires : goal.merged-requires
merged-requires c = are_some c.args.groups.items c.requires

pub loop-change-preserved : goal.loop-change-preserved
loop-change-preserved c =
    zipped HasSorted c.deref_mut-change-items.result.now c.loop-change.change-items
    c.loop-change.change-index c.change-item.result _ c.loop-change.invariant (omega arith)
    (record {
      group = refl;
      left = c.sort_pids.ensures;
      joined = c.sort_pids-in-loop-change.ensures;
    })

pub returns : goal.returns
returns c =
    let items = c.loop-change.change-items in
    let long : length items ≡ c.in_ok-gathered.gathered.len = omega arith in
    let now = c.deref_mut-change-items.result.now in
    let sorted = all_zipped HasSorted c.loop-change.change-index now items c.loop-change.invariant
    (omega arith) in
    rw (← long, take-append_seam) (sorted_gathered c.args.groups.items now items (search rules)
    sorted)
