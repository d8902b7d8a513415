use Rattle.otp_edge.proofs
use proofs.Words.{refl}
use proofs.AtomLemmas.{goes_on_here, goes_on_more}
use proofs.GatherLemmas.{left_next, nothing_gathered, run_here, told_next}
use Rattle.otp_edge.proofs.told_groups.groups_of.Goals as goal

pub loop-first-init : goal.loop-first-init
loop-first-init c = record {
  gathered = nothing_gathered c.args.life.now.atoms.items c.args.rows.now
      c.new-told.result.items c.new-told.ensures.items;
  life = goes_on_here c.args.life.now;
}

pub loop-first-preserved-in_ok-push : goal.loop-first-preserved-in_ok-push
loop-first-preserved-in_ok-push c =
    let cut = c.split_at.ensures in
    let run = run_here c.in-Some.first.now c.in-Some.tail.now c.loop-first.rest.now
    c.split_at.result.0.now c.split_at.result.1.now c.run_len.result c.in-Some.ensures.cases.0
    c.run_len.ensures.all cut.front cut.by_index.0 cut.front_len cut.back_len in
    record {
      gathered = told_next c.loop-first.life.atoms.items c.told_term.new.life.atoms.items
          c.args.rows.now c.loop-first.rest.now c.split_at.result.0.now
          c.split_at.result.1.now c.loop-first.told.items c.push.new.self.items
          c.in-Some.first.now.group _ c.in_ok-group.ensures.life.atoms c.requires
          c.loop-first.invariant.gathered run refl
          (rw c.in-Some-2.is at c.in_ok-group.ensures.term) c.in_ok-push.ensures.items;
      life = goes_on_more c.args.life.now c.loop-first.life c.told_term.new.life
          c.loop-first.invariant.life c.in_ok-group.ensures.life;
    }

pub loop-first-preserved : goal.loop-first-preserved
loop-first-preserved c =
    let cut = c.split_at.ensures in
    let run = run_here c.in-Some.first.now c.in-Some.tail.now c.loop-first.rest.now
    c.split_at.result.0.now c.split_at.result.1.now c.run_len.result c.in-Some.ensures.cases.0
    c.run_len.ensures.all cut.front cut.by_index.0 cut.front_len cut.back_len in
    record {
      gathered = left_next c.loop-first.life.atoms.items c.told_term.new.life.atoms.items
          c.args.rows.now c.loop-first.rest.now c.split_at.result.0.now
          c.split_at.result.1.now c.loop-first.told.items c.in-Some.first.now.group
          c.in_ok-group.ensures.life.atoms c.loop-first.invariant.gathered run
          (rw c.in_default-2.is at c.in_ok-group.ensures.term);
      life = goes_on_more c.args.life.now c.loop-first.life c.told_term.new.life
          c.loop-first.invariant.life c.in_ok-group.ensures.life;
    }
