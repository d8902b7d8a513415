use Rattle.otp_edge.proofs
use Rattle.otp_edge.specs
use proofs.Words.{ap, subst, sym, ◌+◌, ◌∙◌, ◌≡◌, ◌≤◌}
use specs.Tallies.{times}
use specs.Opens.{open_of, with_seen}
use specs.Sayings.{leaves}
use proofs.TellingLemmas.{left_here, told_here}
use Rattle.otp_edge.proofs.open_scope.OpenScope.tell_leave.Goals as goal

pub returns-clause-told : goal.returns-clause-told
returns-clause-told c = λ other is.
    let them : c.in-Some.ends.other.now ≡ other = cc (c.in-Some.ensures.other, is) in
    let told = told_here c.groups_of.new.life.atoms.items leaves c.in-Some.ends.own.now
    c.args.self.now.own c.in-Some.ends.other.now other c.in_ok-kept.kept.items
    c.sort_unstable.new.self.items c.deref.result.now c.in_ok-told.told.items
    c.deref-2.result.now c.deref-3.result.now c.in_ok-out.out.items
    c.in_ok-gone.gone.items c.in-Some.ensures.own them
    c.sort_unstable.ensures.permutation c.deref.ensures.value c.in_ok-told.ensures.grouped
    c.deref-2.ensures.value c.deref-3.ensures.value c.in_ok-out.ensures
    c.in_ok-gone.ensures in (
      left_here c.groups_of.new.life.atoms.items c.args.self.now.own other
          c.args.rows.now c.in_ok-kept.kept.items c.in_ok-gone.gone.items c.in_ok-out.out.items
          c.args.self.now.seen.told.items c.tell_leave.new.self.told.items
          c.in_ok-kept.ensures.cut told
          (λ r few.
          let same = c.in_ok-tally.ensures r ∙ ap (times r) c.deref-4.ensures.value in
          ap (λ n. times r c.tell_leave.new.self.told.items + n) (sym same)
          ∙ c.tell_leave.ensures.left r
          (subst (λ n. n ≤ times r c.args.self.now.seen.told.items) (sym same) few)),
      ap (λ s. with_seen s (open_of c.args.self.now)) c.tell_leave.ensures.seen,
    )
