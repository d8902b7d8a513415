use Rattle.otp_edge.proofs
use Rattle.otp_edge.specs
use proofs.Words.{ap, ◌≡◌}
use specs.Opens.{open_of, with_seen}
use specs.Sayings.{joins}
use proofs.TellingLemmas.{told_here}
use Rattle.otp_edge.proofs.open_scope.OpenScope.tell_join.Goals as goal

pub returns-clause-told : goal.returns-clause-told
returns-clause-told c = λ other is.
    let them : c.in-Some.ends.other.now ≡ other = cc (c.in-Some.ensures.other, is) in (
      c.in_ok-copies.copies.items,
      told_here c.groups_of.new.life.atoms.items joins c.in-Some.ends.own.now
          c.args.self.now.own c.in-Some.ends.other.now other c.args.rows.items
          c.sort_unstable.new.self.items c.deref.result.now c.in_ok-told.told.items
          c.deref-2.result.now c.deref-3.result.now c.in_ok-out.out.items
          c.in_ok-copies.copies.items c.in-Some.ensures.own them
          c.sort_unstable.ensures.permutation c.deref.ensures.value c.in_ok-told.ensures.grouped
          c.deref-2.ensures.value c.deref-3.ensures.value c.in_ok-out.ensures
          c.in_ok-copies.ensures,
      ap (λ s. with_seen s (open_of c.args.self.now)) c.in_ok-tell_join.ensures.seen,
    )
