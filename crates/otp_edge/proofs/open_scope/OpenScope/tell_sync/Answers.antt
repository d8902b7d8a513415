use Rattle.otp_edge.proofs
use Rattle.otp_edge.specs
use proofs.Words.{ap, ◌∙◌, ◌≡◌}
use specs.Opens.{open_of, with_seen}
use specs.Sayings.{syncs}
use specs.ScopeEdges.{Seen, seen_of}
use proofs.TellingLemmas.{seen_told, told_here}
use Rattle.otp_edge.proofs.open_scope.OpenScope.tell_sync.Goals as goal

pub returns-clause-told : goal.returns-clause-told
returns-clause-told c = λ other is.
    let them : c.in-Some.ends.other.now ≡ other = cc (c.in-Some.ensures.other, is) in (
      told_here c.groups_of.new.life.atoms.items syncs c.in-Some.ends.own.now
          c.args.self.now.own c.in-Some.ends.other.now other c.args.rows.items
          c.sort_unstable.new.self.items c.deref.result.now c.in_ok-told.told.items
          c.deref-2.result.now c.deref-3.result.now c.in_ok-out.out.items
          c.tell_sync.new.self.told.items c.in-Some.ensures.own them
          c.sort_unstable.ensures.permutation c.deref.ensures.value c.in_ok-told.ensures.grouped
          c.deref-2.ensures.value c.deref-3.ensures.value c.in_ok-out.ensures
          (ap (λ (s : Seen). s.told) c.tell_sync.ensures ∙ c.in_ok-copies.ensures),
      ap (λ s. with_seen s (open_of c.args.self.now)) (seen_told c.in_ok-copies.copies.items
          (seen_of c.tell_sync.new.self) (seen_of c.args.self.now.seen) c.tell_sync.ensures),
    )
