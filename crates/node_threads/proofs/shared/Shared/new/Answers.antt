use Rattle.std.proofs.Common.{arith, List, refl, replicate, subst, sym, ℕ, [], ◌≡◌}
use Rattle.policy_audit.specs.declared.entry.Entry.{Entry}
use Rattle.policy_audit.specs.History.{audited, past}
use Rattle.policy_audit.specs.Policy.{IsLegal}
use Rattle.node_threads.specs.Room.{AreCounted}
use Rattle.node_threads.proofs.Counted.{AreCounted_none}
use Rattle.node_threads.proofs.shared.Shared.new.Goals as goal

pub invariant_of-result : goal.invariant_of-result
invariant_of-result c =
    let zeros : c.in_ok-counts.counts.items ≡ replicate c.args.seats 0 =
    c.in_ok-counts.ensures.items_if_clones_equal (λ y h. h) in
    record {
      legal = subst (λ (es : List Entry). IsLegal (past c.args.core.history.opening es))
          (sym c.requires.unused) (record { entries = tt; whole = refl });
      counted = subst (λ (es : List Entry). AreCounted c.in_ok-counts.counts.items
          (audited es))
          (sym c.requires.unused)
          (subst (λ (ns : List ℕ). AreCounted ns []) (sym zeros) (AreCounted_none c.args.seats));
      some = omega (arith, c.in_ok-counts.ensures.len, c.requires.some);
      few = omega (arith, c.in_ok-counts.ensures.len, c.requires.few);
    }
