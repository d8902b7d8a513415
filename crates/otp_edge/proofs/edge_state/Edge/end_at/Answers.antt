use Rattle.otp_edge.proofs
use proofs.Words.{arith, refl, subst, sym}
use Rattle.std.proofs.Common.{inr}
use Rattle.otp_edge.specs.Opens.{IsOnly}
use proofs.EdgeLemmas.{ends_there, stays_at}
use Rattle.link_frames.specs.declared.message.Message.TheVariants as messages
use Rattle.otp_edge.proofs.edge_state.Edge.end_at.Goals as goal

pub returns-clause-heard : goal.returns-clause-heard
returns-clause-heard c = inr (λ d. ends_there c.args.self.now _ c.args.other.now
    c.only_message.result c.args.place c.index-open.result.now _ d (omega arith)
    c.index-open.ensures (sym c.if-not-is_known.ensures)
    (subst (λ s. IsOnly (messages.Down s) c.only_message.result) c.in_ok-scope.ensures
    c.only_message.ensures.only) refl c.forget.ensures)

pub returns-clause-stays : goal.returns-clause-stays
returns-clause-stays c = stays_at c.args.self.now _ c.args.place c.index_mut.result.now _
    c.index_mut.ensures.value refl refl (refl, refl, refl) refl refl
