-- A control message whose parts are known by other words.
use Rattle.otp_edge.specs
use Rattle.otp_edge.proofs.Words.{List, subst, ℕ, ◌∙◌, ◌≡◌}
use Rattle.external_terms.specs.Terms.{SpellsTerm}
use specs.Bodies.{control_bytes}
use specs.Signals.{HasControl}

pub same_control : (a o b p : ℕ) (first second rest two more behind body : List ℕ)
    → HasControl a o first second rest behind body → a ≡ b → o ≡ p → second ≡ two → rest ≡ more
    → HasControl b p first two more behind body
same_control a o b p first second rest two more behind body has arity operation is_two is_more =
    record {
      control = has.control;
      is_body = has.is_body;
      is_control = record {
        one = has.is_control.one;
        two = subst SpellsTerm is_two has.is_control.two;
        bytes = has.is_control.bytes
            ∙ (λ i. control_bytes (arity i) (operation i) first (is_two i) (is_more i));
      };
    }
