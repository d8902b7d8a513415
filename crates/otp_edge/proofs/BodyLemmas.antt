-- Terms that are alone.
use Rattle.otp_edge.proofs
use proofs.Words.{ap, append-nil, Bool, length, List, subst, sym, true, ℕ, [], ◌++◌, ◌==◌, ◌∙◌, ◌∷◌}
use proofs.Words.{◌≡◌}
use Rattle.std.proofs.Common.{inl, inr}
use Rattle.otp_edge.specs.Bodies.{IsBehind, version}
use Rattle.external_terms.specs.Terms.{SpellsTerm}

pub whole_term : (bytes term rest : List ℕ) → SpellsTerm term → bytes ≡ term ++ rest → rest ≡ []
    → SpellsTerm bytes
whole_term bytes term rest is whole none =
    subst SpellsTerm (sym (whole ∙ ap (λ l. term ++ l) none ∙ append-nil term)) is

pub behind_empty : (bytes : List ℕ) (test : Bool) → test ≡ (length bytes == 0)
    → ((message : List ℕ) → SpellsTerm message → bytes ≡ version ∷ message → ⊥) → IsBehind bytes
    → test ≡ true
behind_empty bytes test is other (inl none) = is ∙ ap (λ (xs : List ℕ). length xs == 0) none
behind_empty bytes test is other (inr some) = absurd (other some.0 some.1 some.2)
