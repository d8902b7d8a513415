-- What is known of a frame and its link, where it is handed to what hears it.
use Rattle.std.specs.Prelude.{◌≡◌, ℕ, true, false, None, Some}
use Rattle.link_frames.specs.declared.part.Message2.{Message2}
use Rattle.policy_audit.specs.Checks.{first_broken}
use Rattle.policy_audit.specs.Links.{is_open, is_up}
use Rattle.policy_audit.specs.Sides.{awaits, is_last, is_whole}
use Rattle.node_core.specs.declared.kept.Kept.{Kept}
use Rattle.node_core.specs.Links.{link_place}
use Rattle.node_core.specs.ScopeFacts.{scope_place}
use Rattle.node_core.specs.Messages.{scope_in}
use Rattle.node_core.specs.MessageRules.{early_checks}
use Rattle.node_core.specs.Step.{Call, IsCalled}

-- the link of this number is kept at this place
pub record IsLinkHere (call : Call) (kept : Kept) (place number : ℕ) : Type 0 where
  pub called : IsCalled call kept
  pub here : link_place number kept.links.items ≡ Some place

-- it awaits a frame of the handshake that isn't the last
pub record AwaitsEarly (call : Call) (kept : Kept) (place number : ℕ) : Type 0 where
  pub link : IsLinkHere call kept place number
  pub opens : is_open number call.past.entries ≡ true
  pub unwhole : is_whole number call.past.entries ≡ false
  pub early : is_last (awaits number call.past.entries) ≡ false

-- it awaits the last frame of the handshake
pub record AwaitsLast (call : Call) (kept : Kept) (place number : ℕ) : Type 0 where
  pub link : IsLinkHere call kept place number
  pub opens : is_open number call.past.entries ≡ true
  pub last : is_last (awaits number call.past.entries) ≡ true

-- it is up
pub record IsUpLink (call : Call) (kept : Kept) (place number : ℕ) : Type 0 where
  pub link : IsLinkHere call kept place number
  pub up : is_up number call.past.entries ≡ true

-- the message, for the scope that is kept at this place, breaks no rule but those that the table
-- tells
pub record IsSoundMessage (call : Call) (kept : Kept) (place at number : ℕ)
    (message : Message2) : Type 0 where
  pub on : IsUpLink call kept place number
  pub there : scope_place (scope_in message) kept.scopes.items ≡ Some at
  pub holds : first_broken (early_checks call.past number message) ≡ None
