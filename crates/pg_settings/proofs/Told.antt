-- What a pass has said.
use Rattle.pg_settings.specs
use Rattle.std.proofs.Common.{ap, List, Ok, refl, true, [], ◌++◌, ◌∙◌, ◌∷◌, ◌≡◌}
use Rattle.std.specs.List.{All}
use Rattle.std.proofs.lemmas.List.{map-append}
use Rattle.std.proofs.lemmas.List.Elements.{All-append, All-cons, All-nil}
use Rattle.policy_audit.specs.declared.event.Event.{Event}
use Rattle.policy_audit.specs.declared.reply.Reply.{Reply}
use Rattle.policy_audit.specs.History.{is_accepted}
use Rattle.node_threads.specs.declared.pass.Call.{Call}
use Rattle.node_threads.specs.Applied.{Called}
use Rattle.node_threads.specs.Calls.{Record}
use Rattle.node_threads.proofs.Answered.{accepted, gains_more, gains_none}
use specs.Settings.{AreSaid}

abbrev is_yes : Call → Type 0
is_yes c = is_accepted c.verdict ≡ true

pub said_none : (p : Record) → AreSaid [] p p
said_none p = record {
  calls = [];
  gains = gains_none p p refl;
  events = refl;
  accepted = All-nil is_yes;
}

-- and one more, which was accepted
pub said_one : (p mid p' : Record) (told : List Event) (reply : Reply) (e : Event)
    → AreSaid told p mid → Called mid e (Ok reply) p' → AreSaid (told ++ e ∷ []) p p'
said_one p mid p' told reply e said called =
    let more = accepted mid p' e reply called in
    let one : All is_yes (more.0 ∷ []) = All-cons is_yes more.0 [] (ap (λ v. is_accepted v) more.2)
    (All-nil is_yes) in
    record {
      calls = said.calls ++ more.0 ∷ [];
      gains = gains_more p mid p' said.calls (more.0 ∷ []) said.gains more.3;
      events =
          map-append (λ (c : Call). c.event) said.calls (more.0 ∷ [])
          ∙ ap (λ es. es ++ more.0.event ∷ []) said.events ∙ ap (λ x. told ++ x ∷ []) more.1;
      accepted = All-append is_yes said.calls (more.0 ∷ []) said.accepted one;
    }
