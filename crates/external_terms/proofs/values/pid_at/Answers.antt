use Rattle.external_terms.proofs
use proofs.Words.{ap, sym, to_be_bytes, w32, ◌++◌, ◌∙◌, ◌∷◌}
use Rattle.external_terms.specs.Values.{atom_bytes}
use proofs.ValueLemmas.{after_id, after_node, after_serial, process_parts}
use Rattle.external_terms.proofs.values.pid_at.Goals as goal

pub returns-in_err-id-clause-only : goal.returns-in_err-id-clause-only
returns-in_err-id-clause-only c = λ p rest fits bytes.
    let kind = c.in_ok-rest.ensures.only (atom_bytes p.node ++ after_node p rest) (bytes
    ∙ process_parts p rest) in
    let node = c.in_ok-node.ensures.only p.node (after_node p rest) kind in
    absurd (c.in_err-id.ensures.only p.id (after_id p rest) fits.id node.1)

pub returns-in_err-serial-clause-only : goal.returns-in_err-serial-clause-only
returns-in_err-serial-clause-only c = λ p rest fits bytes.
    let kind = c.in_ok-rest.ensures.only (atom_bytes p.node ++ after_node p rest) (bytes
    ∙ process_parts p rest) in
    let node = c.in_ok-node.ensures.only p.node (after_node p rest) kind in
    let id = c.in_ok-id.ensures.only p.id (after_id p rest) fits.id node.1 in
    absurd (c.in_err-serial.ensures.only p.serial (after_serial p rest) fits.serial id.1)

pub returns-in_err-creation-clause-only : goal.returns-in_err-creation-clause-only
returns-in_err-creation-clause-only c = λ p rest fits bytes.
    let kind = c.in_ok-rest.ensures.only (atom_bytes p.node ++ after_node p rest) (bytes
    ∙ process_parts p rest) in
    let node = c.in_ok-node.ensures.only p.node (after_node p rest) kind in
    let id = c.in_ok-id.ensures.only p.id (after_id p rest) fits.id node.1 in
    let serial = c.in_ok-serial.ensures.only p.serial (after_serial p rest) fits.serial id.1 in
    absurd (c.in_err-creation.ensures.only p.creation rest fits.creation serial.1)

pub returns-clause-found : goal.returns-clause-found
returns-clause-found c = c.in_ok-rest.ensures.found
    ∙ ap (λ l. 88 ∷ l) (c.in_ok-node.ensures.found
    ∙ ap (λ l. atom_bytes c.in_ok-node.node.now ++ l) (c.in_ok-id.ensures.found
    ∙ ap (λ l. to_be_bytes w32 c.in_ok-id.id ++ l) (c.in_ok-serial.ensures.found
    ∙ ap (λ l. to_be_bytes w32 c.in_ok-serial.serial ++ l) c.in_ok-creation.ensures.found)))
    ∙ sym (process_parts (record {
      node = c.in_ok-node.node.now;
      id = c.in_ok-id.id;
      serial =
          c.in_ok-serial.serial;
      creation = c.in_ok-creation.creation;
    }) c.in_ok-creation.rest.now)

pub returns-clause-only : goal.returns-clause-only
returns-clause-only c = λ p rest fits bytes.
    let kind = c.in_ok-rest.ensures.only (atom_bytes p.node ++ after_node p rest) (bytes
    ∙ process_parts p rest) in
    let node = c.in_ok-node.ensures.only p.node (after_node p rest) kind in
    let id = c.in_ok-id.ensures.only p.id (after_id p rest) fits.id node.1 in
    let serial = c.in_ok-serial.ensures.only p.serial (after_serial p rest) fits.serial id.1 in
    let creation = c.in_ok-creation.ensures.only p.creation rest fits.creation serial.1 in (
      λ i. record { node = node.0 i; id = id.0 i; serial = serial.0 i; creation = creation.0 i },
      creation.1,
    )
