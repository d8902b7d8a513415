use Rattle.group_monitors.proofs
use proofs.Words.{ap, contents, counted, fetched, history, inl, inr, listed, members, None, past}
use proofs.Words.{refl, Some, Target, updates, ◌++◌, ◌∙◌}
use proofs.Differences.{contents_count}
use proofs.FetchedAll.{counts, first_told, its, Laws, no_losses, of_group, of_scope, then, whole}
use Rattle.policy_audit.specs.declared.event.Event.TheVariants as event
use Rattle.policy_audit.specs.declared.reply.Reply.TheVariants as reply
use Rattle.group_monitors.proofs.laws.fetches_tell_the_listing.Goals as goal

-- the laws of the policy that are called
laws : goal.After-slow_links_end → Laws
laws c =
    let slow = c.slow_links_end.ensures in
    record {
      alone = λ o es legal e next quiet s g p.
          ap (λ k. listed k s g p) (no_losses slow.silent (history o es) (slow.made o es legal) e
          (slow.step (history o es) e next) quiet)
          ∙ c.left_alone.ensures.listings (history o es) e quiet s g p;
      audit = λ o es legal i. past (slow.opening o es i) (slow.audited o es legal i);
      sized = slow.entered;
    }

pub returns-clause-parts : goal.returns-clause-parts
returns-clause-parts c = λ o es legal seat k t. whole (laws c) seat k t o es legal

pub returns-clause-group : goal.returns-clause-group
returns-clause-group c = λ o es legal seat k s g at.
    let t : Target = record { scope = s; group = Some g } in
    let m = its (laws c) seat k t o es legal at in
    let first = then (laws c) seat k t o es legal at in (
      members first s g,
      first_told (laws c) seat k t o es legal at (event.Monitor s g)
          (λ n. reply.Ref n (members first s g)) (of_group s g m.own.event m.watches) refl,
      λ p. ap (counted g p (fetched seat k es ++ updates (past o es) seat k))
          ((c.lists_ascend.ensures.members first s g).counts p)
          ∙ counts (laws c) seat k t o es legal at g (inl refl) p,
    )

pub returns-clause-scope : goal.returns-clause-scope
returns-clause-scope c = λ o es legal seat k s at.
    let t : Target = record { scope = s; group = None } in
    let m = its (laws c) seat k t o es legal at in
    let first = then (laws c) seat k t o es legal at in (
      contents first s,
      first_told (laws c) seat k t o es legal at (event.MonitorScope s)
          (λ n. reply.ScopeRef n (contents first s)) (of_scope s m.own.event m.watches) refl,
      λ g p. ap (counted g p (fetched seat k es ++ updates (past o es) seat k))
          (contents_count first s g p (c.lists_ascend.ensures.members first s g)
          (c.lists_ascend.ensures.groups first s))
          ∙ counts (laws c) seat k t o es legal at g (inr refl) p,
    )
