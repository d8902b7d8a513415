use Rattle.node_threads.proofs
use Rattle.node_threads.specs
use Rattle.std.proofs.Common.{ap, arith, length, List, subst, sym, ◌∙◌}
use Rattle.std.proofs.lemmas.List.{get_or_default}
use Rattle.policy_audit.specs.declared.entry.Entry.{Entry}
use Rattle.policy_audit.specs.History.{audited}
use Rattle.policy_audit.specs.Policy.{next_number}
use specs.Calls.{entries_of}
use specs.Room.{IsSound, Room}
use specs.Applied.{room_after}
use proofs.Counted.{audited_after, entries_of_le, number_after, room_moved, sound_moved}
use Rattle.node_threads.proofs.shared.Shared.advance.Goals as goal

-- a count is at most that of all entries before, and those are fewer than 2^32
pub overflow_add-index_mut : goal.overflow_add-index_mut
overflow_add-index_mut c =
    let free = rw (← c.self.view_is) at c.requires.free in
    let entries = audited_after c.self.inside.core.history c.judge.new.core.history c.args.seat
    c.args.event free
    c.in_ok-verdict.ensures.entered in
    let within = rw (← c.self.view_is) at c.requires.seat in
    let here = get_or_default c.self.inside.counts.items c.args.seat 0 c.index_mut.result.now
    within in
    omega (
      arith,
      here,
      c.index_mut.ensures.value,
      c.self.invariant.counted.each c.args.seat within,
      entries_of_le c.args.seat (audited c.self.inside.core.history.entries),
      ap (λ (es : List Entry). length es) (c.audit.ensures.entries ∙ entries),
      c.audit.ensures.count,
      c.audit.ensures.few,
      c.audit.ensures.fits,
    )

pub returns-clause-number : goal.returns-clause-number
returns-clause-number c =
    let free = rw (← c.self.view_is) at c.requires.free in
    c.len-number.ensures ∙ c.audit.ensures.count
    ∙ number_after c.self.inside.core.history c.judge.new.core.history c.args.seat c.args.event free
    c.in_ok-verdict.ensures.entered
    ∙ ap (λ (r : Room). next_number r.history) c.self.view_is

pub invariant_of-self-2 : goal.invariant_of-self-2
invariant_of-self-2 c =
    let free = rw (← c.self.view_is) at c.requires.free in
    let within = rw (← c.self.view_is) at c.requires.seat in
    sound_moved c.self.inside.core.history c.judge.new.core.history c.self.inside.counts.items
    c.self.inside.core.forgotten c.judge.new.core.forgotten c.args.seat c.index_mut.result.now
    c.args.event free c.in_ok-verdict.ensures.entered within
    c.index_mut.ensures.value c.audit.ensures.legal c.self.invariant

pub returns-clause-room : goal.returns-clause-room
returns-clause-room c =
    let free = rw (← c.self.view_is) at c.requires.free in
    let within = rw (← c.self.view_is) at c.requires.seat in
    c.note_entry.ensures
    ∙ room_moved c.self.inside.core.history c.judge.new.core.history c.self.inside.counts.items
    c.self.inside.core.forgotten c.judge.new.core.forgotten c.args.seat c.index_mut.result.now
    c.args.event free c.in_ok-verdict.ensures.entered within c.index_mut.ensures.value
    c.judge.ensures.forgotten
    ∙ ap (λ (r : Room). room_after r c.args.seat c.args.event) c.self.view_is

pub returns-clause-left : goal.returns-clause-left
returns-clause-left c =
    let free = rw (← c.self.view_is) at c.requires.free in
    let within = rw (← c.self.view_is) at c.requires.seat in
    subst IsSound (sym c.note_entry.ensures)
    (sound_moved c.self.inside.core.history c.judge.new.core.history c.self.inside.counts.items
    c.self.inside.core.forgotten c.judge.new.core.forgotten c.args.seat c.index_mut.result.now
    c.args.event free c.in_ok-verdict.ensures.entered within
    c.index_mut.ensures.value c.audit.ensures.legal c.self.invariant)

pub returns-clause-few : goal.returns-clause-few
returns-clause-few c =
    let free = rw (← c.self.view_is) at c.requires.free in
    let entries = audited_after c.self.inside.core.history c.judge.new.core.history c.args.seat
    c.args.event free
    c.in_ok-verdict.ensures.entered in
    omega (
      arith,
      ap (λ (r : Room). entries_of c.args.seat (audited r.history.entries)) c.self.view_is,
      entries_of_le c.args.seat (audited c.self.inside.core.history.entries),
      ap (λ (es : List Entry). length es) (c.audit.ensures.entries ∙ entries),
      c.audit.ensures.count,
      c.audit.ensures.few,
      c.audit.ensures.fits,
    )
