-- The words that the proofs of this crate speak in: those of std, of the crates below and of its
-- own specs, passed on from one place.
use Rattle.node_core.specs
use Rattle.policy_audit.proofs as policy
use Rattle.policy_audit.specs as policy_specs
use Rattle.std.proofs as std_proofs
use Rattle.std.specs as std_specs
use Rattle.dist_types.specs as dist_types
use Rattle.scope_core.specs as scope_core
use Rattle.link_states.specs as link_states
use Rattle.link_frames.specs as link_frames
pub use std_proofs.Common.{All, ap, append_assoc, arith, Bool, cond, drop, Err, false, find, get_or}
pub use std_proofs.Common.{IfNone, IfSome, if◌then◌else◌, inl, inr, is_some, IsSome, length, List}
pub use std_proofs.Common.{map, min, nat_eq, nat_le, nat_lt, None, not, Ok, OnErr, OnOk, Option}
pub use std_proofs.Common.{position, refl, reverse, rules, set, Some, subst, suc, sym, take, tests}
pub use std_proofs.Common.{true, vec_len, zero, ℕ, [], ◌&&◌, ◌++◌, ◌+◌, ◌-◌, ◌<◌, ◌==◌, ◌^◌, ◌||◌}
pub use std_proofs.Common.{◌∙◌, ◌∷◌, ◌≡◌, ◌≤◌, ◌⊎◌}
pub use std_specs.List.{AllByRecursion, AllZip, filter, flat_map, insert, list_all, list_any}
pub use std_specs.Option.{option_and_then, option_map, option_map_or, option_to_list, unwrap_or}
pub use std_specs.declared.cmp.Ordering.TheVariants.{Less}
pub use std_specs.declared.result.Result.{Result}
pub use std_proofs.Math.Bool.{and-true}
pub use std_proofs.lemmas.Bool.{and_parts, eq-eqb, eqb-true, le-leb, le-ltb, leb-false, leb-true}
pub use std_proofs.lemmas.Bool.{lt-leb, lt-ltb, ltb-false, ltb-true, not-true}
pub use std_proofs.lemmas.Fn.{filter_same}
pub use std_proofs.lemmas.Iterator.{YieldsList-from_slice}
pub use std_proofs.lemmas.Iterator.Search.{all_from_yields_List}
pub use std_proofs.lemmas.List.{append-nil, get_or-set_same, get_or_default, length-map, length-set}
pub use std_proofs.lemmas.List.{map-append, map-id, set-get_or, set-set, take_all, take_more}
pub use std_proofs.lemmas.List.Quantifiers.{position-Some}
pub use std_specs.declared.cmp.Ordering.{Ordering}
pub use std_specs.Str.{bytes_eq}
pub use std_specs.Vec.Iter.{into_iter_items}
pub use std_specs.Ordering.{is_gt}
pub use std_specs.Prelude.{vec_capacity}
pub use Rattle.dist_types.proofs.Orders.{exact_pids, pids_total, rows_total, same_decides}
pub use Rattle.dist_types.proofs.Orders.{same_pid_decides, same_row_decides, same_sym, texts_total}
pub use dist_types.Difference.{is_empty, IsDifference, IsProper, times_left}
pub use dist_types.Flags.{has_bit, own_flags}
pub use dist_types.Listing.{Ascends, how_many, is_among, IsGroupListing, IsListing, IsPidListing}
pub use dist_types.Listing.{IsRowListing, listing, max_rows, mentions, occurrences, placed, Rises}
pub use dist_types.Listing.{same, same_pid, same_row, spread, stands_in, total}
pub use dist_types.Order.{pid_cmp, row_cmp, text_cmp}
pub use dist_types.declared.change.GroupChange.{GroupChange}
pub use dist_types.declared.pid.Pid.{Pid}
pub use dist_types.declared.row.Row.{Row}
pub use dist_types.Text.{is_node_name}
pub use Rattle.dist_types.proofs.Listings.{same_length}
pub use Rattle.handshake_frames.specs.Frame.{Challenge, Name}
pub use Rattle.handshake_frames.specs.Reading.{ack_frame, challenge_frame, name_frame, reply_frame}
pub use Rattle.handshake_frames.specs.Reading.{status_of}
pub use Rattle.handshake_frames.specs.declared.frame.ReplyFrame.{ReplyFrame}
pub use Rattle.handshake_frames.specs.declared.frame.StatusWord.{StatusWord}
pub use Rattle.admission_rules.specs.Admission.{AdmissionRules, cookie_of, max_peers, with_allowed}
pub use Rattle.admission_rules.specs.Admission.{with_cookie_for}
pub use Rattle.indexmap.specs.IndexMap.{insert_entry}
pub use link_states.Peer.{found, introduced, is_visible}
pub use link_states.Pending.{is_dialled}
pub use link_states.States.{Dialled, Introduced, Linked, linked}
pub use link_states.declared.pending.Pending.{Pending}
pub use link_states.declared.state_rule.StateRule.{StateRule}
pub use link_states.declared.await_name.Named.{Named}
pub use link_states.Frames.{ack_owed, refusal_frames, reply_owed, status_owed}
pub use link_frames.declared.message.Message.{Message}
pub use scope_core.Calls.{are_counted, count_after_add, count_after_drop, count_after_exit}
pub use scope_core.Calls.{count_after_join, count_after_leave, count_after_sync, count_after_take}
pub use scope_core.Calls.{is_any_joined, IsJoinFault, IsLeaveFault, no_count}
pub use scope_core.Table.{count_of, is_of_node, local_count, local_total, node_total, Table}
pub use policy.Accepted.{accepted, all_hold, lie, no_value, unbroken}
pub use policy.ChangeLemmas.{next_is, no_change, stopped_lists}
pub use policy.KeptNumbers.{all_left, all_reverse, Climbs, dialling_kept, filter_append, kept_among}
pub use policy.KeptNumbers.{kept_climbs, kept_count, kept_once, kept_opening, name_up_kept, one_up}
pub use policy.KeptNumbers.{opening_waiting, some_of}
pub use policy.ScopeFrames.{dialled_waiting, exited_links, joined_links, left_links, opened_waiting}
pub use policy.ScopeFrames.{started_links, stopped_links, told_numbers}
pub use policy.ScopesNow.{running_among, running_rises, running_started, running_stopped}
pub use policy.UpLinks.{agrees, and_both, and_false, flip, number_of}
pub use policy_specs.Admission.{allow_list, allowed, cookie, cookie_peers, different}
pub use policy_specs.Changes.{if_some, IsChange}
pub use policy_specs.Checks.{always, answer_checks, challenge_checks, Check, checks, dial_checks}
pub use policy_specs.Checks.{digest_checks, first_broken, frame_checks, is_old_told, is_peer_up}
pub use policy_specs.Checks.{is_simultaneous, kept_links, message_checks, name_checks, own_limit}
pub use policy_specs.Checks.{peer_limit, peer_rows, so_far, status_checks}
pub use policy_specs.Contents.{contents, groups, groups_named, local_groups, local_members}
pub use policy_specs.Contents.{local_rows, members, pids_named, row}
pub use link_frames.Reading.{message as read_message}
pub use policy_specs.Owed.{asks, digest_for, discovers, frame_owes, frames_to, if_told, if_visible}
pub use policy_specs.Owed.{is_kept, is_slow, max_waiting, may_tell, message_owes, narrow, owed}
pub use policy_specs.Owed.{own_challenge, own_challenge_frame, refusal_owes, said_frames}
pub use policy_specs.Owed.{slow_links, status_frame, true_to, waiting, welcome, wide, with_entry}
pub use policy_specs.Hearing.{begun, frame_taken, heard, hears, kept_after, link_version}
pub use policy_specs.Hearing.{message_taken, rows_kept, rows_of, said_at, talk, tells, told}
pub use link_frames.Parts.{Begun, begun_after, completed, is_next, rows_before, rows_so_far, whole}
pub use policy_specs.History.{audit_of, audited, creation, entered, events, first_of, History}
pub use policy_specs.History.{is_accepted, is_entered, is_restart, just, lose, loss, past}
pub use policy_specs.Links.{ends, is_dial_to, is_dialling, is_open, is_unfinished_dial, is_up}
pub use policy_specs.Links.{links, named_by}
pub use policy_specs.Listed.{is_from, listed}
pub use policy_specs.OutFrame.{OutFrame}
pub use policy_specs.Own.{is_local, is_running, is_spawn, lives, living, own, running_scopes}
pub use policy_specs.Own.{spawned}
pub use policy_specs.Policy.{after, answer, entry_of, history, is_full, IsLegal, IsLegalIn, IsNext}
pub use policy_specs.Policy.{IsNumbered, IsPlayed, IsPlayedIn, IsStep, judged, judgement}
pub use policy_specs.Policy.{next_number, up_answer, verdict}
pub use specs.Alone.{IsAlone}
pub use policy_specs.Sides.{AwaitAnswer, AwaitChallenge, Awaited, AwaitMessage, AwaitReply, awaits}
pub use policy_specs.Sides.{AwaitStatus, ByDial, ByPeer, challenge_in, given, is_last, is_name_up}
pub use policy_specs.Sides.{is_peer, is_whole, opened, peer_of, present_link, Start, start_of}
pub use policy_specs.Sides.{taken}
pub use policy_specs.declared.change.Change.{Change}
pub use policy_specs.declared.entry.Entry.{Entry}
pub use policy_specs.declared.entry.Verdict.{Verdict}
pub use policy_specs.declared.entry.Verdict.TheVariants.{Accepted, Refused}
pub use policy_specs.declared.event.Event.{Event}
pub use policy_specs.declared.reply.Reply.{Reply}
pub use policy_specs.declared.rule.Rule.{Rule}
pub use policy.HeardNow.{IsHeardNow}
pub use policy.Onward.{IsOnward}
pub use policy_specs.Effects.{is_quiet, IsSameLink}
pub use policy_specs.declared.opening.Opening.{Opening}
pub use policy.OneDifference.{apart}
pub use policy.ScopeChanges.{changes_are}
pub use policy.Lists.{count_in_group}
pub use policy.Effects.{entry_link, entry_rows}
pub use policy.LinksLeft.{framed_numbers}
pub use policy.LivesNow.{lives_of, own_pid}
pub use policy.Named.{occurs_stands}
pub use Rattle.group_monitors.proofs.Followed.{follows_cleared, follows_dropped, follows_free}
pub use Rattle.group_monitors.proofs.Followed.{follows_group, follows_moved, follows_other}
pub use Rattle.group_monitors.proofs.Followed.{follows_removed, follows_scope, follows_start}
pub use Rattle.group_monitors.specs.Monitors.{IsFree, with_place}
pub use specs.AdmissionFacts.{admission_words, AdmissionFollows, AreOnce, IsCookieRefusal}
pub use specs.Calm.{IsCalmFault, refuses_calmly}
pub use specs.Core.{Follows, IsSound, Keeps, Parts, parts}
unfoldable pub use specs.Step.{Answers}
pub use specs.Step.{Call, IsCalled, Says}
pub use specs.declared.entering.Answered.{Answered}
pub use specs.declared.kept.Kept.{Kept}
pub use specs.Exiting.{all_frames, AreExits, ArePrepared, bare, exit_frames, IsOwnScope}
pub use specs.Gone.{AreCut, AreLost, without_ended}
pub use specs.Handshakes.{HaveComeUp, HaveEnded, HaveGoneOn, HaveMoved, IsReady, moved_on, older_of}
pub use specs.Handshakes.{without_link}
pub use specs.Hearing.{accepted_as, beside, heard_named, Hears, is_handshake, rule_of, state_checks}
pub use specs.LinkFacts.{Awaits, facts, IsDialled, IsGiven, IsIntroduced, IsLinkOf, IsPeer, IsState}
pub use specs.LinkFacts.{kept_numbers, link_words, LinkFacts, LinksFollow, LinkWords}
pub use specs.Links.{are_of_peer, begun_with, broken_off, committed, dial_beside, dial_to}
pub use specs.Links.{dialled_link, dialled_peer, in_state, is_any_in, is_ended, is_shown, KeptLink}
pub use specs.Links.{known_peer, link_place, narrow_frames, prepared_for, row_limit, StatelessLink}
pub use specs.Links.{takes, takes_parts, unroomed, up_peer, with_frames, with_prepared, with_room}
pub use specs.Links.{without_number}
pub use policy.Begun.{none_begun, others as unmoved_begun}
pub use specs.Moving.{fault_of, IsJoinRefusal, IsLeaveRefusal, IsMovedBy, IsOwnChange, join_of}
pub use specs.Moving.{leave_of, own_checks, own_most}
pub use specs.Parting.{ArePartings, count_but, HasParted, IsCutOff, IsParting, rows_left, without}
pub use specs.ProcessFacts.{process_words, ProcessesFollow}
pub use specs.Processes.{Spawned}
pub use specs.ScopeFacts.{is_number, IsRunningOf, scope_place, scope_words, ScopesFollow}
pub use specs.ScopeFacts.{ScopeWords, with_number}
pub use specs.Telling.{Alike, AreIdle, AreTold, CanBeSaid, if_among, is_said, IsBrief, IsSpelled}
pub use specs.Telling.{MayBeSaid, put_scope, said_in, said_to, shown_numbers, told_limit}
pub use specs.Telling.{wide_frames}
pub use policy.OldTold.{few_local}
pub use specs.MessageRules.{AnswersDiscover, can_be_told, count_after, count_with, early_checks}
pub use specs.MessageRules.{HasBecome, heard_after, heard_with, IsChangeIn, IsRowFault, sync_frames}
pub use specs.MessageRules.{table_refusal}
pub use link_frames.declared.part.Message2.{Message2}
pub use link_frames.declared.part.PartKind.{PartKind}
pub use specs.declared.fault.CoreFault.{CoreFault}
pub use specs.declared.hearing.Heard.{Heard}
pub use specs.declared.link_state.LinkState.{LinkState}
pub use specs.declared.running.Running.{Running}
pub use specs.Reading.{frame_awaited}
pub use specs.Messages.{says_in, scope_in}
