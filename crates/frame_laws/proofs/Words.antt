-- The words that the proofs of this crate speak in: those of std, of the crates below and of its
-- own specs, passed on from one place.
use Rattle.frame_laws.specs
use Rattle.policy_audit.specs as audit
use Rattle.policy_audit.proofs as audits
use Rattle.link_frames.specs as link
use Rattle.link_frames.proofs as links
use Rattle.handshake_frames.specs as hands
pub use Rattle.std.proofs.Common.{ap, arith, inl, inr, refl, subst, sym, ◌∙◌}
pub use Rattle.std.proofs.lemmas.Bool.{and_parts, eq-eqb, eqb-true, le-leb, leb-false, leb-true}
pub use Rattle.std.proofs.lemmas.List.{append-nil, append_assoc, drop-append-le, length-append}
pub use Rattle.std.proofs.lemmas.List.{length-drop, length-map, map-append, take-append-drop}
pub use Rattle.std.proofs.lemmas.List.{take-append-le, take-map, take_all as take_past}
pub use Rattle.std.proofs.lemmas.Grind.{flat_map-append}
pub use Rattle.std.proofs.Math.Seq.{drop-append-add, take-append-add, take-length}
pub use Rattle.std.specs.List.{AllByRecursion, filter, flat_map, list_all}
pub use Rattle.std.specs.Option.{option_and_then, option_map, option_map_or, option_to_list}
pub use Rattle.std.specs.Option.{unwrap_or}
pub use Rattle.std.specs.Prelude.{Bool, cond, drop, false, get_or, is_some, IsTrue, length, List}
pub use Rattle.std.specs.Prelude.{map, min, nat_le, nat_lt, None, not, Option, slice_get, Some, suc}
pub use Rattle.std.specs.Prelude.{take, true, zero, ℕ, [], ◌&&◌, ◌++◌, ◌+◌, ◌-◌, ◌<◌, ◌==◌, ◌^◌}
pub use Rattle.std.specs.Prelude.{◌||◌, ◌∷◌, ◌≡◌, ◌≤◌}
pub use Rattle.std.specs.declared.cmp.Ordering.TheVariants.{Less}
pub use Rattle.std.proofs.lemmas.List.Elements.{All-from_recursion, filter-append}
pub use Rattle.std.proofs.lemmas.List.Elements.{recursion_from_All}
pub use Rattle.std.proofs.lemmas.Option.{slice_get_within}
pub use Rattle.dist_types.specs.Difference.{is_empty}
pub use Rattle.dist_types.specs.Listing.{is_among, IsListing, IsRowListing, listing, max_rows}
pub use Rattle.dist_types.specs.Listing.{mentions, occurrences, Rises, same, same_pid, same_row}
pub use Rattle.dist_types.specs.Listing.{stands_in}
pub use Rattle.dist_types.specs.Order.{pid_cmp, text_cmp}
pub use Rattle.dist_types.specs.Text.{IsText}
pub use Rattle.dist_types.specs.declared.pid.Pid.{Pid}
pub use Rattle.dist_types.specs.declared.row.Row.{Row}
pub use Rattle.dist_types.proofs.Listings.{all_append, fewer_length, listing_counts}
pub use Rattle.dist_types.proofs.Orders.{exact_pids, pids_total, same_decides, same_pid_decides}
pub use Rattle.dist_types.proofs.Orders.{same_row_decides, same_sym}
pub use Rattle.dist_types.proofs.Totals.{how_many_append}
pub use link.Spelling.{IsRow, message_bytes}
pub use link.declared.message.Message.{Message}
pub use link.declared.part.Message2.{Message2}
pub use link.declared.part.Message2.TheVariants.{Part}
pub use link.declared.part.PartKind.{PartKind}
pub use link.Parts.{AreInOrder, AreWritten, before_last, Begun, begun_after, begun_by, comes_next}
pub use link.Parts.{completed, completed_by, HasParts, is_next, IsMessage2, KeepsOrNot, kind_byte}
pub use link.Parts.{message2_bytes, message_of, parts, parts_from, rows_before, rows_so_far, whole}
pub use link.PartReading.{message2 as read_message2}
pub use links.PartLemmas.{message2-spelled, SpellsMessage2-read}
pub use links.PartLaws.{parts_complete, parts_within}
pub use links.PartOrders.{begins_in_order, begun_by_more, completed_by_more, last_in_order}
pub use links.PartOrders.{parts_in_order}
pub use links.Words.{rules}
pub use audit.OutFrame.{OutFrame}
pub use audit.declared.opening.Opening.{Opening}
pub use audit.declared.event.Event.{Event}
pub use audit.declared.event.Event.TheVariants.{Frame}
pub use audit.declared.reply.Reply.{Reply}
pub use audit.declared.rule.Rule.{Rule}
pub use audit.declared.entry.Verdict.{Verdict}
pub use audit.declared.entry.Verdict.TheVariants.{Accepted, Refused}
pub use audit.declared.entry.Entry.{Entry}
pub use audit.History.{creation, entered, events, History, is_accepted, past}
pub use audit.Own.{is_local, is_running, joined, lives, own, running_scopes, spawned}
pub use audit.Sides.{and_frame, AwaitAck, AwaitAnswer, AwaitChallenge, Awaited, AwaitMessage}
pub use audit.Sides.{AwaitName, AwaitReply, awaits, AwaitStatus, ByDial, ByPeer, given, is_last}
pub use audit.Sides.{is_name_up, is_peer, is_visible, is_whole, Opened, opened, peer_of}
pub use audit.Sides.{present_link, Start, start_of, Taken, taken}
pub use audit.Links.{ends, is_dialling, is_open, is_opened_by, is_up}
pub use link.Reading.{message as read_message}
pub use audit.Hearing.{begun, frame_taken, heard, hears, kept_after, link_version, message_taken}
pub use audit.Hearing.{rows_of, Said, said_at, stated, stated_in, Talk, talk, talk_of, tells, told}
pub use audit.Contents.{groups, groups_named, local_rows, members, pids_named, row}
pub use audit.Checks.{always, first_broken, frame_checks, message_checks, own_limit, peer_limit}
pub use audit.Checks.{peer_rows, so_far}
pub use audit.Owed.{digest_for, discovers, drops, frame_owes, frames_to, if_told, if_visible}
pub use audit.Owed.{message_owes, narrow, owed, own_challenge, own_challenge_frame, own_name_frame}
pub use audit.Owed.{refusal_owes, said_frames, status_frame, true_to, waiting_in, welcome, wide}
pub use audit.Policy.{is_full, IsPlayed, IsPlayedIn, IsStep, judgement, verdict}
pub use audits.Accepted.{all_hold, lie, unbroken}
pub use audits.Walked.{but, Far, far, fresh, open_opened, unborn}
pub use audit.Effects.{is_about_rows}
pub use Rattle.dist_types.specs.Flags.{has_bit, own_flags}
pub use Rattle.handshake_frames.proofs.ReadingLemmas.{challenge_frame-spelled, name_frame-spelled}
pub use Rattle.handshake_frames.proofs.ReadingLemmas.{SpellsChallenge-read, version_read}
pub use hands.Frame.{Challenge, Name}
pub use hands.Reading.{challenge_frame, name_frame, reply_frame, status_of}
pub use hands.Spelling.{ack_bytes, challenge_bytes, IsVersion, name_bytes, reply_bytes}
pub use hands.Spelling.{version_bytes}
pub use hands.declared.frame.AckFrame.{AckFrame}
pub use hands.declared.frame.ReplyFrame.{ReplyFrame}
pub use hands.declared.frame.StatusWord.{StatusWord}
pub use links.ReadingLemmas.{message-spelled, SpellsMessage-read}
pub use audits.Effects.{entry_link}
pub use audits.FewRows.{few}
pub use audits.Words.{codes, list_all-append, play}
pub use audits.OldTold.{few_local, old_limit}
pub use audits.Begun.{kept_peers, none_begun}
pub use audits.Finished.{is_message, whole_awaits, whole_kept}
pub use audits.NewLinks.{opened_apart}
pub use audits.Foreign.{peer_foreign}
pub use audits.Heard.{has_sync, heard_runs}
pub use audits.HeardNow.{framed_heard, message_heard, opening_heard, proved_heard}
pub use audits.KeptLinks.{told_runs, unborn_waiting, unowed}
pub use audits.Lines.{a_up, calls, done, gives, Line, node, pid}
pub use audits.Lists.{count_in_group, filter_all, groups_are, members_are, rows_are}
pub use audits.Named.{group_named, listed_named, occurs_stands, pid_named}
pub use audits.OneDifference.{apart}
pub use audits.Onward.{ack_taken, message_taken_on, reply_taken, whole_is_message}
pub use audits.OwnRows.{foreign_own, local_rows_are, rows_in_group}
pub use audits.RowsAfter.{uncounted}
pub use audits.ScopesNow.{running_among, running_rises}
pub use audits.UpLinks.{agrees, done_now, none_taken}
pub use audit.Listed.{is_from, listed}
pub use specs.Sent.{bodies_of, came, delivered, frames_of, handed, out, out_in, owes, Owing, owing}
pub use specs.Sent.{sent, source_at}
pub use specs.Moments.{is_restarted_after, IsProvedLink, moment, moment_in, proved_at}
pub use specs.Says.{is_of, Means, rows_in, SaysOne, scope_in}
pub use specs.BegunAt.{IsBegun}
pub use specs.Spoken.{begun_of, frames_said, limit, Speaks}
pub use specs.Written.{IsNode, IsWritten}
pub use specs.ToldRows.{ends_rows, Falls, has_rows, says_rows, tells_rows, told_rows}
pub use specs.Views.{AreThere, IsFew, PassesThrough, seen, seen_by, so_far_behind, view_of}
pub use specs.Hellos.{hello_in, opening_of, own_hello}
pub use specs.Given.{IsAskedOnce, IsNamedFirst}
pub use specs.HeardMoment.{HearsMoment}
pub use specs.Honest.{HasGiven, HeardIsSaid, IsGiven, IsHonest}
pub use specs.Known.{known, message_at}
pub use specs.MaySay.{AreFrom, AreStated, HasRoom, MaySay, MaySaySoFar}
