-- The words that the proofs of this crate speak in: those of std, of the crates below and of its
-- own specs, passed on from one place.
use Rattle.policy_audit.specs
pub use Rattle.std.proofs.Common.{ap, arith, refl, subst, sym, ◌∙◌}
pub use Rattle.std.proofs.Math.ListN.{get_or-eq_default}
pub use Rattle.std.proofs.lemmas.Bool.{and_from, and_parts, eq-eqb, eqb-false, eqb-true, le-leb}
pub use Rattle.std.proofs.lemmas.Bool.{leb-true, lt-ltb, ltb-true, not-false, not-true, or_parts}
pub use Rattle.std.proofs.lemmas.Cmp.{tied_itself}
pub use Rattle.std.proofs.lemmas.Grind.{flat_map-append}
pub use Rattle.std.proofs.lemmas.List.{append-nil, length-append, length-reverse, reverse-append}
pub use Rattle.std.proofs.lemmas.List.Elements.{filter-append}
pub use Rattle.std.proofs.lemmas.List.Folds.{list_all-append, list_any-append}
pub use Rattle.std.proofs.lemmas.Map.Lookups.{exact_bytes}
pub use Rattle.std.proofs.lemmas.Slice.Eq.{bytes_eq-Decides}
pub use Rattle.std.specs.Bool.{beq}
pub use Rattle.std.specs.Cmp.{booleans_Decides}
pub use Rattle.std.specs.Cmp.Lexicographic.{pointwise}
unfoldable pub use Rattle.std.specs.Fmt.{digits}
pub use Rattle.std.specs.List.{AllByRecursion, filter, flat_map, list_all, list_any}
pub use Rattle.std.specs.Option.{option_and_then, option_map_or, unwrap_or}
pub use Rattle.std.specs.Ordering.{is_gt, ordering_reverse, ordering_then}
pub use Rattle.std.specs.Prelude.{Bool, bytes_eq, codes, cond, false, get_or, is_some, IsTrue}
pub use Rattle.std.specs.Prelude.{length, List, map, MatchBool, min, nat_eq, nat_le, nat_lt, None}
pub use Rattle.std.specs.Prelude.{not, Option, reverse, Some, suc, true, zero, ℕ, [], ◌&&◌, ◌*◌}
pub use Rattle.std.specs.Prelude.{◌++◌, ◌+◌, ◌-◌, ◌<◌, ◌==◌, ◌||◌, ◌↔◌, ◌∷◌, ◌≡◌, ◌≤◌}
pub use Rattle.std.specs.declared.cmp.Ordering.{Ordering}
pub use Rattle.std.specs.declared.cmp.Ordering.TheVariants.{Equal, Greater, Less}
unfoldable pub use Rattle.md5.specs.Md5.{block_words, compress, digest_bytes, hash_after, md5}
unfoldable pub use Rattle.md5.specs.Md5.{rounds}
pub use Rattle.dist_types.proofs.Listings.{all_append, ascending_rises, ascending_stands}
pub use Rattle.dist_types.proofs.Listings.{fewer_length, listing_counts, one_listing, one_of_many}
pub use Rattle.dist_types.proofs.Listings.{same_ascending, same_length, same_rising}
pub use Rattle.dist_types.proofs.Orders.{exact_pids, exact_rows, in_one_group, pids_total}
pub use Rattle.dist_types.proofs.Orders.{rows_total, same_decides, same_pid_decides}
pub use Rattle.dist_types.proofs.Orders.{same_row_decides, same_sym, texts_total}
pub use Rattle.dist_types.proofs.Totals.{how_many_append}
pub use Rattle.dist_types.specs.Difference.{change_unless_empty, is_empty, IsDifference, IsProper}
pub use Rattle.dist_types.specs.Flags.{has_bit}
pub use Rattle.dist_types.specs.Listing.{ascending, Ascends, how_many, is_among, IsGroupListing}
pub use Rattle.dist_types.specs.Listing.{IsListing, IsPidListing, IsRowListing, listing, max_rows}
pub use Rattle.dist_types.specs.Listing.{mentions, occurrences, placed, Rises, same, same_pid}
pub use Rattle.dist_types.specs.Listing.{same_row, stands_in, total}
pub use Rattle.dist_types.specs.Order.{pid_cmp, row_cmp, text_cmp}
pub use Rattle.dist_types.specs.declared.change.GroupChange.{GroupChange}
pub use Rattle.dist_types.specs.declared.pid.Pid.{Pid}
pub use Rattle.dist_types.specs.declared.row.Row.{Row}
pub use Rattle.handshake_frames.specs.Frame.{Challenge, Name}
unfoldable pub use Rattle.handshake_frames.specs.Reading.{ack_frame, challenge_frame, name_frame}
unfoldable pub use Rattle.handshake_frames.specs.Reading.{reply_frame, status_of}
pub use Rattle.handshake_frames.specs.declared.frame.AckFrame.{AckFrame}
pub use Rattle.handshake_frames.specs.declared.frame.ReplyFrame.{ReplyFrame}
pub use Rattle.handshake_frames.specs.declared.frame.StatusWord.{StatusWord}
pub use Rattle.cookie_digest.specs.Digest.{digest_of}
unfoldable pub use Rattle.link_frames.specs.Reading.{message as read_message}
unfoldable pub use Rattle.link_frames.specs.PartReading.{message2 as read_message2}
pub use Rattle.link_frames.specs.declared.part.Message2.{Message2}
pub use Rattle.link_frames.specs.declared.part.PartKind.{PartKind}
pub use Rattle.link_frames.specs.Parts.{Begun, begun_after, completed}
pub use Rattle.link_frames.specs.Parts.{rows_before, rows_so_far, whole}
pub use Rattle.link_frames.specs.declared.message.Message.{Message}
pub use specs.Admission.{allowed, cookie, different}
pub use specs.Admitted.{goes_on, IsAdmitted, IsLetIn, IsReached, IsTrueStatus, LetIn, Reached}
pub use specs.Changes.{change, events_of, groups_in, if_some, IsChange, scope_change}
pub use specs.Checks.{always, answer_checks, challenge_checks, Check, checks, dial_checks}
pub use specs.Checks.{digest_checks, first_broken, frame_checks, is_old_told}
pub use specs.Checks.{is_peer_up, join_checks, kept_links, leave_checks, message_checks}
pub use specs.Checks.{name_checks, own_limit, runs, so_far, status_checks, whole_checks}
pub use specs.Contents.{contents, groups_named, local_groups, local_members, local_rows, pids_named}
pub use specs.Contents.{row, rows_in_part, rows_named}
pub use specs.Effects.{concerns, is_about_rows, is_replaced, IsAsOpen, IsSameLink, IsUntouched}
pub use specs.Effects.{leaves_rows, may_change, may_change_with}
pub use specs.Hearing.{begun, frame_taken, heard, hears, kept_after}
pub use specs.Hearing.{link_version, message_taken, rows_kept, rows_of, Said, said_at, stated_in}
pub use specs.Hearing.{Stopped, Talk, talk, talk_of, tells, told}
pub use specs.History.{audit_of, audited, creation, entered, events, first_of, History, is_accepted}
pub use specs.History.{is_entered, is_restart, just, lose, loss, Moment, past, present}
pub use specs.Links.{ends, frame_ends, gives_up, is_dial_to, is_dialling, is_open, is_opened_by}
pub use specs.Links.{is_unfinished_dial, is_up, links, named_by, share_peer}
pub use specs.Listed.{is_from, listed, listed_by}
pub use specs.Monitors.{monitor, Target, updates, updates_since}
pub use specs.OutFrame.{OutFrame}
pub use specs.Owed.{asks, digest_for, discovers, drops, frame_owes, if_told, if_visible, is_kept}
pub use specs.Owed.{is_slow, max_waiting, may_tell, message_owes, owed, own_challenge}
pub use specs.Owed.{own_name_frame, refusal_owes, slow_links, waiting, waiting_in, welcome, wide}
pub use specs.Owed.{with_entry}
pub use specs.Own.{is_exit, is_exit_of, is_local, is_running, joined, lives, own, running_scopes}
pub use specs.Own.{scopes_started, spawned, starts}
pub use specs.Policy.{after, answer, bare_entry, entry_of, history, is_full, IsLegal, IsLegalIn}
pub use specs.Policy.{IsNext, IsNumbered, IsPlayed, IsPlayedIn, IsStep, judged, judgement}
pub use specs.Policy.{next_number, up_answer, verdict}
pub use specs.Scripts.{Call, play, show, Shown, verdicts}
pub use specs.Sides.{and_frame, AwaitAck, AwaitAnswer, AwaitChallenge, Awaited, awaited_in}
pub use specs.Sides.{AwaitMessage, AwaitName, AwaitReply, awaits, AwaitStatus, ByDial, ByPeer}
pub use specs.Sides.{challenge_in, frame_of, given, given_in, is_last, is_name_up, is_peer}
pub use specs.Sides.{is_visible, is_whole, is_whole_in, Opened, opened, peer_in, peer_of}
pub use specs.Sides.{present_link, Start, start_of, started_where, Taken, taken, was_up, whole_side}
pub use specs.Stages.{ends_at, is_up_at, name_up, name_up_at, Stage, stages, was_up_after}
pub use specs.declared.change.Change.{Change}
pub use specs.declared.entry.Entry.{Entry}
pub use specs.declared.entry.Verdict.{Verdict}
pub use specs.declared.entry.Verdict.TheVariants.{Accepted, Refused}
pub use specs.declared.event.Event.{Event}
pub use specs.declared.opening.Opening.{Opening}
pub use specs.declared.reply.GroupPids.{GroupPids}
pub use specs.declared.reply.Reply.{Reply}
pub use specs.declared.reply.Update.{Update}
pub use specs.declared.rule.Rule.{Rule}
