-- The words that the proofs of this crate speak in, passed on from one place.
use Rattle.pg_world.specs
pub use Rattle.std.proofs.Common.{ap, arith, Bool, codes, cond, drop, Err, false, get_or, inl, inr}
pub use Rattle.std.proofs.Common.{IsTrue, length, List, nat_eq, None, not, Ok, Option, refl, Some}
pub use Rattle.std.proofs.Common.{subst, suc, sym, take, true, zero, ℕ, [], ◌&&◌, ◌++◌, ◌+◌, ◌<◌}
pub use Rattle.std.proofs.Common.{◌∙◌, ◌∷◌, ◌≡◌, ◌≢◌, ◌≤◌}
pub use Rattle.std.proofs.lemmas.Bool.{and_parts, eq-eqb, eqb-false, eqb-true, ltb-true}
pub use Rattle.std.proofs.lemmas.Bool.Decides.{Decides-eqb}
pub use Rattle.std.proofs.lemmas.List.{append-nil, append_assoc, drop-append-le, length-append}
pub use Rattle.std.proofs.lemmas.List.{length-drop, length-map, length-set, map-append, set-get_or}
pub use Rattle.std.proofs.lemmas.List.{set-set, take-append-le, take_at}
pub use Rattle.std.proofs.lemmas.Option.{get_or_from_slice_get, slice_get-get_or, slice_get-map}
pub use Rattle.std.proofs.lemmas.Option.{slice_get_past, slice_get_read, slice_get_within}
pub use Rattle.std.proofs.lemmas.Result.{err_from_is_err_and}
pub use Rattle.std.proofs.lemmas.Slice.Eq.{slice_eq-Decides}
pub use Rattle.std.specs.Bool.{Decides}
pub use Rattle.std.specs.Cmp.Lexicographic.{pointwise}
pub use Rattle.std.specs.List.{AllByRecursion}
pub use Rattle.std.specs.Option.{option_map, option_map_or}
pub use Rattle.std.specs.Prelude.{bytes_eq, is_some, nat_lt, slice_get, slice_set, ◌==◌}
pub use Rattle.std.specs.declared.result.Result.{Result}
pub use Rattle.dist_types.proofs.LimitLemmas.{names_compute, texts_compute}
pub use Rattle.dist_types.proofs.Orders.{same_decides}
pub use Rattle.dist_types.specs.Listing.{same}
pub use Rattle.dist_types.specs.Text.{IsNodeName, IsText}
pub use Rattle.dist_types.specs.declared.pid.Pid.{Pid}
pub use Rattle.frame_laws.proofs.Accepting.{is_up_there}
pub use Rattle.frame_laws.proofs.Bodies.{honest_first, stands_first, stands_last}
pub use Rattle.frame_laws.proofs.Giving.{asked_once, named_first}
pub use Rattle.frame_laws.proofs.Greetings.{asked_own, named_own}
pub use Rattle.frame_laws.proofs.Handing.{all_handed, open_rest}
pub use Rattle.frame_laws.proofs.Hearing.{given_here, keeps_or_not}
pub use Rattle.frame_laws.proofs.HonestNode.{frame_of, node_honest}
pub use Rattle.frame_laws.proofs.Numbers.{entered_more, entered_next, unopened}
pub use Rattle.frame_laws.proofs.OneView.{heard_moment, listed_now}
pub use Rattle.frame_laws.proofs.Openings.{opened_number, opening_is, opening_low, unborn_out}
pub use Rattle.frame_laws.specs.HeardMoment.{HearsMoment}
pub use Rattle.frame_laws.specs.Hellos.{hello_in, opening_of, own_hello}
pub use Rattle.frame_laws.specs.Honest.{HasGiven, IsGiven, IsHonest}
pub use Rattle.frame_laws.specs.Moments.{moment}
pub use Rattle.frame_laws.specs.Sent.{bodies_of, came, delivered, frames_of, handed, out, Owing}
pub use Rattle.frame_laws.specs.Sent.{sent}
pub use Rattle.frame_laws.specs.Spoken.{begun_of, frames_said, Speaks}
pub use Rattle.frame_laws.specs.Written.{IsNode, IsWritten}
pub use Rattle.frame_laws.proofs.BegunPlaces.{IsCut, out_cut}
pub use Rattle.frame_laws.proofs.Calm.{said_apart}
pub use Rattle.frame_laws.specs.BegunAt.{IsBegun}
pub use Rattle.link_frames.specs.Parts.{Begun, KeepsOrNot, parts}
pub use Rattle.link_frames.specs.declared.message.Message.{Message}
pub use Rattle.std.proofs.Math.Seq.{take-append-add, take-length}
pub use Rattle.policy_audit.proofs.Accepted.{accepted, lie, no_value}
pub use Rattle.policy_audit.proofs.Walked.{but}
pub use Rattle.handshake_frames.specs.Frame.{Name}
pub use Rattle.node_core.specs.declared.fault.CoreFault.{CoreFault}
pub use Rattle.policy_audit.proofs.ChangeLemmas.{next_is}
pub use Rattle.policy_audit.proofs.Losses.{entry_played, next_step}
pub use Rattle.policy_audit.proofs.UpLinks.{agrees}
pub use Rattle.policy_audit.specs.Checks.{Check, checks, first_broken, frame_checks}
pub use Rattle.policy_audit.specs.Hearing.{begun, heard, link_version}
pub use Rattle.policy_audit.specs.History.{creation, entered, History, is_accepted, just, lose}
pub use Rattle.policy_audit.specs.History.{loss, past}
pub use Rattle.policy_audit.specs.Links.{ends, is_open, is_opened_by, is_up}
pub use Rattle.policy_audit.specs.Listed.{listed}
pub use Rattle.policy_audit.specs.OutFrame.{OutFrame}
pub use Rattle.policy_audit.specs.Owed.{is_kept, slow_links, waiting, with_entry}
pub use Rattle.policy_audit.specs.Own.{is_local}
pub use Rattle.policy_audit.specs.Policy.{after, answer, entry_of, is_full, IsNext, IsNumbered}
pub use Rattle.policy_audit.specs.Policy.{IsPlayed, IsPlayedIn, IsStep, judged, next_number}
pub use Rattle.policy_audit.specs.Policy.{verdict}
pub use Rattle.policy_audit.specs.Sides.{Awaited, AwaitName, awaits, ByDial, ByPeer, given}
pub use Rattle.policy_audit.specs.Sides.{is_whole, is_whole_in, Opened, opened, peer_of}
pub use Rattle.policy_audit.specs.Sides.{present_link, Start, start_of, taken}
pub use Rattle.policy_audit.specs.declared.entry.Entry.{Entry}
pub use Rattle.policy_audit.specs.declared.entry.Verdict.{Verdict}
pub use Rattle.policy_audit.specs.declared.entry.Verdict.TheVariants.{Accepted, Refused}
pub use Rattle.policy_audit.specs.declared.event.Event.{Event}
pub use Rattle.policy_audit.specs.declared.opening.Opening.{Opening}
pub use Rattle.policy_audit.specs.declared.reply.Reply.{Reply}
pub use Rattle.policy_audit.specs.declared.rule.Rule.{Rule}
pub use Rattle.handshake_frames.specs.Reading.{challenge_frame, name_frame}
pub use Rattle.node_core.specs.Step.{IsStepped}
pub use borrow.Author.Count.{below_more}
pub use specs.Exchange.{Comes, exchange, fresh, IsBehind, IsExchanged, join_again, two_nodes}
pub use specs.Queues.{Answers, count_handed, cut_by, frames_in, is_gone, joined_by, leaves, left_by}
pub use specs.Queues.{link_opened, oldest, plain}
pub use specs.Refusals.{keeps_wires}
pub use specs.Sound.{bodies, came_of, Carries, FramesAreLate, gets_of, handed_of, HasEnd, IsEnd}
pub use specs.Sound.{IsLate, IsWired, IsWorld, IsWrittenStep, shared, SpeaksShared}
pub use specs.Starting.{AreNew, IsNew}
pub use specs.Steps.{answer_of, Asks, asks, asks_frame, asks_opened, at_end, changed, changed_queue}
pub use specs.Steps.{end_at, is_wrong, IsWorldStep, link_end, new_wire, opener, opener_at}
pub use specs.Steps.{queue_at, Refuses, Turn, turn_of, Turns, wire_end, wire_opener, wires_after}
pub use specs.Views.{AreEnds, hears_node, ListMoments, ListNow}
pub use specs.World.{dialled, DifferInName, HaveNodes, histories, link_at, node_at, Nodes, other}
pub use specs.World.{ShareAName, under_way, Wire, with_link, with_queue, world}
pub use Rattle.node_core.specs.Recorded.{Recorded}
pub use specs.declared.fault.WorldFault.{WorldFault}
pub use specs.declared.side.End.{End}
pub use specs.declared.side.Side.{Side}
pub use specs.declared.world_step.WorldReply.{WorldReply}
pub use specs.declared.world_step.WorldStep.{WorldStep}
