-- The words that the proofs of this crate cite, passed on from one place.
use Rattle.group_monitors.specs
pub use Rattle.std.specs.Prelude.{is_some, take}
pub use Rattle.std.proofs.Common.{ap, append-nil, append_assoc, arith, Bool, cond, drop, false, inl}
pub use Rattle.std.proofs.Common.{inr, IsTrue, length, length-append, List, map, nat_eq, None}
pub use Rattle.std.proofs.Common.{Option, refl, reverse, rules, slice_get, Some, subst, suc, sym}
pub use Rattle.std.proofs.Common.{true, true≢false, ℕ, [], ◌&&◌, ◌++◌, ◌+◌, ◌-◌, ◌<◌, ◌==◌, ◌||◌}
pub use Rattle.std.proofs.Common.{◌∙◌, ◌∷◌, ◌≡◌, ◌≢◌, ◌≤◌, ◌⊎◌}
pub use Rattle.std.proofs.Math.Seq.{drop-append_seam, get_or-append_seam}
pub use Rattle.std.proofs.lemmas.Bool.{cases_lt, false_from_ne_true}
pub use Rattle.std.proofs.lemmas.Bool.Decides.{Decides-eqb, nat_tests}
pub use Rattle.std.proofs.lemmas.Grind.{flat_map-append}
pub use Rattle.std.proofs.lemmas.List.{drop-append-le, drop_all, get_or_append_left, length-reverse}
pub use Rattle.std.proofs.lemmas.List.{reverse-append}
pub use Rattle.std.proofs.lemmas.Map.Keys.{IsDistinct-cons, IsDistinct-head, IsDistinct-tail}
pub use Rattle.std.proofs.lemmas.Option.{none-some, same_Some, slice_get-get_or, slice_get_within}
pub use Rattle.std.specs.List.{AllByRecursion, filter, flat_map}
unfoldable pub use Rattle.std.specs.List.{IsDistinct}
pub use Rattle.std.specs.Map.{keys_of, lookup, remove_entry, set_value}
pub use Rattle.std.specs.Option.{IsSome, option_and_then, option_map, option_map_or}
pub use Rattle.dist_types.proofs.Listings.{all_append, one_of_many}
pub use Rattle.dist_types.proofs.Orders.{same_decides, same_pid_decides, texts_total}
pub use Rattle.dist_types.specs.Difference.{is_empty, IsDifference, times_joined, times_left}
pub use Rattle.dist_types.specs.Listing.{is_among, IsGroupListing, IsPidListing, mentions, same}
pub use Rattle.dist_types.specs.Listing.{total}
pub use Rattle.dist_types.specs.declared.change.GroupChange.{GroupChange}
pub use Rattle.dist_types.specs.declared.pid.Pid.{Pid}
pub use specs.Counts.{counted, times_in, Watches}
pub use specs.Fetches.{fetched, fetched_by, IsLastFetch, updates_in}
pub use specs.Follows.{concerns_monitors, FollowsPolicy}
pub use specs.Monitors.{at_place, HasSeen, IsFree, IsNumbered, monitor_of, target, updates_behind}
pub use specs.Monitors.{with_place, without, without_scope}
pub use specs.declared.monitor.Monitor.{Monitor}
pub use Rattle.indexmap.proofs.CallerLemmas.{filter-RetainsPairs, insert_entry-new}
pub use Rattle.policy_audit.specs.Contents.{contents, groups, members}
pub use Rattle.policy_audit.specs.History.{audit_of, audited, entered, History, is_accepted}
pub use Rattle.policy_audit.specs.History.{is_restart, just, Moment, past, present}
pub use Rattle.policy_audit.specs.Listed.{listed}
pub use Rattle.policy_audit.specs.Log.{changes_rows, entry_at, later_than}
pub use Rattle.policy_audit.specs.Monitors.{group_updates, is_fetch, is_watched, monitor}
pub use Rattle.policy_audit.specs.Monitors.{monitor_after, monitor_in, Target, updates, updates_of}
pub use Rattle.policy_audit.specs.Monitors.{updates_since, watched}
pub use Rattle.policy_audit.specs.Owed.{may_tell, with_entry}
pub use Rattle.policy_audit.specs.Policy.{answer, history, IsLegal, IsLegalIn, IsNext, IsStep}
pub use Rattle.policy_audit.specs.Policy.{next_number}
pub use Rattle.policy_audit.specs.declared.entry.Entry.{Entry}
pub use Rattle.policy_audit.specs.declared.event.Event.{Event}
pub use Rattle.policy_audit.specs.declared.opening.Opening.{Opening}
pub use Rattle.policy_audit.specs.declared.reply.Update.{Update}
