-- The words that the proofs of this crate cite, passed on from one place.
use Rattle.std.proofs.lemmas
use Rattle.std.specs as std
use Rattle.dist_types.proofs as sorts
use Rattle.dist_types.specs as types
use Rattle.scope_core.specs
pub use std.Prelude.{All, Bool, cond, drop, Err, false, IfErr, IfOk, IfSome, IsOk, length, List}
pub use std.Prelude.{map, min, nat_le, nat_lt, None, not, Ok, OnErr, OnOk, Option, replicate}
pub use std.Prelude.{Result, slice_get, slice_set, Some, suc, take, true, Vec, vec_len, zero, []}
pub use std.Prelude.{ℕ, ◌&&◌, ◌++◌, ◌+◌, ◌-◌, ◌<◌, ◌==◌, ◌||◌, ◌∷◌, ◌≡◌, ◌≢◌, ◌≤◌}
pub use Rattle.std.proofs.Common.{add-one, ap, append_assoc, arith, Bor, get_or, inl, inr}
pub use Rattle.std.proofs.Common.{length-append, refl, rules, subst, sym, true≢false, ◌∙◌}
pub use Rattle.std.proofs.Math.ListN.{set}
pub use lemmas.Bool.{and_parts, cases_lt, eqb-false, eqb-true, le-leb, lt-leb, lt-ltb, ltb-true}
pub use lemmas.Bool.{not-false, not-true, or_cases, or_left, or_right}
pub use lemmas.Bool.Decides.{Decides-eqb, same_from_decides}
pub use lemmas.Cmp.{eq_by_cmp_equiv, nat_cmp_total, on_total, then_total, tied_itself}
pub use lemmas.Fn.{always_returns_same}
pub use lemmas.Grind.{common_steps}
pub use lemmas.List.{append-nil, drop_all, drop_more, get_or_default, length-map, length-take-le}
pub use lemmas.List.{length_push, map-append, replicate_more, take-append-drop, take-append-le}
pub use lemmas.List.{take-map, take_all, take_more}
pub use lemmas.List.Elements.{All-map, filter-append, recursion_from_All}
pub use lemmas.List.Sorted.{IsPartitionPoint-from_clause, IsPermutation-trans}
pub use lemmas.List.Sorted.{list_any-IsPermutation, ranks_by, searchable_from_sorted, sorted_far}
pub use lemmas.List.Sorted.{sum_by-IsPermutation}
pub use lemmas.List.Sums.{length-filter, sum_by-insert, sum_by-remove}
pub use lemmas.Map.{keys-set_value, lookup-none, lookup-remove_entry, none_passes_from_lookup}
pub use lemmas.Map.{NonePasses}
pub use lemmas.Map.Keys.{IsDistinct-head, IsDistinct-tail}
pub use lemmas.Map.Lookups.{CmpEqualImpliesEq, exact_bytes, exact_pairs, exact_unsigned}
pub use lemmas.Map.Made.{lookup_key_same}
pub use lemmas.Result.{IfErr-weaker, IfOk-weaker, on_err_weaker, on_ok_weaker}
pub use std.BTreeMap.{BTreeMap, get, IsFromIterResult}
pub use std.Bool.{Decides}
pub use std.Cmp.{IsEquivalence, IsTotalOrder}
pub use std.List.{AllByRecursion, AllWithin, filter, flat_map, HoldsAt, insert, IsDistinct}
pub use std.List.{list_all, list_any, remove}
pub use std.List.Sorted.{IsBinarySearchResult, IsPartitionedBy, IsPartitionPoint, IsPermutation}
pub use std.List.Sorted.{IsSortedBy, IsSortedByKey}
pub use std.Map.{keys_of, lookup, lookup_key, remove_entry, set_value}
pub use std.Option.{IfNone, is_some, option_copied, option_map, option_to_list, unwrap_or}
pub use std.Ordering.{eq_by_cmp, is_eq, is_gt, is_lt, ordering_reverse}
pub use std.Set.{is_member}
pub use std.declared.cmp.Ordering.{Ordering}
pub use std.declared.cmp.Ordering.TheVariants.{Equal, Greater, Less}
pub use Rattle.indexmap.proofs.CallerLemmas.{insert_entry-new, updates-with_value_at}
pub use Rattle.indexmap.specs.IndexMap.{IndexMap, insert_entry, set_value_at, Updates}
pub use Rattle.indexmap.specs.IndexMap.{with_value_at}
pub use sorts.Differences.{one_difference}
pub use sorts.Listings.{all_append, fewer_length, length-spread, one_of_many, same_length}
pub use sorts.Listings.{spread_ascends, spread_counts}
pub use sorts.Orders.{exact_pids, exact_rows, in_one_group, pids_total, rows_total, same_decides}
pub use sorts.Orders.{same_pid_decides, same_row_decides, same_sym, texts_total}
pub use sorts.Sorts.{all_from, sorted_listing}
pub use sorts.Totals.{how_many_append, how_many_is, how_many_le, how_many_replicate, total_filter}
pub use types.Difference.{change_unless_empty, is_empty, IsDifference, IsProper, times_joined}
pub use types.Difference.{times_left}
pub use types.Listing.{Ascends, how_many, is_among, IsGroupListing, IsListing, IsPidListing}
pub use types.Listing.{IsRowListing, mentions, occurrences, Rises, same, same_pid, same_row, spread}
pub use types.Listing.{total}
pub use types.Order.{pid_cmp, row_cmp, text_cmp}
pub use types.declared.change.GroupChange.{GroupChange}
pub use types.declared.pid.Pid.{Pid}
pub use types.declared.row.Row.{Row}
pub use specs.Added.{Adds, are_all_in, bare_rows, HasRoomFor, Joins, row_in, rows_joined, rows_left}
pub use specs.Added.{without_node}
pub use specs.Beyond.{picked, times_beyond}
pub use specs.Calls.{count_after_add, count_after_sync, Counts, is_any_joined, IsAddFault}
pub use specs.Calls.{IsSyncFault, no_count}
pub use specs.Copies.{is_held, is_keyed, keyed, keyed_maps, process_keys}
pub use specs.GroupNodes.{AreInOrder, IsNameGap, named_groups, node_names, nodes_of, times_named}
pub use specs.HashedRows.{counted_in, entries_in, group_rows, has_row, IsHashed, key_cmp, key_of}
pub use specs.HashedRows.{Names}
pub use specs.HashedRows.{NodeCounts, NodeTable, pid_of, row_at, rows_at, same_node_row, stands}
pub use specs.HashedRows.{with_process, Writes}
pub use specs.Indexed.{Covers, has_groups, has_members, is_named, is_there}
pub use specs.Kept.{AreListings, Forgets, kept_of, KeptLists}
pub use specs.Listed.{changes_left_by, differs, heads, is_in, IsEmptied, last_of, pids_in, Tells}
pub use specs.LoweredRows.{IsLowered, once_more, raised}
pub use specs.NodeLists.{all_rows, AreNodeLists, IsNodeList, of_node, rows_by_node}
pub use specs.SmallMap.{entries_of, find, find_in, found}
pub use specs.Table.{AreCounted, count_of, counted_cmp, is_of_node, is_row, IsKept, local_count}
pub use specs.Table.{local_total, max_rows, node_total, Table, tally}
pub use specs.declared.counted.Counted.{Counted}
pub use specs.declared.fault.TableFault.{TableFault}
pub use specs.declared.fault.TableFault.TheVariants.{NotJoined, NotListed, OutOfMemory, RowsFull}
pub use specs.declared.node_row.NodeRow.{NodeRow}
pub use specs.declared.process_key.ProcessKey.{ProcessKey}
pub use specs.declared.small_map.SmallMap.{SmallMap}
pub use specs.declared.small_map.SmallMap.TheVariants.{Few, Many, One}
