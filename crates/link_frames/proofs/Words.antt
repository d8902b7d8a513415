-- The words that the proofs of this crate cite, passed on from one place.
use Rattle.link_frames.specs
pub use Rattle.std.specs.Prelude.{All, length, List, [], ◌*◌, ◌∷◌, ◌≤◌}
pub use Rattle.std.proofs.Common.{ap, append-nil, append_assoc, arith, Bool, codes, cond, drop, Err}
pub use Rattle.std.proofs.Common.{false, filter, get_or, inl, inr, IsTrue, length-append, nat_le}
pub use Rattle.std.proofs.Common.{nat_lt, None, Ok, Option, refl, replicate, Result, rules, Some}
pub use Rattle.std.proofs.Common.{subst, suc, sym, take, true, zero, ℕ, ◌&&◌, ◌++◌, ◌+◌, ◌-◌, ◌<◌}
pub use Rattle.std.proofs.Common.{◌==◌, ◌^◌, ◌↔◌, ◌∙◌, ◌≡◌, ◌≢◌}
pub use Rattle.std.proofs.lemmas.Bool.{and_from, and_parts}
pub use Rattle.std.proofs.lemmas.Bool.Decides.{Decides-and, Decides-by_and, Decides-eqb}
pub use Rattle.std.proofs.lemmas.Grind.{flat_map-append}
pub use Rattle.std.proofs.lemmas.List.{append_cancel_left, drop_all, drop_at, flat_map_more}
pub use Rattle.std.proofs.lemmas.List.{length_push, nil_from_length, take-append-drop, take_all}
pub use Rattle.std.proofs.lemmas.List.{take_at, take_more}
pub use Rattle.std.proofs.lemmas.List.Elements.{All-append, All-cons, All-head, All-nil, All-push}
pub use Rattle.std.proofs.lemmas.List.Elements.{All-replicate, All-same, All-tail, filter-append}
pub use Rattle.std.proofs.lemmas.Nat.{from_be_bytes-to_be_bytes_2, from_be_bytes-to_be_bytes_4}
pub use Rattle.std.proofs.lemmas.Nat.{from_be_bytes-to_be_bytes_8}
pub use Rattle.std.specs.Int.{from_be_bytes, to_be_bytes, w16, w32, w64}
pub use Rattle.std.specs.List.{flat_map, list_all}
pub use Rattle.std.specs.Option.{IfSome, IsSomeAnd, ok_or, option_to_list}
pub use Rattle.dist_types.specs.Listing.{max_rows}
pub use Rattle.dist_types.specs.declared.row.Row.{Row}
pub use Rattle.handshake_frames.specs.Spelling.{counted}
pub use Rattle.handshake_frames.specs.Stream.{bodies_of, Call, FitsLength, IsPartial, Splits}
pub use Rattle.handshake_frames.specs.Stream.{stream_of}
pub use specs.Reading.{are_rows, behind_name, behind_text, counted_rows_in, is_message, is_row}
pub use specs.Reading.{messages_in, row_in, rows_in, text_in}
unfoldable pub use specs.Reading.{message}
pub use specs.Spelling.{AreRows, IsMessage, IsRow, message_bytes, row_bytes, rows_bytes}
pub use specs.Spelling.{SpellsMessage, text_bytes}
pub use specs.Stream.{AreFed, BeginsTooLong, ComesTooLong, is_body, IsFed, IsRest, max_body}
pub use specs.Stream.{SplitsLink, ticks}
pub use specs.declared.message.Message.{Message}
