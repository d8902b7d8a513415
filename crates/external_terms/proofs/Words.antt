-- The words that the proofs of this crate cite, passed on from one place.
use Rattle.external_terms.specs
pub use Rattle.std.specs.Prelude.{All, length, List, [], ◌*◌, ◌∷◌, ◌≤◌}
pub use Rattle.std.proofs.Common.{ap, append-nil, append_assoc, arith, Bool, cond, drop, Err, false}
pub use Rattle.std.proofs.Common.{find, get_or, IfErr, IfNone, IfOk, IfSome, inl, inr, IsTrue}
pub use Rattle.std.proofs.Common.{length-append, None, Ok, Option, refl, replicate, Result, rules}
pub use Rattle.std.proofs.Common.{Some, subst, suc, sym, take, true, zero, ℕ, ◌++◌, ◌+◌, ◌-◌, ◌<◌}
pub use Rattle.std.proofs.Common.{◌==◌, ◌^◌, ◌↔◌, ◌∙◌, ◌≡◌, ◌≢◌}
pub use Rattle.std.proofs.lemmas.List.{append_cancel_left, drop_at, length-replicate}
pub use Rattle.std.proofs.lemmas.List.{nil_from_length, take_at}
pub use Rattle.std.proofs.lemmas.Nat.{be_bytes_2, be_bytes_4, from_be_bytes-to_be_bytes_2}
pub use Rattle.std.proofs.lemmas.Nat.{from_be_bytes-to_be_bytes_4}
pub use Rattle.std.specs.Int.{from_be_bytes, to_be_bytes, w16, w32}
pub use specs.Fault.{IsCut, IsTermFault, NeverBegins}
pub use specs.Tags.{form, IsAtomTag, number_bytes, number_len, number_limit, tag_byte}
pub use specs.Terms.{AreTerms, bytes_of, count_of, HasForm, IsAtom, IsBehind, IsCounted, IsHead}
pub use specs.Terms.{IsLong, IsMark, IsNode, IsNumber, IsSomeHead, IsTag, next, none, SpellsTerm}
pub use specs.Terms.{SpellsTerms, Terms}
pub use specs.declared.tag.Tag.{Tag}
pub use specs.declared.form.Form.{Form}
pub use specs.declared.form.Width.{Width}
