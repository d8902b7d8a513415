-- A watch is forgotten.
use Rattle.otp_edge.proofs
use Rattle.otp_edge.specs
use proofs.Words.{length, List, subst, sym, ℕ, ◌<◌, ◌∷◌, ◌≡◌}
use Rattle.std.specs.Prelude.{get_or}
use Rattle.std.specs.List.{swap_remove}
use Rattle.std.specs.List.Sorted.{IsPermutation}
use Rattle.std.proofs.lemmas.List.Sorted.{IsPermutation-swap_remove}
use specs.Watches.{one, Unwatches}
use specs.declared.open_scope.Watcher.{Watcher}

pub unwatched_one : (reference : List ℕ) (all seen after : List Watcher) (place : ℕ)
    (gone : Watcher) → seen ≡ all → place < length seen
    → ((d : Watcher) → (get_or seen place d).reference.items ≡ reference)
    → gone ≡ get_or all place gone → after ≡ swap_remove all place gone
    → Unwatches reference all after
unwatched_one reference all seen after place gone same within is was others =
    let there = subst (λ l. place < length l) same within in
    let by = subst (λ (l : List Watcher). (get_or l place gone).reference.items ≡ reference) same
    (is gone) in
    one gone (subst (λ (x : Watcher). x.reference.items ≡ reference) (sym was) by)
    (subst (λ l. IsPermutation all (gone ∷ l)) (sym others)
    (IsPermutation-swap_remove all place gone there was))
