-- Passes that let no call go, of a node that has handed out no entry.
use Rattle.node_threads.specs
use Rattle.std.proofs.Common.{ap, append-nil, arith, length, List, map, refl}
use Rattle.std.proofs.Common.{reverse, sym, ℕ, [], ◌∙◌, ◌∷◌, ◌≡◌}
use Rattle.std.specs.List.{filter}
use Rattle.std.proofs.lemmas.List.{length-map, length-reverse, map-append, reverse-append}
use Rattle.std.proofs.lemmas.List.{reverse-reverse}
use Rattle.std.proofs.lemmas.List.Elements.{filter-append}
use Rattle.policy_audit.specs.declared.entry.Entry.{Entry}
use Rattle.policy_audit.specs.History.{audited}
use specs.declared.pass.Call.{Call}
use specs.Calls.{call_of, calls_of, entries_of, of, Record}
use specs.Room.{Room}
use specs.Closing.{Agree, HasAll, IsOwn, IsWhole}

agree_self : (xs : List Call) → Agree xs xs
agree_self [] = tt
agree_self (x ∷ xs) = (refl, agree_self xs)

agree_same : (xs ys : List Call) → length xs ≡ length ys → Agree xs ys → xs ≡ ys
agree_same [] [] q agree = refl
agree_same [] (y ∷ ys) q agree = absurd (omega (arith, q))
agree_same (x ∷ xs) [] q agree = absurd (omega (arith, q))
agree_same (x ∷ xs) (y ∷ ys) q agree =
    let rest = agree_same xs ys (omega (arith, q)) agree.1 in
    ap (λ (z : Call). z ∷ xs) agree.0 ∙ ap (λ (zs : List Call). y ∷ zs) rest

-- the calls of a seat are those of its entries, in the other order
turned : (seat : ℕ) (es : List Entry) →
    calls_of seat es ≡ reverse (map call_of (filter (of seat) es))
turned seat [] = refl
turned seat (e ∷ es) =
    rw (
      reverse-append (e ∷ []) es,
      filter-append (of seat) (reverse es) (e ∷ []),
      map-append call_of (filter (of seat) (reverse es)) (filter (of seat) (e ∷ [])),
      turned seat es,
    )
    (grind (
      arith,
      reverse-append (call_of e ∷ []) (map call_of (filter (of seat) es)),
      append-nil (reverse (map call_of (filter (of seat) es))),
    ))

module _ (room : Room) (p : Record) (whole : IsWhole room p) where
  abbrev es : List Entry
  es = audited room.history.entries

  abbrev made : List Call
  made = map call_of (filter (of p.seat) es)

  made_all : calls_of p.seat es ≡ reverse made
  made_all = turned p.seat es

  count : length made ≡ entries_of p.seat es
  count = length-map (filter (of p.seat) es) call_of

  pub own_has_all : IsOwn room p → HasAll room p
  own_has_all own =
      let agree : Agree (reverse p.calls) made =
      rw (whole.0, whole.1, reverse-reverse es) at own.last in
      let long : length (reverse p.calls) ≡ length made =
      length-reverse p.calls ∙ own.fits.calls ∙ sym count in
      let same = agree_same (reverse p.calls) made long agree in
      (own.fits.seat, sym (reverse-reverse p.calls) ∙ ap reverse same ∙ sym made_all)

  pub all_is_own : HasAll room p → IsOwn room p
  all_is_own all =
      let back : reverse p.calls ≡ made =
      ap reverse (all.1 ∙ made_all) ∙ reverse-reverse made in
      record {
        fits = record {
          seat = all.0;
          calls = sym (length-reverse p.calls) ∙ ap length back ∙ count;
        };
        last = rw (whole.0, whole.1, reverse-reverse es, back) (agree_self made);
      }
