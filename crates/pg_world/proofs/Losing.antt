-- A world stays one with the losses that come with an entry of one node.
use Rattle.pg_world.proofs
use proofs.Words.{Bool, cond, Entry, entry_played, false, History, is_accepted, IsNext, IsPlayed}
use proofs.Words.{IsWorld, just, List, lose, loss, next_step, past, refl, set-set, slice_get}
use proofs.Words.{slice_set, slow_links, Some, subst, true, Wire, with_entry, world, ℕ, [], ◌∷◌}
use proofs.Words.{◌≡◌}
use proofs.Puts.{get_same}
use proofs.Steady.{quiet}

module _ (hs : List History) (xs : List Wire) (i : ℕ) (h : History) (e : Entry)
    (here : slice_get hs i ≡ Some h) (sound : IsWorld (world (slice_set hs i (just h e)) xs)) where
  -- the history after these losses
  abbrev lost : List ℕ → History
  lost ls = past h.opening (lose ls (e ∷ h.entries))

  -- a loss opens no link, nothing comes with it and nothing is handed out
  all_lost : (ls : List ℕ) → IsPlayed (lost ls) → IsWorld (world (slice_set hs i (lost ls)) xs)
  all_lost [] legal = sound
  all_lost (l ∷ ls) legal =
      let before = all_lost ls legal.1 in
      let now = get_same hs i (lost ls) h here in
      subst (λ ks. IsWorld (world ks xs)) (set-set hs i (lost ls) (lost (l ∷ ls)))
      (quiet {w = world (slice_set hs i (lost ls)) xs} (record {
        sound = before;
        i = i;
        h = lost ls;
        e = loss l;
        here = now;
        step = legal.0;
        room = (before.nodes i (lost ls) now).room;
        written = tt;
        late = tt;
      }) (λ k. refl) (λ k. refl) (λ k. refl))

  pub losses_kept : IsNext h e → IsPlayed h → IsWorld (world (slice_set hs i (with_entry h e)) xs)
  losses_kept next legal = by (is_accepted e.verdict)
      (entry_played h e (next_step h e next, legal))
    where
      by : (b : Bool) → IsPlayed (cond b (lost (slow_links (just h e))) (just h e))
          → IsWorld (world (slice_set hs i (cond b (lost (slow_links (just h e))) (just h e))) xs)
      by true played = all_lost (slow_links (just h e)) played
      by false played = sound
