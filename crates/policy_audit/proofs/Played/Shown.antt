-- What can be seen of links and scopes behind some of the scripts.
use Rattle.policy_audit.proofs
use proofs.Words.{ack_frame, AwaitMessage, block_words, Bool, challenge_frame, compress}
use proofs.Words.{contents, digest_bytes, digits, false, hash_after, History}
use proofs.Words.{List, lives, md5, name_frame, play, read_message}
use proofs.Words.{read_message2, refl, reply_frame, rounds, show, Shown, Some, status_of}
use proofs.Words.{true, ℕ, ◌∷◌, ◌≡◌, []}
use proofs.Lines.{a_h, a_pid, calls, g, Line, node, pg}
use proofs.Played.Links.{replaced_link}
use proofs.Played.Rows.{discover_and_sync, hidden_link, joins_need_a_sync}

abbrev after_it : List Line → History
after_it script = play node (calls script)

-- a link to a@h whose side is whole and for which no frames wait: up or ended, visible or not, and
-- the scopes told and heard
abbrev whole_link : Bool → Bool → List (List ℕ) → Shown
whole_link lives visible scopes = record {
  is_open = lives;
  is_up = lives;
  is_kept = lives;
  is_visible = visible;
  peer = Some a_h;
  awaits = AwaitMessage;
  told = scopes;
  heard = scopes;
  waiting = [];
}

abbrev of_link : List Line → ℕ → Shown
of_link script l = show (after_it script) l

-- of two links of a@h the newer is up, and nobody is heard on it; the older ended with its waiting
-- frames; behind a Sync and a Discover the peer is heard and told; a link to a hidden node is up,
-- and not visible; and a process is listed twice that its node stated twice
shown : (of_link replaced_link 16 ≡ whole_link true true [])
    × (of_link replaced_link 1 ≡ whole_link false true [])
    × (of_link discover_and_sync 1 ≡ whole_link true true (pg ∷ []))
    × (of_link hidden_link 1 ≡ whole_link true false [])
    × (contents (after_it joins_need_a_sync) pg
    ≡ record { group = g; pids = a_pid 1 ∷ a_pid 1 ∷ [] } ∷ [])
unfolding md5 digest_bytes hash_after compress rounds block_words digits name_frame challenge_frame
    reply_frame ack_frame status_of read_message read_message2
shown = (refl, refl, refl, refl, refl)
