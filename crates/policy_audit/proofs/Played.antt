-- The verdicts on each script are those that it wants, computed from the policy.
mod Handshakes
mod Links
mod Rows
mod Parts
mod Shown
use Rattle.policy_audit.proofs
use proofs.Words.{ack_frame, block_words, Bool, challenge_frame, codes, compress, creation}
use proofs.Words.{digest_bytes, digits, false, hash_after, History, List, map, md5, name_frame}
use proofs.Words.{read_message, read_message2, refl, reply_frame, rounds, status_of, true, verdicts}
use proofs.Words.{[], ◌++◌, ◌∷◌, ◌≡◌, ℕ}
use proofs.Lines.{begun, calls, judged, Line, new_node, node}
use proofs.Played.Links.{creation_spent, entry_limit}
use proofs.Played.Parts.{new_peer}
use proofs.Played.Rows.{hidden_node}

abbrev b : Bool → ℕ → ℕ → History
b hidden creation entries = begun (codes "b@h") (codes "password") hidden creation entries

abbrev played_by : History → List (List Line) → Type 0
played_by h scripts = map (λ script. verdicts h (calls script)) scripts ≡ map judged scripts

played : played_by node (Handshakes.scripts ++ Links.scripts ++ Rows.scripts ++ new_peer ∷ [])
    × played_by new_node Parts.scripts
    × played_by (b false 4 2) (entry_limit ∷ [])
    × played_by (b false 4294967295 1000000) (creation_spent ∷ [])
    × played_by (b true 4 1000000) (hidden_node ∷ [])
unfolding md5 digest_bytes hash_after compress rounds block_words digits name_frame challenge_frame
    reply_frame ack_frame status_of read_message read_message2
played = (refl, refl, refl, refl, refl)
