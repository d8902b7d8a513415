-- One worked history, computed by the checker: two peers' frames cross on one link, and each word
-- has the value that it should.
use Rattle.frame_laws.proofs
use proofs.Words.{a_up, bodies_of, ByPeer, calls, codes, delivered, done, Event, gives, History}
use proofs.Words.{known, length, Line, List, map, moment, node, None, opening_of, Option, out, own}
use proofs.Words.{Pid, pid, play, proved_at, refl, Reply, sent, Some, take, told, told_rows, true}
use proofs.Words.{view_of, ℕ, [], ◌++◌, ◌∷◌, ◌≡◌}
use Rattle.policy_audit.proofs.Words.{ack_frame, block_words, challenge_frame, compress}
use Rattle.policy_audit.proofs.Words.{digest_bytes, digits, hash_after, md5, name_frame}
use Rattle.policy_audit.proofs.Words.{read_message, read_message2, reply_frame, rounds, status_of}
use Rattle.policy_audit.proofs.Lines.{sent as came}

-- the own process
abbrev one : Pid
one = pid (codes "b@h") 4 1

-- a process of the peer
abbrev theirs : Pid
theirs = pid (codes "a@h") 5 1

-- Scope pg starts, and a@h links. It asks for the rows, and while the answer waits a process joins
-- twice and leaves once. Then a@h says
-- its own rows, and adds one.
abbrev script : List Line
script =
    done (Event.StartScope (codes "pg"))
    ∷ gives Event.Spawn (Reply.Pid one)
    ∷ a_up 3
    ++ done (came 3 (codes "44027067"))
    ∷ done (Event.Join (codes "pg") (codes "g") (one ∷ one ∷ []))
    ∷ done (Event.Leave (codes "pg") (codes "g") (one ∷ []))
    ∷ done (came 3 (codes "5302706700000000"))
    ∷ done (came 3 (codes "4a0270670000000101670003614068000000050000000000000001"))
    ∷ []

abbrev after_it : History
after_it = play node (calls script)

abbrev view_at : ℕ → Option ℕ
view_at place = view_of 1 (codes "pg") (codes "g") one (bodies_of (take place (out after_it 3)))

abbrev own_at : ℕ → ℕ
own_at k = own (moment k after_it) (codes "pg") (codes "g") one

record HasValues : Type 0 where
  -- link 3 was opened by its peer, and proved by entry 6
  opened : opening_of 3 after_it.entries ≡ Some (ByPeer 123)
  proved : proved_at 3 after_it.entries ≡ Some 6
  -- the status and the Challenge have one source, then come Ack and Discover, Sync and Discover,
  -- Join and Leave
  sources : map (λ x. x.source) (out after_it 3) ≡ 4 ∷ 4 ∷ 6 ∷ 6 ∷ 8 ∷ 8 ∷ 9 ∷ 10 ∷ []
  -- the first four were handed out, two at a time
  handed_out : length (sent 3 after_it.entries) ≡ 4
  -- the peer is told, and sees each moment of the own rows: none, two, one
  told_now : told after_it.opening 3 (codes "pg") after_it.entries ≡ true
  views : view_at 4 ∷ view_at 5 ∷ view_at 7 ∷ view_at 8 ∷ [] ≡ None ∷ Some 0 ∷ Some 2 ∷ Some 1 ∷ []
  moments : own_at 8 ∷ own_at 9 ∷ own_at 10 ∷ [] ≡ 0 ∷ 2 ∷ 1 ∷ []
  -- of the five frames that came, the Sync and the Join are of the present hearing, and what is
  -- known is what they say
  heard_so : told_rows after_it.opening 3 (codes "pg") after_it.entries ≡ 4 ∷ 3 ∷ []
  known_so : known after_it.opening 3 (codes "pg") (codes "g") theirs after_it.entries ≡ Some 1
  said_so : view_of 1 (codes "pg") (codes "g") theirs (delivered 3 after_it.entries) ≡ Some 1

values : HasValues
unfolding md5 digest_bytes hash_after compress rounds block_words digits name_frame challenge_frame
    reply_frame ack_frame status_of read_message read_message2
values = record {
  opened = refl;
  proved = refl;
  sources = refl;
  handed_out = refl;
  told_now = refl;
  views = refl;
  moments = refl;
  heard_so = refl;
  known_so = refl;
  said_so = refl;
}
