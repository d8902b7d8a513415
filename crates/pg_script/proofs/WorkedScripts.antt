-- Scripts whose text the checker computes from the definitions alone, MD5 included.
use Rattle.std.proofs.Common.{codes, false, List, refl, ℕ, [], ◌++◌, ◌≡◌}
use Rattle.std.specs.Fmt.{digits}
use Rattle.md5.specs.Md5.{block_words, compress, digest_bytes, hash_after, md5, rounds}
use Rattle.hex.proofs.OnLiterals.{hex_on_literals}
use Rattle.handshake_frames.specs.Reading.{ack_frame, challenge_frame, name_frame, reply_frame}
use Rattle.handshake_frames.specs.Reading.{status_of}
use Rattle.link_frames.specs.Reading.{message as read_message}
use Rattle.policy_audit.specs.declared.opening.Opening.{Opening}
use Rattle.pg_script.specs.Transcript.{text}

-- the node of these scripts
abbrev node : Opening
node = record {
  name = codes "b@h";
  cookie = codes "password";
  hidden = false;
  creation = 4;
  entries = 1000000;
  links = 1;
}

-- the stored run
pub acceptor_handshake : text [] node
    (codes
    "opened 123\nframe 1 4e0000000001000001000000050003614068\ntake 1\nframe 1 7200000001482c811da5d5b4bc6d497ffa98491e38\ntake 1\n")
    ≡ codes
    "link 1\nok\nout 736f6b 4e00000000010000010000007b000000040003624068\nup a@h 5 visible\nout 617c6a180b36896a0a8c02787eeafb0e4c\n"
unfolding digits name_frame challenge_frame reply_frame ack_frame status_of read_message
    hex_on_literals block_words rounds compress hash_after digest_bytes md5
acceptor_handshake = refl

-- own processes and a monitor of another seat, the audit, and a name with slashes
abbrev asked : List ℕ
asked = codes
    "start pg\nspawn\nseat 7\nmonitor pg g\nseat 0\njoin pg g b@h/4/1 b@h/4/1\nexit a/b@h/1/4/1\nexit b@h/4/1\nupdates 3\n"
    ++ codes "seat 7\nupdates 3\nsize\naudit 6\naudit 5\naudit 8\naudit 9\n"

abbrev answered : List ℕ
answered = codes
    "ok\npid b@h/4/1\nok\nref 3\nok\nok\nrefused 19 NotLocal\nok\nrefused 23 NoMonitor\n"
    ++ codes
    "ok\nupdates join g 2 b@h/4/1 b@h/4/1 leave g 2 b@h/4/1 b@h/4/1\nsize 8\n6 0 Exit accepted\n5 0 Exit refused 19 NotLocal\n8 7 Updates accepted\nnone\n"

pub own_processes : text [] node asked ≡ answered
unfolding digits name_frame challenge_frame reply_frame ack_frame status_of read_message
    hex_on_literals
own_processes = refl

-- the line of a fault counts the quiet lines
pub script_fault : text [] node (codes "# a script\n\nspawn\nspwan\nspawn\n") ≡ codes
    "pid b@h/4/1\nfault line 4\n"
unfolding digits
script_fault = refl
