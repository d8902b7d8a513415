-- Scripts as lines: who asks for what, and the verdict that is wanted.
use Prim.Native.String.{String}
use Rattle.policy_audit.proofs
use proofs.Words.{Accepted, Bool, Call, codes, cond, cookie, creation, Event, false, History}
use proofs.Words.{List, map, nat_le, OutFrame, past, Pid, Refused, Reply, Rule, suc, true}
use proofs.Words.{Verdict, zero, ℕ, ◌*◌, ◌++◌, ◌+◌, ◌-◌, ◌∷◌, []}

pub record Line : Type 0 where
  pub seat : ℕ
  pub event : Event
  pub verdict : Verdict

abbrev pub by : ℕ → Event → Verdict → Line
by seat e v = record { seat = seat; event = e; verdict = v }

abbrev pub gives : Event → Reply → Line
gives e r = by 0 e (Accepted r)

abbrev pub done : Event → Line
done e = gives e Reply.Done

abbrev pub breaks : Event → Rule → Line
breaks e r = by 0 e (Refused r)

abbrev pub takes : ℕ → List OutFrame → Line
takes l frames = gives (Event.Take l) (Reply.Out frames)

abbrev pub calls : List Line → List Call
calls lines = map (λ line. record { seat = line.seat; event = line.event }) lines

abbrev pub judged : List Line → List Verdict
judged lines = map (λ line. line.verdict) lines

-- a history without entries
abbrev pub begun : List ℕ → List ℕ → Bool → ℕ → ℕ → History
begun name cookie hidden creation entries =
    past (record {
      name = name;
      cookie = cookie;
      hidden = hidden;
      creation = creation;
      entries = entries;
      links = 1;
    }) []

-- the node of most scripts
abbrev pub node : History
node = begun (codes "b@h") (codes "password") false 4 1000000

-- the same node where it knows version 2
abbrev pub new_node : History
new_node = past (record {
  name = codes "b@h";
  cookie = codes "password";
  hidden = false;
  creation = 4;
  entries = 1000000;
  links = 2;
}) []

-- the value of a digit of hex
abbrev digit : ℕ → ℕ
digit code = cond (nat_le code 57) (code - 48) (code - 87)

-- the bytes that are written so in hex
abbrev pub hex : List ℕ → List ℕ
hex (a ∷ b ∷ text) = (16 * digit a + digit b) ∷ hex text
hex text = []

abbrev pub pid : List ℕ → ℕ → ℕ → Pid
pid node creation number = record { node = node; creation = creation; number = number }

abbrev pub frame : String → OutFrame
frame text = record { wide = false; body = hex (codes text) }

abbrev pub message : String → OutFrame
message text = record { wide = true; body = hex (codes text) }

-- a frame that came on link l, in hex
abbrev pub sent : ℕ → List ℕ → Event
sent l text = Event.Frame l (hex text)

abbrev pub came : ℕ → String → Event
came l text = sent l (codes text)

-- ---- names, frames and lines that many scripts share

abbrev pub pg : List ℕ
pg = codes "pg"

abbrev pub g : List ℕ
g = codes "g"

abbrev pub a_h : List ℕ
a_h = codes "a@h"

abbrev pub b_h : List ℕ
b_h = codes "b@h"

abbrev pub c_h : List ℕ
c_h = codes "c@h"

abbrev pub z_h : List ℕ
z_h = codes "z@h"

-- processes of the peer a@h and of the node itself
abbrev pub a_pid : ℕ → Pid
a_pid number = pid a_h 5 number

abbrev pub b_pid : ℕ → Pid
b_pid number = pid b_h 4 number

-- the node's own frames of a handshake
abbrev pub ok : OutFrame
ok = frame "736f6b"

abbrev pub challenge : OutFrame
challenge = frame "4e00000000010000010000007b000000040003624068"

abbrev pub ack : OutFrame
ack = frame "617c6a180b36896a0a8c02787eeafb0e4c"

abbrev pub members : List Pid → Line
members ps = gives (Event.Members pg g) (Reply.Pids ps)

-- links from number l on are opened
abbrev pub openings : ℕ → ℕ → List Line
openings zero l = []
openings (suc count) l = gives (Event.Opened 1) (Reply.Link l) ∷ openings count (l + 1)

-- link l is opened, and a@h names itself on it
abbrev pub a_named : ℕ → List Line
a_named l = gives (Event.Opened 123) (Reply.Link l)
    ∷ done (came l "4e0000000001000001000000050003614068") ∷ []

-- and proves on it that it knows the cookie
abbrev pub a_proved : ℕ → Line
a_proved l = gives (came l "7200000001482c811da5d5b4bc6d497ffa98491e38") (Reply.Up a_h 5 true)

-- link l to a@h is up, and its frames are taken
abbrev pub a_up : ℕ → List Line
a_up l = a_named l ++ takes l (ok ∷ challenge ∷ []) ∷ a_proved l ∷ takes l (ack ∷ []) ∷ []
