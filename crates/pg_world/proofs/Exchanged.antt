-- Two nodes exchange their rows: the whole run is computed by the checker, MD5 included.
use Rattle.pg_world.proofs
use proofs.Words.{AllByRecursion, ap, arith, Bool, bytes_eq, codes, Comes, DifferInName, drop}
use proofs.Words.{exchange, false, fresh, get_or, History, IsBehind, IsExchanged, IsNode}
use proofs.Words.{IsNodeName, IsText, IsWorld, IsWrittenStep, join_again, lie, List, names_compute}
use proofs.Words.{no_value, Nodes, refl, slice_get, slice_get-get_or, Some, subst, suc, sym}
use proofs.Words.{texts_compute, true, two_nodes, WorldStep, zero, ℕ, [], ◌++◌, ◌∙◌, ◌∷◌, ◌≡◌}
use proofs.Playing.{play, play_sound, plays}
use proofs.Puts.{value_of}
use proofs.Starting.{starts}
use Rattle.std.specs.Fmt.{digits}
use Rattle.md5.specs.Md5.{block_words, compress, digest_bytes, hash_after, md5, rounds}
use Rattle.handshake_frames.specs.Reading.{ack_frame, challenge_frame, name_frame, reply_frame}
use Rattle.handshake_frames.specs.Reading.{status_of}
use Rattle.link_frames.specs.Reading.{message as read_message}
use Rattle.link_frames.specs.PartReading.{message2 as read_message2}
use Rattle.pg_world.specs.declared.world_step.WorldStep.TheVariants as step

-- ---- the nodes are nodes, and what the steps bring is within the limits

fresh_node : (name : List ℕ) → IsNodeName name → IsNode (fresh name)
fresh_node name is =
    record {
      legal = tt;
      room = omega arith;
      name = is;
      creation = omega arith;
      entries = omega arith;
      links = (omega arith, omega arith);
      written = tt;
    }

a_name : IsNodeName (codes "a@h")
a_name = (names_compute (codes "a@h")).0 refl

b_name : IsNodeName (codes "b@h")
b_name = (names_compute (codes "b@h")).0 refl

each : (P : History → Type 0) → P (fresh (codes "a@h")) → P (fresh (codes "b@h"))
    → (i : ℕ) (h : History) → slice_get two_nodes.nodes i ≡ Some h → P h
each P one another zero h q = subst P (value_of q) one
each P one another (suc zero) h q = subst P (value_of q) another
each P one another (suc (suc i)) h q = no_value (sym q)

apart : (h k : History) → fresh (codes "a@h") ≡ h → fresh (codes "b@h") ≡ k
    → h.opening.name ≡ k.opening.name → ⊥
apart h k p q same =
    lie (sym (ap (λ n. bytes_eq n (codes "b@h")) (ap (λ v. v.opening.name) p ∙ same
    ∙ ap (λ v. v.opening.name) (sym q))))

differ : DifferInName two_nodes.nodes
differ zero (suc zero) h k less p q same = apart h k (value_of p) (value_of q) same
differ zero (suc (suc j)) h k less p q same = no_value (sym q)
differ (suc zero) (suc (suc j)) h k less p q same = no_value (sym q)
differ (suc (suc i)) j h k less p q same = no_value (sym p)
differ x y h k less p q same = omega arith

two_sound : IsWorld two_nodes
two_sound = starts two_nodes.nodes differ (each IsNode (fresh_node (codes "a@h") a_name)
    (fresh_node (codes "b@h") b_name)) (each (λ h. h.entries ≡ []) refl refl)

-- steps that bring no text and no challenge
abbrev all_moves : List WorldStep → Bool
all_moves [] = true
all_moves (step.Hand n at seat ∷ ts) = all_moves ts
all_moves (step.Deliver n at seat ∷ ts) = all_moves ts
all_moves (t ∷ ts) = false

-- such steps, and then others
and_moves : (ts us : List WorldStep) → all_moves ts ≡ true → AllByRecursion IsWrittenStep us
    → AllByRecursion IsWrittenStep (ts ++ us)
and_moves [] us q more = more
and_moves (step.Hand n at seat ∷ ts) us q more = (tt, and_moves ts us q more)
and_moves (step.Deliver n at seat ∷ ts) us q more = (tt, and_moves ts us q more)
and_moves (t ∷ ts) us q more = lie (sym q)

scope : IsText (codes "pg")
scope = (texts_compute (codes "pg")).0 refl

group : IsText (codes "g")
group = (texts_compute (codes "g")).0 refl

-- the exchange, and then others
then_written : (us : List WorldStep) → AllByRecursion IsWrittenStep us
    → AllByRecursion IsWrittenStep (exchange ++ us)
then_written us more = (
  scope,
  (
    scope,
    (
      tt,
      (
        tt,
        (
          (scope, group),
          ((scope, group), (omega arith, (omega arith, and_moves (drop 8 exchange) us refl more))),
        ),
      ),
    ),
  ),
)

written : AllByRecursion IsWrittenStep exchange
written = then_written [] tt

written_again : AllByRecursion IsWrittenStep (exchange ++ join_again)
written_again = then_written join_again ((scope, group), tt)

-- ---- the worlds that they make

-- nodes are read by a lemma: `refl` would compare whole histories, and compute each change in them

abbrev last : Nodes
last = play two_nodes exchange

exchanged : IsExchanged last
unfolding md5 digest_bytes hash_after compress rounds block_words digits name_frame challenge_frame
    reply_frame ack_frame status_of read_message read_message2
exchanged = record {
  a = get_or last.nodes 0 (fresh []);
  b = get_or last.nodes 1 (fresh []);
  wire = record
      { from = 0; to = 1; dialled = 4; accepted = Some 4; to_dialler = []; to_acceptor = [] };
  accepted = 4;
  a_stands = slice_get-get_or last.nodes 0 (fresh []) (omega arith);
  b_stands = slice_get-get_or last.nodes 1 (fresh []) (omega arith);
  wire_stands = refl;
  from_a = refl;
  to_b = refl;
  is_accepted = refl;
  none_to_a = refl;
  none_to_b = refl;
  at_a = record { up = refl; visible = refl; none_waits = refl; tells = refl; hears = refl };
  at_b = record { up = refl; visible = refl; none_waits = refl; tells = refl; hears = refl };
  a_lists = refl;
  b_lists = refl;
}

pub two_exchange : (w : Nodes) × Comes two_nodes exchange w × IsWorld w × IsExchanged w
two_exchange =
    (last, plays two_nodes exchange, play_sound two_nodes exchange two_sound written, exchanged)

abbrev again : Nodes
again = play two_nodes (exchange ++ join_again)

is_behind : IsBehind again
unfolding md5 digest_bytes hash_after compress rounds block_words digits name_frame challenge_frame
    reply_frame ack_frame status_of read_message read_message2
is_behind = record {
  a = get_or again.nodes 0 (fresh []);
  b = get_or again.nodes 1 (fresh []);
  link = 4;
  a_stands = slice_get-get_or again.nodes 0 (fresh []) (omega arith);
  b_stands = slice_get-get_or again.nodes 1 (fresh []) (omega arith);
  present = refl;
  hears = refl;
  a_has = refl;
  b_lists = refl;
}

pub one_behind : (w : Nodes) × Comes two_nodes (exchange ++ join_again) w × IsWorld w × IsBehind w
one_behind = (
  again,
  plays two_nodes (exchange ++ join_again),
  play_sound two_nodes (exchange ++ join_again) two_sound written_again,
  is_behind,
)
