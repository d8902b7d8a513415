-- What else a node asks over a link, and is answered.
use Rattle.std.specs.Prelude.{◌≡◌, ℕ, List, ◌++◌, codes}
use Rattle.external_terms.specs.Terms.{SpellsTerm}
use Rattle.external_terms.specs.Values.{atom_bytes, tuple_head}
use Rattle.otp_edge.specs.PgMessages.{headed}

-- `{'$gen_call', {From, Tag}, {is_auth, Node}}`, to the name `net_kernel`: the question of a ping
pub record IsPing (from tag node message : List ℕ) : Type 0 where
  pub from_term : SpellsTerm from
  pub tag_term : SpellsTerm tag
  pub node_term : SpellsTerm node
  pub bytes : message ≡ headed 3 (codes "$gen_call") (tuple_head 2 ++ (from ++ (tag
      ++ headed 2 (codes "is_auth") node)))

-- `{Tag, yes}`: its answer
abbrev pub pong_bytes : List ℕ → List ℕ
pong_bytes tag = tuple_head 2 ++ (tag ++ atom_bytes (codes "yes"))

-- `{'$gen_cast', {init_connect, ..}}`, to the name `global_name_server`: names are to be shared
abbrev pub connect_bytes : ℕ → List ℕ → List ℕ
connect_bytes arity rest =
    headed 2 (codes "$gen_cast") (headed arity (codes "init_connect") rest)

-- `{'$gen_cast', {in_sync, Node, true}}`: its answer, that there are no more names to share
abbrev pub in_sync_bytes : List ℕ → List ℕ
in_sync_bytes node = headed 2 (codes "$gen_cast") (headed 3 (codes "in_sync")
    (atom_bytes node ++ atom_bytes (codes "true")))
