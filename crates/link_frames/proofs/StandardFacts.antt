-- Worked bodies are read as what they say, and bodies that spell no message as none.
use Rattle.link_frames.proofs.Words.{codes, List, message, None, refl, Some, ℕ, [], ◌++◌, ◌∷◌, ◌≡◌}
use Rattle.link_frames.specs.declared.message.Message.TheVariants as messages

-- the scope `pg`, behind its length
scope : List ℕ
scope = 2 ∷ 0x70 ∷ 0x67 ∷ []

-- the group `g`, and the first process of `a@h` in its creation 5
row : List ℕ
row = 1 ∷ 0x67 ∷ 0 ∷ 3 ∷ 0x61 ∷ 0x40 ∷ 0x68 ∷ 0 ∷ 0 ∷ 0 ∷ 5 ∷ 0 ∷ 0 ∷ 0 ∷ 0 ∷ 0 ∷ 0 ∷ 0 ∷ 1 ∷ []

read_down : message (0x58 ∷ scope) ≡ Some (messages.Down (codes "pg"))
unfolding message scope
read_down = refl

read_sync : message (0x53 ∷ scope ++ 0 ∷ 0 ∷ 0 ∷ 0 ∷ []) ≡ Some (messages.Sync (codes "pg") [])
unfolding message scope
read_sync = refl

read_join : message (0x4A ∷ scope ++ 0 ∷ 0 ∷ 0 ∷ 1 ∷ row)
    ≡ Some (messages.Join (codes "pg")
    (record { group = codes "g"; pid = record { node = codes "a@h"; creation = 5; number = 1 } }
    ∷ []))
unfolding message scope row
read_join = refl

join_of_nothing : message (0x4A ∷ scope ++ 0 ∷ 0 ∷ 0 ∷ 0 ∷ []) ≡ None
unfolding message scope
join_of_nothing = refl

byte_behind : message (0x44 ∷ scope ++ 0 ∷ []) ≡ None
unfolding message scope
byte_behind = refl

no_scope : message (0x44 ∷ 0 ∷ []) ≡ None
unfolding message
no_scope = refl

no_bytes : message [] ≡ None
unfolding message
no_bytes = refl
