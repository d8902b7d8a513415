-- What passes of a handshake with a stock node (Distribution Protocol, "Distribution Handshake").
use Rattle.std.specs.Prelude.{◌≡◌, ◌≢◌, ◌<◌, ◌^◌, ◌==◌, ◌&&◌, ◌||◌, ℕ, Bool, true, false}
use Rattle.std.specs.Prelude.{List, [], ◌∷◌, ◌++◌, bit_and, not}
use Rattle.std.specs.Int.{w64, to_be_bytes}
use Rattle.dist_types.specs.Flags.{has_bit}
use Rattle.handshake_frames.specs.Frame.{Challenge, Name}
use Rattle.handshake_frames.specs.Spelling.{SpellsChallenge, SpellsName, challenge_head, name_head}

-- the flags that are offered; bit 0 of a visible link alone
abbrev pub offered_flags : Bool → ℕ
offered_flags true = 0x407070FBD
offered_flags false = 0x407070FBC

-- the eleven flags that each stock node has, or bit 26, which stands for them
abbrev pub has_stock : ℕ → Bool
has_stock flags = (bit_and flags 0x1070F94 == 0x1070F94) || not (bit_and flags 0x4000000 == 0)

-- these are the flags in the frame in which an end says its name: a Challenge, or a Name
abbrev pub SaysFlags : Bool → List ℕ → ℕ → Type 0
SaysFlags true body flags = (c : Challenge) × SpellsChallenge body c × (c.flags ≡ flags)
SaysFlags false body flags = (n : Name) × SpellsName body n × (n.flags ≡ flags)

-- the name and the creation of the run that it says
abbrev pub SaysRun : Bool → List ℕ → List ℕ → ℕ → Type 0
SaysRun true body name creation = (c : Challenge) × SpellsChallenge body c × (c.name ≡ name)
    × (c.creation ≡ creation)
SaysRun false body name creation = (n : Name) × SpellsName body n × (n.name ≡ name)
    × (n.creation ≡ creation)

-- an end says its name in the frame, and nothing stands behind it
abbrev pub IsBare : Bool → List ℕ → Type 0
IsBare true body = (c : Challenge) × SpellsChallenge body c × (body ≡ challenge_head c)
IsBare false body = (n : Name) × SpellsName body n × (body ≡ name_head n)

-- no end says its name in the frame
abbrev pub IsSilent : Bool → List ℕ → Type 0
IsSilent is_challenge body = (flags : ℕ) → SaysFlags is_challenge body flags → ⊥

-- a Name or a Challenge with these flags, and these bytes behind them
abbrev pub named : ℕ → List ℕ → List ℕ
named flags rest = 78 ∷ to_be_bytes w64 flags ++ rest

-- it is neither of them
abbrev pub IsUnnamed : List ℕ → Type 0
IsUnnamed body = (flags : ℕ) (rest : List ℕ) → flags < 2 ^ 64 → body ≢ named flags rest

-- a frame of the node here goes out with the flags that are offered, where it is a Name or a
-- Challenge; any other one unchanged
pub record IsOwnFrame (visible : Bool) (body sent : List ℕ) : Type 0 where
  pub flagged : (flags : ℕ) (rest : List ℕ) → flags < 2 ^ 64 → body ≡ named flags rest
      → sent ≡ named (offered_flags (visible && has_bit 0 flags)) rest
  pub same : IsUnnamed body → sent ≡ body

-- a frame of the peer comes in unchanged; in parts 2 stands behind it
abbrev pub IsPeerFrame : Bool → List ℕ → List ℕ → Type 0
IsPeerFrame true body taken = taken ≡ body ++ 2 ∷ []
IsPeerFrame false body taken = taken ≡ body
