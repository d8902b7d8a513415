-- How EPMD is asked for the port of a node (Distribution Protocol, "Get the Distribution Port of
-- Another Node"). Numbers are big-endian.
use Rattle.std.specs.Prelude.{◌≡◌, ◌≢◌, ℕ, ◌+◌, ◌≤◌, ◌<◌, ◌^◌, ◌⊎◌, List, ◌∷◌, ◌++◌, length}
use Rattle.std.specs.Int.{w16, to_be_bytes}
use Rattle.handshake_frames.specs.Spelling.{counted}
use Rattle.epmd.specs.declared.port.PortAnswer.{PortAnswer}
use Rattle.epmd.specs.declared.fault.EpmdFault.{EpmdFault}
use Rattle.epmd.specs.declared.fault.EpmdFault.TheVariants as faults
use Rattle.epmd.specs.Head.{IsHeadFault}

-- behind its length z, and the name
abbrev pub please_bytes : List ℕ → List ℕ
please_bytes name = to_be_bytes w16 (1 + length name) ++ 122 ∷ name

-- what an answer says of a node
pub record Port : Type 0 where
  pub port : ℕ
  pub kind : ℕ
  pub protocol : ℕ
  pub highest : ℕ
  pub lowest : ℕ
  pub name : List ℕ

-- the same, without where the name lies in memory
abbrev pub said : PortAnswer → Port
said a = record {
  port = a.port;
  kind = a.kind;
  protocol = a.protocol;
  highest = a.highest;
  lowest = a.lowest;
  name = a.name.now;
}

-- the bytes behind the code, up to the name
abbrev pub behind_code : Port → List ℕ
behind_code p = to_be_bytes w16 p.port ++ p.kind ∷ p.protocol ∷ to_be_bytes w16 p.highest ++
    to_be_bytes w16 p.lowest ++ counted w16 p.name

-- w, the code 0, and these
abbrev pub port_bytes : Port → List ℕ
port_bytes p = 119 ∷ 0 ∷ behind_code p

-- each number fits its field
pub record PortFits (p : Port) : Type 0 where
  pub port : p.port < 2 ^ 16
  pub highest : p.highest < 2 ^ 16
  pub lowest : p.lowest < 2 ^ 16
  pub length : length p.name < 2 ^ 16

-- any bytes may stand behind the name
pub record SpellsPort (bytes : List ℕ) (p : Port) : Type 0 where
  pub fits : PortFits p
  pub extra : List ℕ
  pub is : bytes ≡ port_bytes p ++ extra

-- the same of the bytes behind the code
pub record Behind (bytes : List ℕ) (p : Port) : Type 0 where
  pub fits : PortFits p
  pub extra : List ℕ
  pub is : bytes ≡ behind_code p ++ extra

-- why bytes are no answer that speaks of a node: their head, or they end before the name does
abbrev pub IsPortFault : EpmdFault → List ℕ → Type 0
IsPortFault fault bytes = IsHeadFault fault 119 bytes ⊎ ((rest : List ℕ) ×
    (bytes ≡ 119 ∷ 0 ∷ rest) × (fault ≡ faults.Short) × ((p : Port) → Behind rest p → ⊥))

-- it is of that node, over TCP, and the node knows version 6
pub record IsUsable (p : Port) (name : List ℕ) : Type 0 where
  pub name_is : p.name ≡ name
  pub protocol_is : p.protocol ≡ 0
  pub low : p.lowest ≤ 6
  pub high : 6 ≤ p.highest

-- why it isn't
abbrev pub IsUseFault : EpmdFault → Port → List ℕ → Type 0
IsUseFault faults.OtherName p name = p.name ≢ name
IsUseFault faults.OtherProtocol p name = p.protocol ≢ 0
IsUseFault faults.OldNode p name = (p.highest < 6) ⊎ (6 < p.lowest)
IsUseFault fault p name = ⊥
