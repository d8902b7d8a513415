-- Values as JSON (RFC 8259). All bytes of names and texts are printable, and none is a space.
use Rattle.std.specs.Prelude.{ℕ, Bool, List, [], ◌∷◌, ◌++◌, ◌==◌, ◌||◌, cond, codes, decimal, if◌then◌else◌}
use Rattle.std.specs.List.{flat_map}
use Rattle.hex.specs.Hex.{encode_lower}
use Rattle.dist_types.specs.declared.pid.Pid.{Pid}
use Rattle.dist_types.specs.declared.change.GroupChange.{GroupChange}
use Rattle.policy_audit.specs.declared.reply.GroupPids.{GroupPids}
use Rattle.policy_audit.specs.declared.reply.Update.{Update}
use Rattle.policy_audit.specs.declared.change.Change.{Change}
use Rattle.policy_audit.specs.OutFrame.{OutFrame}

-- a byte of a text: a quote or a backslash stands behind a backslash
abbrev pub escaped_byte : ℕ → List ℕ
escaped_byte b = cond (b == 34 || b == 92) (92 ∷ b ∷ []) (b ∷ [])

abbrev pub escaped : List ℕ → List ℕ
escaped text = flat_map escaped_byte text

abbrev pub quoted : List ℕ → List ℕ
quoted text = codes "\"" ++ escaped text ++ codes "\""

abbrev pub truth_text : Bool → List ℕ
truth_text b = if b then codes "true" else codes "false"

-- bytes in lower-case hex
abbrev pub hex_text : List ℕ → List ℕ
hex_text bytes = codes "\"" ++ encode_lower bytes ++ codes "\""

-- values with a comma between two of them
abbrev pub commas : {A : Type 0} → (A → List ℕ) → List A → List ℕ
commas text [] = []
commas text (x ∷ rest) = text x ++ flat_map (λ y. codes "," ++ text y) rest

abbrev pub list_text : {A : Type 0} → (A → List ℕ) → List A → List ℕ
list_text text items = codes "[" ++ commas text items ++ codes "]"

-- `name/creation/number`
abbrev pub pid_text : Pid → List ℕ
pid_text p =
    codes "\"" ++ escaped p.node ++ codes "/" ++ decimal p.creation ++ codes "/" ++ decimal p.number
    ++ codes "\""

abbrev pub group_text : GroupPids → List ℕ
group_text g = codes "{\"group\":" ++ quoted g.group ++ codes ",\"pids\":"
    ++ list_text pid_text g.pids
    ++ codes "}"

abbrev pub update_text : Update → List ℕ
update_text u = codes "{\"group\":" ++ quoted u.group ++ codes ",\"leave\":" ++ truth_text u.leave
    ++ codes ",\"pids\":" ++ list_text pid_text u.pids ++ codes "}"

-- whether the length before the frame has 4 bytes, and its body
abbrev pub frame_text : OutFrame → List ℕ
frame_text f = codes "{\"wide\":" ++ truth_text f.wide ++ codes ",\"body\":" ++ hex_text f.body
    ++ codes "}"

abbrev pub group_change_text : GroupChange → List ℕ
group_change_text c = codes "{\"group\":" ++ quoted c.group ++ codes ",\"left\":"
    ++ list_text pid_text c.left ++ codes ",\"joined\":" ++ list_text pid_text c.joined ++ codes "}"

-- what an entry changed in a scope
abbrev pub change_text : Change → List ℕ
change_text c = codes "{\"scope\":" ++ quoted c.scope ++ codes ",\"groups\":"
    ++ list_text group_change_text c.groups ++ codes "}"
