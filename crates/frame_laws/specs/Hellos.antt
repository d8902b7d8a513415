-- What a node says of itself in a handshake (Distribution Protocol, Distribution Handshake).
use Rattle.std.specs.Prelude.{ℕ, cond, List, [], ◌∷◌, Option, None}
use Rattle.dist_types.specs.Flags.{own_flags}
use Rattle.handshake_frames.specs.Frame.{Name, Challenge}
use Rattle.policy_audit.specs.declared.entry.Entry.{Entry}
use Rattle.policy_audit.specs.History.{History, creation}
use Rattle.policy_audit.specs.Sides.{Start, start_of}
use Rattle.policy_audit.specs.Links.{is_opened_by}

-- the own flags, the creation, the own name, and the version of link messages that the node knows
abbrev pub own_hello : History → Name
own_hello h = record {
  flags = own_flags h.opening.hidden;
  creation = creation h;
  name = h.opening.name;
  version = h.opening.links;
}

-- the same of a Challenge
abbrev pub hello_in : Challenge → Name
hello_in f = record { flags = f.flags; creation = f.creation; name = f.name; version = f.version }

-- how link l was opened, also where a restart came since
abbrev pub opening_of : ℕ → List Entry → Option Start
opening_of l [] = None
opening_of l (e ∷ es) = cond (is_opened_by l e) (start_of e.event) (opening_of l es)
