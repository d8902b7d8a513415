-- What a line of a world's script asks for.
use Rattle.std.specs.Prelude.{ℕ, Bool, false, cond, List, [], ◌∷◌, Option, Some, None, codes}
use Rattle.std.specs.Prelude.{◌==◌, ◌||◌}
use Rattle.std.specs.Option.{option_map, option_and_then}
use Rattle.std.specs.Str.{bytes_eq}
use Rattle.dist_types.specs.Difference.{is_empty}
use Rattle.policy_audit.specs.declared.event.Event.{Event}
use Rattle.policy_audit.specs.declared.opening.Opening.{Opening}
use Rattle.pg_text.specs.declared.command.Command.{Command}
use Rattle.pg_text.specs.declared.command.Command.TheVariants as command
use Rattle.pg_text.specs.Lines.{words_of}
use Rattle.pg_text.specs.Words.{number_of, text_of, name_of}
use Rattle.pg_text.specs.Arguments.{first, only, both}
use Rattle.pg_text.specs.Commands.{command_of}
use Rattle.pg_world.specs.declared.side.Side.{Side}
use Rattle.pg_world.specs.declared.side.Side.TheVariants as side
use Rattle.world_script.specs.declared.world_line.WorldLine.{WorldLine}
use Rattle.world_script.specs.declared.world_line.WorldLine.TheVariants as line
use Rattle.world_script.specs.declared.opening_words.Settings.{Settings}

-- ---- words

-- the side that a word names
abbrev pub side_of : List ℕ → Option Side
side_of word = cond (bytes_eq word (codes "dialler")) (Some side.Dialler)
    (cond (bytes_eq word (codes "acceptor")) (Some side.Acceptor) None)

-- this word is next
abbrev pub is_next : List ℕ → List (List ℕ) → Bool
is_next word [] = false
is_next word (next ∷ words) = bytes_eq next word

-- the words behind the first
abbrev pub behind : List (List ℕ) → List (List ℕ)
behind [] = []
behind (word ∷ words) = words

-- the words behind this one, where it is next
abbrev pub without : List ℕ → List (List ℕ) → List (List ℕ)
without word words = cond (is_next word words) (behind words) words

-- the number behind this word, where it is next, else this number; and the words behind
abbrev pub number_behind : List ℕ → ℕ → List (List ℕ) → Option (ℕ × List (List ℕ))
number_behind word default words = cond (is_next word words) (first number_of (behind words))
    (Some (default, words))

-- a number that is a version of link messages
abbrev pub version_of : ℕ → Option ℕ
version_of n = cond (n == 1 || n == 2) (Some n) None

-- settings with one entry at least, and a version of link messages
abbrev pub settings_with : Bool → ℕ → ℕ → ℕ → Option Settings
settings_with hidden creation entries links =
    cond (entries == 0) None
    (option_map (λ v. record { hidden = hidden; creation = creation; entries = entries; links = v })
    (version_of links))

-- `[hidden] [creation N] [entries N] [links N]`
abbrev pub settings_of : List (List ℕ) → Option Settings
settings_of words =
    option_and_then (λ c. option_and_then (λ n. option_and_then (λ v.
    cond (is_empty v.1) (settings_with (is_next (codes "hidden") words) c.0 n.0 v.0) None)
    (number_behind (codes "links") 1 n.1))
    (number_behind (codes "entries") 1000000 c.1))
    (number_behind (codes "creation") 1 (without (codes "hidden") words))

-- what a node starts with
abbrev pub opened_with : List ℕ → List ℕ → Settings → Opening
opened_with name cookie s = record {
  name = name;
  cookie = cookie;
  hidden = s.hidden;
  creation = s.creation;
  entries = s.entries;
  links = s.links;
}

-- `NAME COOKIE`, and settings
abbrev pub opening_of : List (List ℕ) → Option Opening
opening_of words = option_and_then (λ n.
    option_and_then (λ c. option_map (opened_with n.0 c.0) (settings_of c.1)) (first text_of n.1))
    (first name_of words)

-- the event of a command
abbrev pub event_in : Command → Option Event
event_in (command.Step e) = Some e
event_in c = None

-- the event that a command says
abbrev pub event_of : List (List ℕ) → Option Event
event_of words = option_and_then event_in (command_of words)

-- a node, and an event
abbrev pub call_of : List (List ℕ) → Option (List ℕ × Event)
call_of words = option_and_then (λ n. option_map (λ e. (n.0, e)) (event_of n.1))
    (first name_of words)

-- who dials whom, with which challenge
abbrev pub dial_of : List (List ℕ) → Option WorldLine
dial_of words = option_and_then (λ n. option_map (λ to. line.Dial n.0 to.0 to.1)
    (both name_of number_of n.1)) (first name_of words)

-- ---- lines

-- a line with no word behind it
abbrev pub alone : WorldLine → List (List ℕ) → Option WorldLine
alone asked words = cond (is_empty words) (Some asked) None

-- `dial N N CH`, `accept W CH`, `hand W SIDE`, `deliver W SIDE`, `cut W SIDE`, `settle`
abbrev pub wire_line : List ℕ → List (List ℕ) → Option WorldLine
wire_line name words =
    cond (bytes_eq name (codes "dial")) (dial_of words)
    (cond (bytes_eq name (codes "accept")) (option_map (λ said. line.Accept said.0 said.1)
    (both number_of number_of words))
    (cond (bytes_eq name (codes "hand")) (option_map (λ said. line.Hand said.0 said.1)
    (both number_of side_of words))
    (cond (bytes_eq name (codes "deliver")) (option_map (λ said. line.Deliver said.0 said.1)
    (both number_of side_of words))
    (cond (bytes_eq name (codes "cut")) (option_map (λ said. line.Cut said.0 said.1)
    (both number_of side_of words))
    (cond (bytes_eq name (codes "settle")) (alone line.Settle words)
    None)))))

-- `node N C ..`, `at N COMMAND..`, `seat K`, `restart N`, `show S G`, or a line about wires
abbrev pub node_line : List ℕ → List (List ℕ) → Option WorldLine
node_line name words =
    cond (bytes_eq name (codes "node")) (option_map line.Node (opening_of words))
    (cond (bytes_eq name (codes "at")) (option_map (λ said. line.At said.0 said.1) (call_of words))
    (cond (bytes_eq name (codes "seat")) (option_map line.Seat (only number_of words))
    (cond (bytes_eq name (codes "restart")) (option_map line.Restart (only name_of words))
    (cond (bytes_eq name (codes "show")) (option_map (λ said. line.Show said.0 said.1)
    (both text_of text_of words))
    (wire_line name words)))))

-- by the first word
abbrev pub line_of : List (List ℕ) → Option WorldLine
line_of [] = None
line_of (name ∷ words) = node_line name words

-- what a line that is not quiet asks for, if it can be read
abbrev pub asked_by : List ℕ → Option WorldLine
asked_by l = line_of (words_of l)
