-- The lines of an archive.
use Rattle.std.specs.Prelude.{ℕ, Bool, List, ◌++◌, codes, decimal, Option, Some, None}
use Rattle.std.specs.List.{flat_map}
use Rattle.policy_audit.specs.declared.entry.Entry.{Entry}
use Rattle.policy_audit.specs.declared.change.Change.{Change}
use Rattle.policy_audit.specs.declared.opening.Opening.{Opening}
use Rattle.pg_archive.specs.declared.life.Life.{Life}
use Rattle.pg_archive.specs.Texts.{quoted, truth_text, list_text, change_text}
use Rattle.pg_archive.specs.Events.{head_text, event_text}
use Rattle.pg_archive.specs.Verdicts.{verdict_text}

-- the name of a life, and whether its links are hidden ones
unfoldable pub who_text : List ℕ → Bool → List ℕ
who_text name hidden = codes "{\"life\":" ++ quoted name ++ codes ",\"hidden\":"
    ++ truth_text hidden

-- its creation, and the most entries of its audit
unfoldable pub counts_text : ℕ → ℕ → List ℕ
counts_text creation entries = codes ",\"creation\":" ++ decimal creation ++ codes ",\"entries\":"
    ++ decimal entries

-- its version of link messages, and the end of its line
unfoldable pub links_text : ℕ → List ℕ
links_text links = codes ",\"links\":" ++ decimal links ++ codes "}"

-- what a life begins with, without its line feed
unfoldable pub life_text : Life → List ℕ
life_text l = who_text l.name l.hidden ++ counts_text l.creation l.entries ++ links_text l.links

abbrev pub life_line : Life → List ℕ
life_line l = life_text l ++ codes "\n"

-- an entry up to what it changed
unfoldable pub judged_text : Entry → List ℕ
judged_text e = head_text e.number e.seat (event_text e.event) ++ verdict_text e.verdict

-- what an entry changed, and the end of its line
unfoldable pub changed_text : List Change → List ℕ
changed_text changes = codes ",\"change\":" ++ list_text change_text changes ++ codes "}"

-- an entry without its line feed
abbrev pub entry_text : Entry → List ℕ
entry_text e = judged_text e ++ changed_text e.change

abbrev pub entry_line : Entry → List ℕ
entry_line e = entry_text e ++ codes "\n"

abbrev pub entry_lines : List Entry → List ℕ
entry_lines entries = flat_map entry_line entries

-- the line of an entry, where there is one
abbrev pub text_of : Option Entry → Option (List ℕ)
text_of (Some e) = Some (entry_text e)
text_of None = None

-- the opening of a life, with this cookie
abbrev pub opened : Life → List ℕ → Opening
opened l cookie = record {
  name = l.name;
  cookie = cookie;
  hidden = l.hidden;
  creation = l.creation;
  entries = l.entries;
  links = l.links;
}

-- what a life tells of an opening
abbrev pub life_of : Opening → Life
life_of o = record {
  name = o.name;
  hidden = o.hidden;
  creation = o.creation;
  entries = o.entries;
  links = o.links;
}
