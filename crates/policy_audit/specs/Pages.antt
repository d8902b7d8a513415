-- The pages that hold the entries of an audit.
use Rattle.std.specs.Prelude.{◌≡◌, ℕ, ◌*◌, ◌≤◌, ⊤, List, [], ◌∷◌, ◌++◌, length, nat_lt, reverse, take}
use Rattle.std.specs.List.{flat_map}
use Rattle.policy_audit.specs.declared.entry.Entry.{Entry}
use Rattle.policy_audit.specs.Log.{Log, later_than}

-- how many entries a page has room for
abbrev pub page_size : ℕ
page_size = 256

-- the entries of some pages, in their order
abbrev pub entries_in : List (List Entry) → List Entry
entries_in pages = flat_map (λ page. page) pages

-- all pages but the last are full, and none has more than it has room for
abbrev pub IsPaged : List (List Entry) → Type 0
IsPaged [] = ⊤
IsPaged (page ∷ []) = length page ≤ page_size
IsPaged (page ∷ next ∷ later) = (length page ≡ page_size) × IsPaged (next ∷ later)

-- the entries of the pages that were handed out, the newest of both first
abbrev pub entries_past : List (List Entry) → List Entry
entries_past pages = flat_map (λ page. reverse page) pages

-- the audit that these pages hold, behind those that were handed out
abbrev pub log_of : ℕ → List (List Entry) → List (List Entry) → Log
log_of limit past pages = record {
  limit = limit;
  entries = reverse (entries_in pages) ++ entries_past past;
  forgotten = length (entries_past past);
  has_room = nat_lt (length (entries_in pages)) (length pages * page_size);
}

-- a full page of the entries behind that number
abbrev pub IsPageBehind : ℕ → List Entry → List Entry → Type 0
IsPageBehind number entries page =
    (length page ≡ page_size) × (page ≡ take page_size (later_than number entries))
