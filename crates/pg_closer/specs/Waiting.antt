-- Pages that wait to be written.
use Rattle.std.specs.Prelude.{ℕ, List}
use Rattle.policy_audit.specs.declared.entry.Entry.{Entry}

-- the entries of each page, the oldest page first, and how many may wait
pub record Waiting : Type 0 where
  pub pages : List (List Entry)
  pub most : ℕ
