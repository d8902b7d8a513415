-- Texts of one line.
use Rattle.std.specs.Prelude.{◌≡◌, ◌==◌, ◌||◌, ◌++◌, ℕ, Bool, true, false, List, All}
use Rattle.dist_types.specs.Fault.{IsTextFault}
use Rattle.named_files.specs.declared.secrets.SecretFault.{SecretFault}
use Rattle.named_files.specs.declared.secrets.SecretFault.TheVariants.{Unread, Open, Lines}
use Rattle.named_files.specs.declared.secrets.SecretFault.TheVariants.{NoCookie}

-- whether the byte is a line feed, or a carriage return
abbrev pub ends_line : ℕ → Bool
ends_line byte = byte == 10 || byte == 13

-- behind the line the text has nothing but ends of lines
abbrev pub IsOnlyLine : List ℕ → List ℕ → Type 0
IsOnlyLine line text =
    (ends : List ℕ) × (text ≡ line ++ ends) × All (λ b. ends_line b ≡ true) ends

-- the text is its first line, and the rest behind it
abbrev pub IsParted : List ℕ → List ℕ → List ℕ → Type 0
IsParted line rest text = (text ≡ line ++ rest) × All (λ b. ends_line b ≡ false) line

-- why the text has no cookie as its only line: there is more behind it, or it is none
abbrev pub IsSecretFault : List ℕ → SecretFault → Type 0
IsSecretFault text (Unread error) = ⊥
IsSecretFault text Open = ⊥
IsSecretFault text Lines =
    (line : List ℕ) × (rest : List ℕ) × IsParted line rest text
    × ¬ All (λ b. ends_line b ≡ true) rest
IsSecretFault text (NoCookie fault) =
    (line : List ℕ) × (rest : List ℕ) × IsParted line rest text × IsTextFault fault line
