-- What a word says.
use Rattle.std.specs.Prelude.{ℕ, ◌^◌, ◌==◌, ◌&&◌, nat_lt, cond, decimal, List, [], ◌∷◌, Option, Some, None, Ok, Err}
use Rattle.std.specs.declared.result.Result.{Result}
use Rattle.std.specs.Option.{option_map, option_and_then}
use Rattle.std.specs.Str.{bytes_eq}
use Rattle.std.specs.Str.Parse.{digits_value}
use Rattle.hex.specs.Hex.{decode_of}
use Rattle.hex.specs.declared.FromHexError.{FromHexError}
use Rattle.dist_types.specs.declared.pid.Pid.{Pid}
use Rattle.dist_types.specs.Text.{is_text, is_node_name}

-- the number below the limit of which the word is the decimal text
abbrev pub number_below : ℕ → List ℕ → Option ℕ
number_below limit word = cond (bytes_eq (decimal (digits_value 10 word)) word
    && nat_lt (digits_value 10 word) limit) (Some (digits_value 10 word)) None

-- a number of 32 bits
abbrev pub number_of : List ℕ → Option ℕ
number_of word = number_below (2 ^ 32) word

-- a number of 64 bits
abbrev pub long_number_of : List ℕ → Option ℕ
long_number_of word = number_below (2 ^ 64) word

-- a scope, a group or a cookie
abbrev pub text_of : List ℕ → Option (List ℕ)
text_of word = cond (is_text word) (Some word) None

-- the name of a node
abbrev pub name_of : List ℕ → Option (List ℕ)
name_of word = cond (is_node_name word) (Some word) None

-- a later cut, with this byte in front; else a cut at this byte, where it is a slash
abbrev pub cut_at : ℕ → List ℕ → Option (List ℕ × List ℕ) → Option (List ℕ × List ℕ)
cut_at b bytes (Some cut) = Some (b ∷ cut.0, cut.1)
cut_at b bytes None = cond (b == 47) (Some ([], bytes)) None

-- what stands before the last slash, and what stands behind it
abbrev pub cut_of : List ℕ → Option (List ℕ × List ℕ)
cut_of [] = None
cut_of (b ∷ bytes) = cut_at b bytes (cut_of bytes)

-- the process that these three words say
abbrev pub process_of : List ℕ → List ℕ → List ℕ → Option Pid
process_of name creation number =
    option_and_then (λ n. option_and_then (λ c.
    option_map (λ node. record { node = node; creation = c; number = n }) (name_of name))
    (number_of creation)) (long_number_of number)

-- a process, as `name/creation/number`: the last two slashes part it
abbrev pub pid_of : List ℕ → Option Pid
pid_of word = option_and_then (λ outer.
    option_and_then (λ inner. process_of inner.0 inner.1 outer.1) (cut_of outer.0)) (cut_of word)

-- what was decoded, if it could be
abbrev pub decoded : Result (List ℕ) FromHexError → Option (List ℕ)
decoded (Ok body) = Some body
decoded (Err e) = None

-- the bytes of which the word is the hex text, a pair of digits or more
abbrev pub body_of : List ℕ → Option (List ℕ)
body_of [] = None
body_of (b ∷ bytes) = decoded (decode_of (b ∷ bytes))
