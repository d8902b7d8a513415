use Rattle.std.proofs.Common.{arith, ◌<◌}
use Rattle.std.proofs.lemmas.List.Elements.{All-weaker}
use Rattle.std.proofs.lemmas.Str.{IsUtf8-from_ascii}
use Rattle.std.proofs.lemmas.Str.Ascii.{IsAscii-from_all}
use Rattle.dist_types.specs.Text.{IsTextByte}
use Rattle.dist_types.proofs.text.Text.copied.Goals as goal

-- visible bytes are ASCII, and so UTF-8
pub unreachable-requires : goal.unreachable-requires
unreachable-requires c =
    let bytes = c.args.bytes.now in
    let ascii =
    All-weaker IsTextByte (λ b. b < 128) (λ b is. grind (arith, is.1)) bytes c.requires.visible in
    c.in-Err.ensures.cases.0 (IsUtf8-from_ascii bytes (IsAscii-from_all bytes ascii))
