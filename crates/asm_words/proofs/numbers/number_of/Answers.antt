use Rattle.std.proofs.Common.{◌≡◌, true, false, Some, ap, sym, ◌∙◌}
use Rattle.std.specs.List.{list_all}
use Rattle.std.specs.Str.Parse.{digits_value}
use Rattle.asm_model.specs.Words.{capped, is_hex_byte, is_hexadecimal}
use Rattle.asm_words.proofs.Words.{quoted_long, quoted_digits, small_hex, hex_number}
use Rattle.asm_words.proofs.numbers.number_of.Goals as goal

pub quoted-requires : goal.quoted-requires
quoted-requires c = quoted_long c.args.w.now (sym c.is_hexadecimal.ensures ∙ c.if-is_hexadecimal.true)

pub capped_hex-requires : goal.capped_hex-requires
capped_hex-requires c =
    ap (list_all is_hex_byte) c.quoted.ensures
    ∙ quoted_digits c.args.w.now (sym c.is_hexadecimal.ensures ∙ c.if-is_hexadecimal.true)

pub returns-then-is_hexadecimal-clause-value : goal.returns-then-is_hexadecimal-clause-value
returns-then-is_hexadecimal-clause-value c =
    let h : is_hexadecimal c.args.w.now ≡ true = sym c.is_hexadecimal.ensures ∙ c.if-is_hexadecimal.true in
    ap (λ n. Some n)
    (c.capped_hex.ensures
    ∙ (ap (λ t. capped (digits_value 16 t)) c.quoted.ensures ∙ small_hex c.args.w.now h))
    ∙ hex_number c.args.w.now (sym c.is_decimal.ensures ∙ c.if-is_decimal.false) h
