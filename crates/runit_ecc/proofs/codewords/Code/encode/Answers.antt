use Rattle.std.proofs.Common.{sym, ◌∙◌, ap, subst, ◌+◌, ◌<◌, ◌^◌}
use Rattle.run_model.specs.Code.{IsCodeword, value_of}
use Rattle.runit_ecc.proofs.Encoding.{encoded_codeword, encoded_value}
use Rattle.runit_ecc.proofs.codewords.Code.encode.Goals as goal

pub returns-clause-codeword : goal.returns-clause-codeword
returns-clause-codeword g c =
    let n = g.row.D + g.row.C in
    subst (λ x. IsCodeword n g.row.C x) (sym c.coded.ensures) (encoded_codeword n g.row.C c.args.value c.requires.checks c.requires.needed)

pub returns-clause-value : goal.returns-clause-value
returns-clause-value g c =
    let n = g.row.D + g.row.C in
    ap (value_of n) c.coded.ensures ∙ encoded_value n g.row.C c.args.value (subst (λ k. c.args.value < 2 ^ k) (sym c.requires.room) c.requires.fits)
