use Rattle.std.proofs.Common.{◌∙◌, ap, sym, map}
use Rattle.std.specs.Prelude.{string_bytes}
use Rattle.clap.specs.Simple.{App, app_of, is_simple, matches_of}
use Rattle.clap.specs.Faults.{fault_of, is_simple_and_free}
use Rattle.g5_words.proofs.Whole.{found_where, none_where_fails, simple_is, is_simple_is, no_kind}
use Rattle.g5_words.proofs.Texts.{rest_spelt}
use Rattle.g5_words.proofs.clap_words.parted.Goals as goal

pub returns-in-Ok-clause-found : goal.returns-in-Ok-clause-found
returns-in-Ok-clause-found c =
    let has = c.args.has_options in
    let words = map string_bytes c.args.words.now in
    let app = c.in_ok-command.ensures in
    let parse = c.in-Ok.ensures in
    found_where has words c.in-Ok.matches (rest_spelt c.args.words.now)
    (sym (ap (λ (a : App). fault_of a words) app)
    ∙ parse.kinds (ap is_simple_and_free app ∙ simple_is has))
    ((parse.matches (ap is_simple app ∙ is_simple_is has)).0
    ∙ ap (λ (a : App). matches_of a words) app)

pub returns-in-Err-clause-usage : goal.returns-in-Err-clause-usage
returns-in-Err-clause-usage c =
    let has = c.args.has_options in
    let words = map string_bytes c.args.words.now in
    let app = c.in_ok-command.ensures in
    let parse = c.in-Err.ensures in
    λ usage. none_where_fails has words (rest_spelt c.args.words.now)
    (λ none. no_kind c.in-Err.error (fault_of (app_of c.in_ok-command.command) words)
    (parse.kinds (ap is_simple_and_free app ∙ simple_is has)) (c.refusal_of.ensures usage)
    (ap (λ (a : App). fault_of a words) app ∙ none))
