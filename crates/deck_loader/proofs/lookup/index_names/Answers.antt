use Rattle.std.proofs.Common.{◌∙◌, sym}
use Rattle.deck_loader.proofs.Earlier.{names_ok, names_some}
use Rattle.deck_loader.proofs.lookup.index_names.Goals as goal

pub returns : goal.returns
returns c =
    let x = c.in_ok-index.ensures in
    names_ok c.args.items.now c.deref.result.now c.in_ok-index.index.places (c.deref.ensures.value ∙ c.in_ok-keys.ensures) (sym x.doubled ∙ c.in-None.is) x.places

pub returns-in-Some : goal.returns-in-Some
returns-in-Some c =
    let x = c.in_ok-index.ensures in
    names_some c.args.items.now c.deref.result.now c.in-Some.i _ c.in_ok-index.index.doubled (c.deref.ensures.value ∙ c.in_ok-keys.ensures) x.doubled c.in-Some.is x.inside
