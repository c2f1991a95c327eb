use Rattle.std.proofs.Common.{◌∙◌, ap}
use Rattle.deck_loader.specs.Keys.{at_place}
use Rattle.deck_loader.proofs.Items.{name_found}
use Rattle.deck_loader.proofs.lookup.item_by_name.Goals as goal

pub returns : goal.returns
returns c =
    let items = c.args.items.now in
    c.item_at.ensures ∙ (ap (at_place items) (c.copied.ensures ∙ (c.get.ensures.value ∙ c.requires.at c.args.name)) ∙ name_found items c.args.name)
