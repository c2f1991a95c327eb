use Rattle.std.proofs.Common.{◌∙◌, ap, arith, map}
use Rattle.deck_loader.specs.ItemKeys.{id_key}
use Rattle.deck_loader.specs.Keys.{first_at, at_place}
use Rattle.deck_loader.proofs.Items.{item_found}
use Rattle.deck_loader.proofs.lookup.item_by_id.Goals as goal

pub returns : goal.returns
returns c =
    let items = c.args.items.now in
    c.item_at.ensures
    ∙ (ap (at_place items) (c.copied.ensures ∙ (c.get.ensures.value ∙ (c.requires.at c.key_of.result ∙ ap (λ q. first_at q 0 (map id_key items)) c.key_of.ensures)))
    ∙ item_found items c.args.owner c.args.id (omega arith) c.requires.small)
