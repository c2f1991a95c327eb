use Rattle.std.proofs.Common.{◌∙◌, ap, arith, map}
use Rattle.deck_model.specs.Image.{section, or_nowhere}
use Rattle.deck_loader.specs.ItemKeys.{placed_key}
use Rattle.deck_loader.specs.Keys.{first_at, at_place}
use Rattle.deck_loader.proofs.Items.{section_found}
use Rattle.deck_loader.proofs.lookup.section_by_id.Goals as goal

pub returns-clause-value : goal.returns-clause-value
unfolding section
returns-clause-value c =
    let ps = c.args.placed.now in
    c.placed_at.ensures.value
    ∙ ap or_nowhere (ap (at_place ps) (c.copied.ensures ∙ (c.get.ensures.value ∙ (c.requires.at c.key_of.result ∙ ap (λ q. first_at q 0 (map placed_key ps)) c.key_of.ensures)))
    ∙ section_found ps c.args.owner c.args.id (omega arith) c.requires.small)
