use Rattle.std.proofs.Common.{ℕ, List, ◌∙◌, ap}
use Rattle.deck_model.specs.declared.decks.Placed.{Placed}
use Rattle.deck_loader.specs.Listed.{listed}
use Rattle.deck_loader.specs.Written.{written, relocate}
use Rattle.deck_loader.proofs.Carried.{carried}
use Rattle.deck_loader.proofs.loading.carry_out.Goals as goal

pub returns : goal.returns
returns c =
    let l = listed c.args.deck.now.lists in
    let ps : List Placed = c.args.deck.now.placed.items in
    let xs : List ℕ = c.args.storage.now in
    let ys : List ℕ = c.write_texts.new.storage in
    let texts =
    c.write_texts.ensures.value
    ∙ (ap (λ qs. written qs c.deref-2.result.now xs) c.deref.ensures.value ∙ ap (λ ts. written ps ts xs) c.deref-2.ensures.value) in
    c.relocate_all.ensures
    ∙ (ap (λ is. relocate is c.deref-4.result.now c.deref-5.result.now ys) c.deref-3.ensures.value
    ∙ (ap (λ qs. relocate l.items qs c.deref-5.result.now ys) c.deref-4.ensures.value
    ∙ (ap (λ rs. relocate l.items ps rs ys) c.deref-5.ensures.value
    ∙ (ap (relocate l.items ps l.relocations) texts
    ∙ carried l ps xs c.requires.zero c.requires.fits.texts c.requires.fits.constants))))
