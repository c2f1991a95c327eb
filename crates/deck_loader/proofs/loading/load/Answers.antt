use Rattle.std.proofs.Common.{length, Ok, Result, refl, sym, subst}
use Rattle.std.proofs.lemmas.Result.{err_from_is_err_and}
use Rattle.deck_model.specs.Image.{Image}
use Rattle.deck_model.specs.declared.decks.DeckRefusal.{DeckRefusal}
use Rattle.deck_loader.specs.Listed.{listed}
use Rattle.deck_loader.specs.Loaded.{Loads}
use Rattle.deck_loader.proofs.Cards.{used_of}
use Rattle.deck_loader.proofs.Whole.{image_is, refuses_image}
use Rattle.deck_loader.proofs.loading.load.Goals as goal

pub returns-in_err-lists-clause-image : goal.returns-in_err-lists-clause-image
returns-in_err-lists-clause-image c =
    let p = err_from_is_err_and c.from_residual.result c.from_residual.ensures.1 in
    rw (p.1, p.2) (refl, refuses_image 65536 (length c.args.storage.now) c.args.deck.now c.in_err-lists.field-0.0 c.in_err-lists.ensures.lists)

pub load_lists-requires-clause-used : goal.load_lists-requires-clause-used
load_lists-requires-clause-used c = used_of c.args.deck.now (listed c.in_ok-lists.lists) c.in_ok-lists.ensures.lists

pub returns-clause-image : goal.returns-clause-image
returns-clause-image c =
    let P : Result Image DeckRefusal → Type 0 = λ i. Loads i c.args.storage.now c.load_lists.new.storage c.load_lists.result in
    subst P (sym (image_is 65536 (length c.args.storage.now) c.args.deck.now (Ok (listed c.in_ok-lists.lists)) c.in_ok-lists.ensures.lists)) c.load_lists.ensures.image
