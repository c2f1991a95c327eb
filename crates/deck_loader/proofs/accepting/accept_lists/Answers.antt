use Rattle.std.proofs.Common.{◌≡◌, ℕ, List, [], None, Ok, refl, ◌∙◌, ap, sym, subst}
use Rattle.std.proofs.lemmas.Result.{err_from_is_err_and}
use Rattle.deck_model.specs.Deck.{Listing}
use Rattle.deck_model.specs.Image.{Image, image_of, image_byte, bytes_from, places, place, later_violation, first_doubled, same_id, same_name, item_number, or_zero, entry}
use Rattle.deck_model.specs.declared.decks.Item.{Item}
use Rattle.deck_model.specs.declared.decks.Placed.{Placed}
use Rattle.deck_loader.specs.Indexed.{IndexesIds, IndexesNames, IndexesSections}
use Rattle.deck_loader.specs.Listed.{listed}
use Rattle.deck_loader.specs.Written.{AreInside, ConstantsAreInside}
use Rattle.deck_loader.proofs.Inside.{texts_inside, constants_inside, entry_low}
use Rattle.deck_loader.proofs.Whole.{refuses_by, places_are, later_err, no_violation}
use Rattle.deck_loader.proofs.accepting.accept_lists.Goals as goal

abbrev image_at_places : ℕ → ℕ → Listing → Image
image_at_places o n l = let ps = places o l in record { bytes = bytes_from (image_byte l ps) 0 n; entry = or_zero (entry ps l.entries) }

pub returns-in_err-entry-clause-refused : goal.returns-in_err-entry-clause-refused
returns-in_err-entry-clause-refused c =
    let l = listed c.args.lists in
    let o : ℕ = c.args.origin in
    let n : ℕ = c.args.size in
    let r = c.in_err-entry.field-0.0 in
    let at = places_are o l c.in_ok-placed.placed.items (c.in_ok-placed.ensures.places ∙ (ap (λ ts. place o ts c.deref-4.result.now) c.deref-5.ensures.value ∙ ap (place o l.texts) c.deref-4.ensures.value)) in
    let ids = ap (λ is. item_number (first_doubled same_id [] is)) (sym c.deref.ensures.value) ∙ c.in_ok-ids.ensures.0 in
    let names = ap (λ is. item_number (first_doubled same_name [] is)) (sym c.deref-2.ensures.value) ∙ c.in_ok-by_name.ensures.0 in
    let later = ap (later_violation n l) (sym (c.deref-7.ensures.value ∙ at)) ∙ c.in_err-entry.ensures.refused in
    let p = err_from_is_err_and c.from_residual-in_err-entry.result c.from_residual-in_err-entry.ensures.1 in
    rw (p.1, p.2) (refuses_by (image_of o n (Ok l)) r (later_err n l (places o l) (image_at_places o n l) r ids names later))

pub returns-clause-accepted : goal.returns-clause-accepted
returns-clause-accepted c =
    let l = listed c.args.lists in
    let o : ℕ = c.args.origin in
    let n : ℕ = c.args.size in
    let ps : List Placed = c.in_ok-placed.placed.items in
    let P : List Item → Type 0 = λ is. IndexesIds is c.in_ok-ids.ids in
    let Q : List Item → Type 0 = λ is. IndexesNames is c.in_ok-by_name.by_name in
    let at : ps ≡ places o l = places_are o l ps (c.in_ok-placed.ensures.places ∙ (ap (λ ts. place o ts c.deref-4.result.now) c.deref-5.ensures.value ∙ ap (place o l.texts) c.deref-4.ensures.value)) in
    let ids = ap (λ is. item_number (first_doubled same_id [] is)) (sym c.deref.ensures.value) ∙ c.in_ok-ids.ensures.0 in
    let names = ap (λ is. item_number (first_doubled same_name [] is)) (sym c.deref-2.ensures.value) ∙ c.in_ok-by_name.ensures.0 in
    let later : later_violation n l ps ≡ None = ap (later_violation n l) (sym c.deref-7.ensures.value) ∙ c.in_ok-entry.ensures.accepted in
    record {
      lists = refl;
      placed = at;
      fits = record {
        sections = subst (λ qs. IndexesSections qs c.in_ok-sections.sections) c.deref-6.ensures.value c.in_ok-sections.ensures;
        ids = subst P c.deref.ensures.value c.in_ok-ids.ensures.1;
        by_name = subst Q c.deref-2.ensures.value c.in_ok-by_name.ensures.1;
        texts = texts_inside n o l ps at c.requires.used later;
        constants = constants_inside n l ps c.requires.widths later;
      };
      sound = no_violation n l (places o l) ids names (ap (later_violation n l) (sym at) ∙ later);
      entry = ap (λ qs. entry qs l.entries) (sym (c.deref-7.ensures.value ∙ at)) ∙ c.in_ok-entry.ensures.entry;
      inside = entry_low n l ps c.in_ok-entry.entry later (ap (λ qs. entry qs l.entries) (sym c.deref-7.ensures.value) ∙ c.in_ok-entry.ensures.entry);
    }
