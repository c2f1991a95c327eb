use Rattle.std.proofs.Common.{◌≡◌, ◌≤◌, ℕ, ◌||◌, List, None, refl, sym, ◌∙◌, ap, subst}
use Rattle.std.specs.List.{find, list_any}
use Rattle.deck_model.specs.Image.{places, image_byte}
use Rattle.deck_model.specs.declared.decks.Placed.{Placed}
use Rattle.deck_loader.specs.Listed.{listed}
use Rattle.deck_loader.specs.Written.{AreInside}
use Rattle.link_model.specs.Link.{is_far_label}
use Rattle.link_model.proofs.Fitting.{ends_in}
use Rattle.link_model.specs.Linked.{whole_length, name_labels, text_reaches, linked_items}
use Rattle.deck_link.specs.Constants.{constants_for, constant_items, reached, ConstantsIn}
use Rattle.deck_link.specs.declared.constants.Constant.{Constant}
use Rattle.deck_link.proofs.Accepting.{sound_fits, sound_room}
use Rattle.deck_link.proofs.Gathered.{same_items, same_inside}
use Rattle.deck_link.proofs.Made.{flags_stand}
use Rattle.deck_link.proofs.parts.parts_of.Goals as goal

pub labels_of-requires-clause-small : goal.labels_of-requires-clause-small
labels_of-requires-clause-small c =
    let l = listed c.args.deck.now.lists in
    let at = c.requires.accepted.placed in
    let P : List Placed → Type 0 = λ ps. whole_length ps ≤ 16711680 in
    subst P (sym at) (ends_in 16711680 (places 0 l) (sound_room l c.requires.sound.sound))

pub labels_of-requires-clause-near : goal.labels_of-requires-clause-near
labels_of-requires-clause-near c =
    let l = listed c.args.deck.now.lists in
    let P : List Placed → Type 0 = λ ps. find (is_far_label ps) l.items ≡ None in
    subst P (sym c.requires.accepted.placed) c.requires.sound.labels

pub standing-requires-clause-texts : goal.standing-requires-clause-texts
standing-requires-clause-texts c =
    let l = listed c.args.deck.now.lists in
    let at = c.requires.accepted.placed in
    let n : c.args.extent ≡ whole_length (places 0 l) = c.requires.extent ∙ ap whole_length at in
    let P : List Placed → ℕ → Type 0 = λ ps k. AreInside ps k l.texts in
    subst (λ ps. P ps c.args.extent) (sym at)
    (subst (P (places 0 l)) (sym n) (sound_fits l c.args.deck.now.entry c.requires.sound).linkable.3)

pub standing-requires-clause-constants : goal.standing-requires-clause-constants
standing-requires-clause-constants c =
    let l = listed c.args.deck.now.lists in
    let at = c.requires.accepted.placed in
    let ps = places 0 l in
    let n : c.args.extent ≡ whole_length ps = c.requires.extent ∙ ap whole_length at in
    let cs : c.args.constants.now ≡ constants_for l.items ps l.relocations = c.requires.constants ∙ ap (λ qs. constants_for l.items qs l.relocations) at in
    let P : ℕ → List Constant → Type 0 = λ k xs. ConstantsIn k xs in
    subst (P c.args.extent) (sym cs)
    (subst (λ k. P k (constants_for l.items ps l.relocations)) (sym n)
    (same_inside (whole_length ps) l.items ps l.relocations (sound_fits l c.args.deck.now.entry c.requires.sound).linkable.4))

pub moving_items-requires : goal.moving_items-requires
moving_items-requires c =
    let l = listed c.args.deck.now.lists in
    let ps = c.args.deck.now.placed.items in
    let P : List Constant → Type 0 = λ xs. ConstantsIn 16711680 xs in
    subst P (sym c.requires.constants) (same_inside 16711680 l.items ps l.relocations c.requires.accepted.fits.constants)

pub returns : goal.returns
returns c =
    let l = listed c.args.deck.now.lists in
    let at = c.requires.accepted.placed in
    let ps = c.args.deck.now.placed.items in
    let cs = c.requires.constants in
    let stands = c.in_ok-stands.ensures in
    let items = c.in_ok-items.ensures in
    record {
      extent = c.requires.extent ∙ ap whole_length at;
      labels = c.in_ok-labels.ensures ∙ ap (λ qs. name_labels qs l.items) at;
      room = c.in_ok-storage.ensures.long;
      storage = λ k h. c.in_ok-storage.ensures.bytes k h ∙ ap (λ qs. image_byte l qs k) at;
      long = stands.long;
      flags = λ k. flags_stand l k _
          (stands.flags k
          ∙ (ap (λ qs. list_any (text_reaches qs k) l.texts || list_any (reached k) c.args.constants.now) at
          ∙ ap (λ xs. list_any (text_reaches (places 0 l) k) l.texts || list_any (reached k) xs) (cs ∙ ap (λ qs. constants_for l.items qs l.relocations) at)));
      items = items.items ∙ (ap constant_items cs ∙ (same_items l.items ps l.relocations ∙ ap (λ qs. linked_items l.items qs l.relocations) at));
      shared = items.shared;
      entry = refl;
    }
