use Rattle.std.proofs.Common.{◌≡◌, false, eqb, ◌∙◌, ap, arith}
use Rattle.std.proofs.lemmas.Bool.Decides.{nat_tests}
use Rattle.std.specs.List.{list_any}
use Rattle.deck_model.specs.Image.{has_no_room}
use Rattle.deck_loader.specs.Listed.{listed}
use Rattle.link_model.specs.Linked.{whole_length}
use Rattle.deck_link.proofs.Accepting.{clash_refused, label_refused, entry_refused}
use Rattle.deck_link.proofs.Deciding.{placed_room, gathered_within, clash_told, far_told, told_sound}
use Rattle.deck_link.proofs.linking.link_accepted.Goals as goal

pub section_length-extent-requires : goal.section_length-extent-requires
section_length-extent-requires c =
    let d = c.args.deck.now in
    let a = c.requires.accepted in
    ap (list_any (has_no_room 16711680)) c.deref.ensures.value
    ∙ placed_room (listed d.lists) d.placed.items a.sound a.placed

pub first_clash-requires : goal.first_clash-requires
first_clash-requires c =
    let d = c.args.deck.now in
    let a = c.requires.accepted in
    gathered_within (listed d.lists) d.placed.items c.section_length-extent.result c.in-Ok.constants.items
    c.deref-2.result.now a.sound c.requires.read.widths a.placed
    (c.section_length-extent.ensures.value ∙ ap whole_length c.deref.ensures.value)
    c.in-Ok.ensures c.deref-2.ensures.value

pub returns-in-Some-clause-refused : goal.returns-in-Some-clause-refused
returns-in-Some-clause-refused c =
    let d = c.args.deck.now in
    let l = listed d.lists in
    let a = c.requires.accepted in
    clash_refused l c.in-Some.number a.sound
    (clash_told l d.placed.items c.in-Ok.constants.items c.deref-2.result.now c.in-Ok-first_clash.clash a.placed
    c.in-Ok.ensures c.deref-2.ensures.value c.in-Ok-first_clash.ensures ∙ c.in-Some.is)

pub returns-in-Some-first_far_label-clause-refused :
    goal.returns-in-Some-first_far_label-clause-refused
returns-in-Some-first_far_label-clause-refused c =
    let d = c.args.deck.now in
    let l = listed d.lists in
    let a = c.requires.accepted in
    label_refused l c.in-Some-first_far_label.number a.sound
    (clash_told l d.placed.items c.in-Ok.constants.items c.deref-2.result.now c.in-Ok-first_clash.clash a.placed
    c.in-Ok.ensures c.deref-2.ensures.value c.in-Ok-first_clash.ensures ∙ c.in_default-clash.is)
    (far_told l d.placed.items c.first_far_label.result a.placed c.first_far_label.ensures
    ∙ c.in-Some-first_far_label.is)

pub returns-then-deck-eq-BLANK_ENTRY-clause-refused :
    goal.returns-then-deck-eq-BLANK_ENTRY-clause-refused
returns-then-deck-eq-BLANK_ENTRY-clause-refused c =
    let d = c.args.deck.now in
    let l = listed d.lists in
    let a = c.requires.accepted in
    entry_refused l d.entry a.sound
    (clash_told l d.placed.items c.in-Ok.constants.items c.deref-2.result.now c.in-Ok-first_clash.clash a.placed
    c.in-Ok.ensures c.deref-2.ensures.value c.in-Ok-first_clash.ensures ∙ c.in_default-clash.is)
    (far_told l d.placed.items c.first_far_label.result a.placed c.first_far_label.ensures
    ∙ c.in_default-first_far_label.is)
    a.entry c.if-deck-eq-BLANK_ENTRY.true

pub link_sound-requires-clause-sound : goal.link_sound-requires-clause-sound
link_sound-requires-clause-sound c =
    let d = c.args.deck.now in
    let l = listed d.lists in
    let a = c.requires.accepted in
    let named = c.if-deck-eq-BLANK_ENTRY.false in
    let differs : eqb d.entry 0x404040 ≡ false = grind (arith, nat_tests) in
    told_sound l d.entry c.requires.read a.sound
    (clash_told l d.placed.items c.in-Ok.constants.items c.deref-2.result.now c.in-Ok-first_clash.clash a.placed
    c.in-Ok.ensures c.deref-2.ensures.value c.in-Ok-first_clash.ensures ∙ c.in_default-clash.is)
    (far_told l d.placed.items c.first_far_label.result a.placed c.first_far_label.ensures
    ∙ c.in_default-first_far_label.is)
    a.entry differs
