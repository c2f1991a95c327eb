use Rattle.std.proofs.Common.{◌≡◌, ◌+◌, IsTrue, ◌∷◌, ◌++◌, length, map, refl, sym, ◌∙◌, ap, subst, arith}
use Rattle.deck_model.specs.CardWriting.{card_fits}
use Rattle.deck_cards.specs.NumberedCards.{deck_bytes}
use Rattle.deck_cards.specs.Writable.{AreWritable}
use Rattle.link_model.specs.Linked.{label_card}
use Rattle.deck_link.proofs.Composing.{one_card}
use Rattle.deck_link.proofs.cards.push_labels.Goals as goal

pub push_card-requires : goal.push_card-requires
push_card-requires c =
    let w = subst (λ ys. AreWritable (map label_card ys)) c.in-Some.ensures.cases.0 c.loop-first.invariant.writable in
    subst (λ y. IsTrue (card_fits y)) (sym c.esd_card.ensures) w.0

pub loop-first-preserved : goal.loop-first-preserved
loop-first-preserved c =
    let l = c.loop-first in
    let x : l.rest.now ≡ c.in-Some.first.now ∷ c.in-Some.after.now = c.in-Some.ensures.cases.0 in
    let old = l.out.items in
    let n = l.invariant.numbers in
    let after = map label_card c.in-Some.after.now in
    record {
      so = λ more.
          one_card c.esd_card.result l.next (l.next + 1) old c.push_card.new.out.items (after ++ more) refl c.in_ok-push_card.ensures
          ∙ (ap (λ y. old ++ deck_bytes l.next (y ∷ (after ++ more))) c.esd_card.ensures
          ∙ (ap (λ ys. old ++ deck_bytes l.next (map label_card ys ++ more)) (sym x) ∙ l.invariant.so more));
      numbers = let e = ap length x in omega (arith, e, n);
      writable = (subst (λ ys. AreWritable (map label_card ys)) x l.invariant.writable).2;
    }
