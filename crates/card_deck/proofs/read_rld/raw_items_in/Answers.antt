use Rattle.std.proofs.Common.{◌≡◌, ◌-◌, ◌+◌, ℕ, length, [], ◌∷◌, ◌++◌, sym, ◌∙◌, ap, arith, false, subst, List}
use Rattle.deck_model.specs.Card.{rld_raws, raw_items, no_item, omits_next}
use Rattle.deck_model.specs.declared.cards.RawItem.{RawItem}
use Rattle.card_deck.proofs.Sizes.{Filling, filling_start, filling_next, filling_end}
use Rattle.card_deck.proofs.Raws.{raws_next, raws_none, raws_end}
use Rattle.card_deck.proofs.read_rld.raw_items_in.Goals as goal

pub loop-i-init : goal.loop-i-init
unfolding rld_raws
loop-i-init c = record {
  so = ap (λ e. raw_items 13 e false no_item c.args.bytes.now) c.new-items.ensures;
  fit =
      let P : List RawItem → Type 0 = λ items. Filling (length c.args.bytes.now) (length c.args.bytes.now) false no_item items in
      subst P (sym c.new-items.ensures) (filling_start (length c.args.bytes.now));
  filled = ap length c.new-items.ensures;
}

pub returns-in-None-clause-items : goal.returns-in-None-clause-items
returns-in-None-clause-items c =
    let l = c.loop-i in
    let n : 13 - l.i ≡ (13 - (l.i + 1)) + 1 = omega arith in
    sym (raws_none (13 - l.i) (13 - (l.i + 1)) l.items.items l.omits l.before l.rest.now n c.if-rest-eq0.false (sym c.raw_item_in.ensures.item ∙ c.in-None.is)) ∙ l.invariant.so

pub loop-i-preserved : goal.loop-i-preserved
loop-i-preserved c =
    let l = c.loop-i in
    let m : ℕ = 13 - (l.i + 1) in
    let n : 13 - l.i ≡ m + 1 = omega arith in
    let i = c.in-Some.item in
    record {
      so = ap (λ e. raw_items m e (omits_next i) i c.after_item-rest.result.now) c.push.ensures.items
          ∙ (ap (raw_items m (l.items.items ++ i ∷ []) (omits_next i) i) c.after_item-rest.ensures
          ∙ (sym (raws_next (13 - l.i) m l.items.items l.omits l.before i l.rest.now n c.if-rest-eq0.false (sym c.raw_item_in.ensures.item ∙ c.in-Some.is)) ∙ l.invariant.so));
      fit =
          let P : List RawItem → Type 0 = λ items. Filling (length c.args.bytes.now) (length c.after_item-rest.result.now) (omits_next i) i items in
          subst P (sym c.push.ensures.items) (filling_next (length c.args.bytes.now) l.omits l.before i l.items.items l.rest.now c.after_item-rest.result.now l.invariant.fit (sym c.raw_item_in.ensures.item ∙ c.in-Some.is) c.in-Some.ensures.small c.after_item-rest.ensures);
      filled = omega arith;
    }

pub returns-then-rest-eq0-2-clause-items : goal.returns-then-rest-eq0-2-clause-items
returns-then-rest-eq0-2-clause-items c = sym (raws_end (13 - c.loop-i.i) c.loop-i.items.items c.loop-i.omits c.loop-i.before c.loop-i.rest.now c.if-rest-eq0-2.true) ∙ c.loop-i.invariant.so

pub returns-then-rest-eq0-clause-fit : goal.returns-then-rest-eq0-clause-fit
returns-then-rest-eq0-clause-fit c = let l = c.loop-i in filling_end (length c.args.bytes.now) (length l.rest.now) l.omits l.before l.items.items l.invariant.fit c.if-rest-eq0.true c.requires

pub returns-then-rest-eq0-2-clause-fit : goal.returns-then-rest-eq0-2-clause-fit
returns-then-rest-eq0-2-clause-fit c = let l = c.loop-i in filling_end (length c.args.bytes.now) (length l.rest.now) l.omits l.before l.items.items l.invariant.fit c.if-rest-eq0-2.true c.requires
