use Rattle.std.proofs.Common.{◌≡◌, ℕ, cond, ◌+◌, ◌-◌, ◌/◌, length, sym, ◌∙◌, ap, arith, Err, refl}
use Rattle.deck_model.specs.Deck.{cards_from, listing, card_refusal, is_end}
use Rattle.deck_loader.specs.Listed.{listed, onto, with_card}
use Rattle.deck_loader.proofs.Cards.{card_next, card_refused, card_refuses, onto_start, not_cards}
use Rattle.deck_loader.proofs.listing.read_deck.Goals as goal

pub returns-then-deck-ne0-clause-lists : goal.returns-then-deck-ne0-clause-lists
returns-then-deck-ne0-clause-lists c = not_cards c.args.deck.now c.if-deck-ne0.true

pub loop-i-init : goal.loop-i-init
loop-i-init c =
    let n : ℕ = length c.args.deck.now / 80 in
    record {
      so = onto_start c.args.deck.now (n - 0) (listed c.empty_lists-lists.result) c.if-deck-ne0.false (omega arith) c.empty_lists-lists.ensures.lists;
      numbered = refl;
      owners = omega arith;
      long = omega arith;
      few = omega arith;
      items = let z = c.empty_lists-lists.ensures.none in omega (arith, z);
      typed = c.empty_lists-lists.ensures.typed;
      widths = c.empty_lists-lists.ensures.widths;
    }

pub returns-in-Err-clause-lists : goal.returns-in-Err-clause-lists
returns-in-Err-clause-lists c =
    let l = c.loop-i in
    let m : ℕ = length c.args.deck.now / 80 - (l.i + 1) in
    let n : length c.args.deck.now / 80 - l.i ≡ m + 1 = omega arith in
    let e : listing c.args.deck.now ≡ Err (card_refusal l.number c.in-Err.r) =
    sym l.invariant.so ∙ card_refused (length c.args.deck.now / 80 - l.i) m l.number l.owner (listed l.lists) l.ended l.rest.now c.in-Err.r n (sym c.read_next.ensures.card ∙ c.in-Err.is) in
    card_refuses (listing c.args.deck.now) l.number c.in-Err.r c.refusal_of.result e c.refusal_of.ensures

pub loop-i-preserved : goal.loop-i-preserved
loop-i-preserved c =
    let l = c.loop-i in
    let k = c.in-Ok.card in
    let m : ℕ = length c.args.deck.now / 80 - (l.i + 1) in
    let n : length c.args.deck.now / 80 - l.i ≡ m + 1 = omega arith in
    let end = c.is_end_card-end.ensures in
    let step = card_next (length c.args.deck.now / 80 - l.i) m l.number l.owner (listed l.lists) l.ended l.rest.now k n (sym c.read_next.ensures.card ∙ c.in-Ok.is) in
    let owners : c.next_owner-owner.result ≡ cond (is_end k) (l.owner + 1) l.owner = c.next_owner-owner.ensures.value ∙ ap (λ b. cond b (l.owner + 1) l.owner) end in
    let more = c.in_ok-lists in
    record {
      so = ap (λ o. onto (listed more.lists) c.is_end_card-end.result (cards_from m (l.number + 1) o c.after_card-rest.result.now)) owners
          ∙ (ap (λ x. onto x c.is_end_card-end.result (cards_from m (l.number + 1) (cond (is_end k) (l.owner + 1) l.owner) c.after_card-rest.result.now)) more.ensures.lists
          ∙ (ap (λ b. onto (with_card l.number l.owner (listed l.lists) k) b (cards_from m (l.number + 1) (cond (is_end k) (l.owner + 1) l.owner) c.after_card-rest.result.now)) end
          ∙ (ap (λ bytes. onto (with_card l.number l.owner (listed l.lists) k) (is_end k) (cards_from m (l.number + 1) (cond (is_end k) (l.owner + 1) l.owner) bytes)) c.after_card-rest.ensures.value
          ∙ (sym step ∙ l.invariant.so))));
      numbered = omega arith;
      owners = omega arith;
      long = omega arith;
      few = l.invariant.few;
      items = let f = more.ensures.few in let g = l.invariant.items in omega (arith, f, g);
      typed = more.ensures.typed;
      widths = more.ensures.widths;
    }
