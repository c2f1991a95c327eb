use Rattle.std.proofs.Common.{◌≡◌, ◌≤◌, ℕ, ◌+◌, ◌++◌, ◌∷◌, [], max, cond, eqb, take, length, get_or, ◌∙◌, ap, sym, subst, arith, inl, inr, ◌<◌}
use Rattle.std.proofs.lemmas.Bool.{cases_lt}
use Rattle.std.proofs.lemmas.List.{take_more, get_or_default}
use Rattle.std.specs.BTreeMap.{get}
use Rattle.std.specs.Ordering.{nat_cmp}
use Rattle.deck_model.specs.Image.{or_zero}
use Rattle.deck_model.specs.declared.decks.Text.{Text}
use Rattle.deck_loader.specs.Keys.{item_key}
use Rattle.deck_loader.specs.Indexed.{last_end}
use Rattle.deck_loader.proofs.Farthest.{last_end-push, max_low}
use Rattle.deck_loader.proofs.ends.text_ends.Goals as goal

pub loop-t-preserved : goal.loop-t-preserved
loop-t-preserved c =
    let l = c.loop-t in
    let ts = c.args.texts.now in
    let n = l.t-index in
    let t = c.t-item.result in
    let one : take (n + 1) ts ≡ take n ts ++ t ∷ [] = take_more ts n t c.loop-t-test.true ∙ ap (λ x. take n ts ++ x ∷ []) (sym c.t-item.is) in
    let old : ℕ → ℕ = λ q. or_zero (get nat_cmp l.ends q) in
    let e = c.end_of.result in
    record {
      at = λ q. c.in_ok-keep_end.ensures q
          ∙ (ap (λ k. max (cond (eqb k q) e 0) (old q)) c.key_of_text.ensures.key
          ∙ (ap (λ x. max (cond (eqb (item_key t.owner t.id) q) x 0) (old q)) c.end_of.ensures.value
          ∙ (ap (max (cond (eqb (item_key t.owner t.id) q) (t.address + length t.bytes.items) 0)) (l.invariant.at q)
          ∙ (sym (last_end-push q (take n ts) t) ∙ ap (last_end q) (sym one)))));
      small = λ k d h. elim (cases_lt k n) [
        | inl a ↦ l.invariant.small k d a
        | inr g ↦
            let at : k ≡ n = omega (arith, g, h) in
            let P : Text → Type 0 = λ x. x.id < 4294967296 in
            subst P (c.t-item.is ∙ (get_or_default ts n t d c.loop-t-test.true ∙ ap (λ i. get_or ts i d) (sym at))) c.key_of_text.ensures.id
      ];
      low = λ q.
          let P : ℕ → Type 0 = λ m. m ≤ 8589934592 in
          subst P (sym (c.in_ok-keep_end.ensures q)) (max_low (eqb c.key_of_text.result q) e (old q) 8589934592 c.end_of.ensures.low (l.invariant.low q));
    }
