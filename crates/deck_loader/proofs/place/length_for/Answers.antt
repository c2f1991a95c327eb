use Rattle.std.proofs.Common.{ℕ, ◌-◌, ap, ◌∙◌, sym, arith}
use Rattle.deck_loader.specs.Indexed.{last_end}
use Rattle.deck_loader.specs.Keys.{item_key}
use Rattle.deck_loader.proofs.Farthest.{farthest_is, length_far}
use Rattle.deck_loader.proofs.place.length_for.Goals as goal

pub returns-clause-value : goal.returns-clause-value
returns-clause-value c =
    let s = c.args.s.now in
    let ts = c.args.texts.now in
    let q : ℕ = item_key s.owner s.id in
    length_far s ts c.saturating_sub.result c.if-s-ne0.false
    (c.saturating_sub.ensures
    ∙ (ap (λ e. e - c.from-2.result) (c.end_at.ensures ∙ (c.requires.at c.key_of.result ∙ ap (λ k. last_end k ts) c.key_of.ensures))
    ∙ (ap (λ a. last_end q ts - a) c.from-2.ensures ∙ sym (farthest_is s ts (omega arith) c.requires.small))))
