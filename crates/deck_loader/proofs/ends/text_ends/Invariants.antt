use Rattle.std.proofs.Common.{◌≡◌, ◌≤◌, ℕ, ◌<◌, take, get_or}
use Rattle.std.specs.BTreeMap.{get}
use Rattle.std.specs.Ordering.{nat_cmp}
use Rattle.deck_model.specs.Image.{or_zero}
use Rattle.deck_model.specs.declared.decks.Text.{Text}
use Rattle.deck_loader.specs.Indexed.{last_end}
use Rattle.deck_loader.proofs.ends.text_ends.Given as goal

abbrev pub invariant-loop-t : goal.invariant-loop-t
invariant-loop-t l = record {
  at : (q : ℕ) → or_zero (get nat_cmp l.ends q) ≡ last_end q (take l.t-index l.texts);
  small : (k : ℕ) (d : Text) → k < l.t-index → (get_or l.texts k d).id < 4294967296;
  low : (q : ℕ) → or_zero (get nat_cmp l.ends q) ≤ 8589934592;
}
