use Rattle.std.proofs.Common.{◌≡◌, ℕ, ◌+◌, ◌-◌, sym, ◌∙◌, arith}
use Rattle.deck_link.specs.Marks.{tag}
use Rattle.deck_link.proofs.Marks.{stored_set, set_length}
use Rattle.deck_link.proofs.clashes.mark_constant.Goals as goal

pub loop-i-preserved : goal.loop-i-preserved
loop-i-preserved c =
    let l = c.loop-i in
    let w : ℕ = c.args.width in
    let n : w - l.i ≡ w - (l.i + 1) + 1 = omega arith in
    let a : c.args.at + c.from.result ≡ c.args.at + l.i = omega arith in
    let b : c.args.at + (l.i + 1) ≡ c.args.at + l.i + 1 = omega arith in
    record {
      so = sym (stored_set (tag w) (c.args.at + c.from.result) (c.args.at + l.i) (c.args.at + (l.i + 1)) l.i (w - l.i) (w - (l.i + 1)) c.tag_of.result l.marks a n b c.tag_of.ensures) ∙ l.invariant.so;
      long = set_length l.marks (c.args.at + c.from.result) c.tag_of.result ∙ l.invariant.long;
    }
