use Rattle.std.proofs.Common.{ℕ, ◌∷◌, [], ◌++◌, ◌+◌, ◌∙◌, ap, sym, refl, arith, get_or}
use Rattle.deck_model.specs.Image.{bytes_from}
use Rattle.deck_loader.proofs.Text.{bytes_from-push}
use Rattle.deck_loader.proofs.bytes.constant_bytes.Goals as goal

pub loop-i-preserved : goal.loop-i-preserved
loop-i-preserved c =
    let l = c.loop-i in
    let f : ℕ → ℕ = λ k. get_or c.args.storage.now k 0 in
    record {
      so = c.push.ensures.items
          ∙ (ap (λ xs. xs ++ c.byte_at.result ∷ []) l.invariant.so
          ∙ (ap (λ b. bytes_from f c.args.at l.i ++ b ∷ []) c.byte_at.ensures ∙ (ap (λ k. bytes_from f c.args.at l.i ++ f (c.args.at + k) ∷ []) c.from.ensures ∙ sym (bytes_from-push f c.args.at l.i (l.i + 1) refl))));
      long = omega arith;
    }
