use Rattle.std.proofs.Common.{◌≡◌, ℕ, length, get_or, zero-add, ◌∙◌, ap}
use Rattle.std.proofs.lemmas.List.{length-replicate}
use Rattle.deck_model.specs.Image.{image_byte, bytes_from}
use Rattle.deck_cards.proofs.RunBytes.{byte_at}
use Rattle.deck_loader.proofs.Text.{length-bytes_from}
use Rattle.deck_loader.specs.Listed.{listed}
use Rattle.deck_link.proofs.parts.image_of.Goals as goal

pub returns-clause-long : goal.returns-clause-long
returns-clause-long c =
    let f : ℕ → ℕ = image_byte (listed c.args.deck.now.lists) c.args.deck.now.placed.items in
    let n : ℕ = length c.in_ok-storage.storage in
    let e : n ≡ c.args.size = ap length c.in_ok-storage.ensures ∙ length-replicate c.args.size 0 in
    ap length c.carry_out.ensures ∙ (length-bytes_from f 0 n ∙ e)

pub returns-clause-bytes : goal.returns-clause-bytes
returns-clause-bytes c =
    let f : ℕ → ℕ = image_byte (listed c.args.deck.now.lists) c.args.deck.now.placed.items in
    let n : ℕ = length c.in_ok-storage.storage in
    let e : n ≡ c.args.size = ap length c.in_ok-storage.ensures ∙ length-replicate c.args.size 0 in
    λ k h. ap (λ xs. get_or xs k 0) (c.carry_out.ensures ∙ ap (bytes_from f 0) e)
    ∙ (byte_at f 0 c.args.size k h ∙ ap f (zero-add k))
