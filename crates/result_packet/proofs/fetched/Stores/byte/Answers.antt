use Rattle.std.proofs.Common.{ℕ, List, sym, ap, ◌∙◌}
use Rattle.std.specs.Prelude.{slice_get}
use Rattle.std.specs.Option.{unwrap_or}
use Rattle.esa_model.specs.Access.{byte}
use Rattle.result_packet.specs.Fetched.{stored_by}
use Rattle.result_packet.proofs.AfterStores.{inside_after}
use Rattle.result_packet.proofs.fetched.Stores.byte.Goals as goal

pub returns-in-Some-clause-byte : goal.returns-in-Some-clause-byte
unfolding byte
returns-in-Some-clause-byte g c =
    let s : List ℕ = g.V.View.bytes c.args.view.now in
    let after : List ℕ = stored_by c.args.r.now c.args.self.now s in
    let here = sym c.byte.ensures.byte ∙ c.in-Some.is in
    sym (inside_after c.args.r.now c.args.self.now c.place_of-a.result c.in-Some.before c.overlay.result s here c.overlay.ensures)
    ∙ ap (λ (p : ℕ). unwrap_or (slice_get after p) 0) c.place_of-a.ensures
