use Rattle.std.proofs.Common.{◌≡◌, List, ℕ, ap, ◌∙◌}
use Rattle.esa_model.specs.Latch.{unit_latch}
use Rattle.esa_model.specs.Line.{Side}
use Rattle.esa_model.specs.Psw.{address}
use Rattle.esa_model.specs.Unit.{fetch_code}
use Rattle.operand_access.specs.Fetch.{front, fetched_count}
use Rattle.operand_access.specs.Seen.{memory}
use Rattle.twin_units.proofs.Latched.{refused_known}
use Rattle.twin_units.proofs.latching.unit_bytes.Goals as goal

pub returns-else-fetched-eq0-clause-bytes : goal.returns-else-fetched-eq0-clause-bytes
returns-else-fetched-eq0-clause-bytes g c =
    let s : List ℕ = g.V.View.bytes c.args.view.now in
    let r = c.args.r.now in
    let m = memory s c.side.inside.keys in
    let f = c.instruction-fetched in
    let here : c.address.result ≡ address r.psw = c.address.ensures.address in
    c.bytes_of-else-fetched-eq0.ensures
    ∙ (refused_known r m f.result.fault f.result.bytes
    (f.ensures.fault ∙ ap (λ (n : ℕ). fetch_code r m n) here)
    (f.ensures.bytes ∙ ap (λ (n : ℕ). front r s n (fetched_count r m n)) here)
    c.if-fetched-eq0.false
    ∙ ap (λ (side : Side). unit_latch r (memory s side.keys)) c.side.view_is)
