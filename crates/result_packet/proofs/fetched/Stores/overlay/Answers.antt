-- Three stores, one after the other.
use Rattle.std.proofs.Common.{◌≡◌, ℕ, List, length, get_or, sym, subst, arith}
use Rattle.esa_model.specs.Access.{written}
use Rattle.operand_access.proofs.Over.{length-written}
use Rattle.result_packet.specs.Fetched.{Stores, stored_by}
use Rattle.result_packet.proofs.fetched.Stores.overlay.Goals as goal

pub returns : goal.returns
returns c = λ storage h e.
    let t = c.self.inside in
    let s1 : List ℕ = written c.args.r.now t.to t.operand.now storage in
    let s2 : List ℕ = written c.args.r.now t.old_at c.as_slice.result.now s1 in
    let l1 : length s1 ≡ length storage = length-written c.args.r.now t.to t.operand.now storage in
    let l2 : length s2 ≡ length s1 = length-written c.args.r.now t.old_at c.as_slice.result.now s1 in
    let e1 = c.overlaid-first.ensures storage h e in
    let e2 = c.overlaid-second.ensures s1 (omega (arith, h, l1)) (sym e1) in
    subst (λ (u : Stores). c.overlaid.result ≡ get_or (stored_by c.args.r.now u storage) c.args.a 0) c.self.view_is
    (rw (← c.as_slice.ensures.value, ← c.as_slice-2.ensures.value) (c.overlaid.ensures s2 (omega (arith, h, l1, l2)) (sym e2)))
