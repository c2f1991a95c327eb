-- One register more at each step, and all of them at the end.
use Rattle.std.proofs.Common.{◌<◌, ◌≢◌, ℕ, length, arith, below_more, get_or-set_other, get_or-set_same}
use Rattle.std.proofs.lemmas.List.{length-set}
use Rattle.std.proofs.lemmas.List.FromFn.{fill_by_all}
use Rattle.esa_model.specs.ControlRows.{loaded_register}
use Rattle.control_instr.proofs.control_registers.load_all.Goals as goal

pub loop-n-preserved : goal.loop-n-preserved
loop-n-preserved c = record {
  len = simp length-set c.loop-n.invariant.len;
  below =
      below_more _ _
      (λ k h.
      let ne : k ≢ c.loop-n.n = omega arith in
      rw get_or-set_other (c.loop-n.invariant.below k h))
      (let lt : c.loop-n.n < length c.loop-n.control = omega arith in
      rw get_or-set_same c.load_register.ensures);
}

pub returns : goal.returns
returns c =
    let all : (k : ℕ) → k < 16 → _ = λ k h. c.loop-n.invariant.below k (omega arith) in
    let each = loaded_register c.args.r.now c.args.d.now c.args.operand.now in
    fill_by_all each c.loop-n.control 16 0 c.loop-n.invariant.len all
