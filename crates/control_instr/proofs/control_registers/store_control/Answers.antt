-- One register more at each step.
use Rattle.std.proofs.Common.{ℕ, List, ◌+◌, ◌%◌, arith}
use Rattle.std.specs.Prelude.{slice_index}
use Rattle.byteorder.specs.Endian.{big_bytes}
use Rattle.control_instr.proofs.Words.{words_step}
use Rattle.control_instr.proofs.control_registers.store_control.Goals as goal

pub loop-k-preserved : goal.loop-k-preserved
loop-k-preserved c =
    let r = c.args.r.now in
    let d = c.args.d.now in
    let word : ℕ → List ℕ = λ k. big_bytes 4 (slice_index r.control ((d.r1 + k) % 16)) in
    let before = c.loop-k.stored.items in
    let after = c.append.new.list.items in
    record {
      items =
          words_step word c.loop-k.k before after c.append.ensures.items c.loop-k.invariant.items;
      len = omega (arith, c.append.ensures.len, c.loop-k.invariant.len);
    }
