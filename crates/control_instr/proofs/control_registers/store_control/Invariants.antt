use Rattle.std.proofs.Common.{◌≡◌, ℕ, ◌+◌, ◌*◌, ◌%◌, List}
use Rattle.std.specs.Prelude.{slice_index}
use Rattle.std.specs.List.{range_with_len, flat_map}
use Rattle.arrayvec.specs.ArrayVec.{array_vec_len}
use Rattle.byteorder.specs.Endian.{big_bytes}
use Rattle.control_instr.proofs.control_registers.store_control.Given as goal

-- the words of the registers from R1 on, as many as were taken
abbrev pub invariant-loop-k : goal.invariant-loop-k
invariant-loop-k l = record {
  items :
      let word : ℕ → List ℕ = λ k. big_bytes 4 (slice_index l.r.control ((l.d.r1 + k) % 16)) in
      l.stored.items ≡ flat_map word (range_with_len 0 l.k);
  len : array_vec_len l.stored ≡ 4 * l.k;
}
