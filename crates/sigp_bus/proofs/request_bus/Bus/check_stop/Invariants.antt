use Rattle.std.proofs.Common.{◌≡◌, ◌++◌, length, take, drop}
use Rattle.esa_model.specs.Bus.{alerted}
use Rattle.sigp_bus.proofs.request_bus.Bus.check_stop.Given as goal

abbrev pub invariant-loop-k : goal.invariant-loop-k
invariant-loop-k l = record {
  kept : length l.self ≡ length l.fn.self;
  done : alerted l.cpu.0 0 l.fn.self ≡ take l.k l.self ++ alerted l.cpu.0 l.k (drop l.k l.self);
}
