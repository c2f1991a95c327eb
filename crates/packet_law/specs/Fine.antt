-- What fits a packet, which the definition of `packed` says.
pub use Rattle.result_packet.specs.Fine.{IsFine}
