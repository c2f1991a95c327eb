-- What fits a packet: each number in its width.
-- Source: choice of this project.
use Rattle.std.specs.Prelude.{◌≡◌, ◌^◌, ◌<◌, All, length}
use Rattle.esa_model.specs.Packet.{Fields}

pub record IsFine (f : Fields) : Type 0 where
  pub general : All (λ w. w < 2 ^ 32) f.registers.general
  pub generals : length f.registers.general ≡ 16
  pub control : All (λ w. w < 2 ^ 32) f.registers.control
  pub controls : length f.registers.control ≡ 16
  pub clocks : All (λ d. d < 2 ^ 64) f.registers.clocks
  pub four : length f.registers.clocks ≡ 4
  pub w0 : f.registers.psw.w0 < 2 ^ 32
  pub w1 : f.registers.psw.w1 < 2 ^ 32
  pub prefix : f.registers.prefix < 2 ^ 32
  pub kind : f.kind < 256
  pub old0 : f.old.w0 < 2 ^ 32
  pub old1 : f.old.w1 < 2 ^ 32
  pub identification : f.identification < 2 ^ 32
  pub request : f.request < 256
  pub sender : f.sender < 256
  pub order_to : f.order_to < 256
  pub order : f.order < 256
  pub block : f.block < 65536
  pub key : f.key < 256
  pub console : f.console < 256
  pub count : f.count < 65536
  pub first_len : f.first_len < 65536
  pub first_at : f.first_at < 2 ^ 32
  pub second_len : f.second_len < 65536
  pub second_at : f.second_at < 2 ^ 32
  pub block_count : f.block_count < 256
  pub blocks : All (λ b. b < 65536) f.blocks
  pub eight : length f.blocks ≡ 8
  pub tail : length f.tail ≡ 256
