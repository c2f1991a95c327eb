-- An event of typed values: clock words, words, halfwords and bytes, over a storage of bytes.
-- Source: choice of this project.
use Rattle.std.specs.Prelude.{◌≡◌, ◌^◌, ◌<◌, ℕ, List, All, length}
use Rattle.esa_model.specs.PacketCodes.{taken_sender, key_block, key_byte, order_number, order_target}
use Rattle.esa_model.specs.Unit.{Done}

pub record HasWidths (d : Done) (storage : List ℕ) : Type 0 where
  pub general : All (λ w. w < 2 ^ 32) d.registers.general
  pub generals : length d.registers.general ≡ 16
  pub control : All (λ w. w < 2 ^ 32) d.registers.control
  pub controls : length d.registers.control ≡ 16
  pub clocks : All (λ d. d < 2 ^ 64) d.registers.clocks
  pub four : length d.registers.clocks ≡ 4
  pub w0 : d.registers.psw.w0 < 2 ^ 32
  pub w1 : d.registers.psw.w1 < 2 ^ 32
  pub prefix : d.registers.prefix < 2 ^ 32
  pub stored : All (λ b. b < 256) d.stored
  pub blocks : All (λ b. b < 65536) d.blocks
  pub block : key_block d.set_key < 65536
  pub key : key_byte d.set_key < 256
  pub identification : d.identification < 2 ^ 32
  pub sender : taken_sender d.taken < 256
  pub order : order_number d.sent < 256
  pub order_to : order_target d.sent < 256
  pub bytes : All (λ b. b < 256) storage
