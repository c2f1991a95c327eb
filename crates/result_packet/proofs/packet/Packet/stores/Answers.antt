use Rattle.std.proofs.Common.{◌≡◌, length, arith, ap, List, ℕ}
use Rattle.esa_model.specs.Packet.{read}
use Rattle.esa_model.specs.Apply.{first_bytes, second_bytes}
use Rattle.result_packet.proofs.Tail.{pieces_short}
use Rattle.result_packet.proofs.packet.Packet.stores.Goals as goal

pub add_piece-requires-clause-most : goal.add_piece-requires-clause-most
add_piece-requires-clause-most c =
    let short = pieces_short c.args.self.now in
    let one : length c.first_of.result.now ≡ length (first_bytes (read c.args.self.now)) = ap (λ (xs : List ℕ). length xs) c.first_of.ensures.bytes in
    omega (arith, short, one)

pub add_piece-requires-2-clause-most : goal.add_piece-requires-2-clause-most
add_piece-requires-2-clause-most c =
    let short = pieces_short c.args.self.now in
    let other : length c.second_of.result.now ≡ length (second_bytes (read c.args.self.now)) = ap (λ (xs : List ℕ). length xs) c.second_of.ensures.bytes in
    omega (arith, short, other)
