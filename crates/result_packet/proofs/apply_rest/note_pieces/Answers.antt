use Rattle.std.proofs.Common.{◌≡◌, ℕ, List, ap, length, arith}
use Rattle.esa_model.specs.Packet.{read}
use Rattle.esa_model.specs.Apply.{first_bytes, second_bytes}
use Rattle.result_packet.proofs.Tail.{pieces_short}
use Rattle.result_packet.proofs.apply_rest.note_pieces.Goals as goal

pub note_piece-requires : goal.note_piece-requires
note_piece-requires g c =
    let short = pieces_short c.args.p.now in
    let one : length c.first_of.result.now ≡ length (first_bytes (read c.args.p.now)) = ap (λ (xs : List ℕ). length xs) c.first_of.ensures.bytes in
    omega (arith, short, one)

pub note_piece-requires-2 : goal.note_piece-requires-2
note_piece-requires-2 g c =
    let short = pieces_short c.args.p.now in
    let one : length c.first_of.result.now ≡ length (first_bytes (read c.args.p.now)) = ap (λ (xs : List ℕ). length xs) c.first_of.ensures.bytes in
    let other : length c.second_of.result.now ≡ length (second_bytes (read c.args.p.now)) = ap (λ (xs : List ℕ). length xs) c.second_of.ensures.bytes in
    let room = c.note_piece.ensures.room in
    omega (arith, short, one, other, room)

pub returns-clause-room : goal.returns-clause-room
returns-clause-room g c =
    let short = pieces_short c.args.p.now in
    let one : length c.first_of.result.now ≡ length (first_bytes (read c.args.p.now)) = ap (λ (xs : List ℕ). length xs) c.first_of.ensures.bytes in
    let other : length c.second_of.result.now ≡ length (second_bytes (read c.args.p.now)) = ap (λ (xs : List ℕ). length xs) c.second_of.ensures.bytes in
    let room = c.note_piece.ensures.room in
    let more = c.note_piece-2.ensures.room in
    omega (arith, short, one, other, room, more)
