use Rattle.std.proofs.Common.{◌≡◌, length, arith, subst, sym, List}
use Rattle.std.proofs.lemmas.Grind.{common_steps}
use Rattle.result_packet.specs.Pieces.{Holdable}
use Rattle.esa_model.specs.Apply.{Piece}
use Rattle.result_packet.proofs.PiecesStored.{holdable_more}
use Rattle.result_packet.proofs.pieces.add_piece.Goals as goal

pub returns-then-bytes-ne0-clause-holdable : goal.returns-then-bytes-ne0-clause-holdable
returns-then-bytes-ne0-clause-holdable c =
    let bytes : c.try_extend_from_slice.new.self.items ≡ c.args.bytes.now = grind (arith, common_steps) in
    let len : length c.try_extend_from_slice.new.self.items ≡ length c.args.bytes.now = grind (arith, common_steps) in
    subst (λ (ps : List Piece). Holdable c.args.size ps) (sym c.push.ensures.items)
    (holdable_more c.args.size c.args.list.now.items (record { at = c.args.at; bytes = c.try_extend_from_slice.new.self.items }) c.requires.holdable
    (let ne = c.if-bytes-ne0.true in omega (arith, len, ne)) (let most = c.requires.most in omega (arith, len, most)) (let f = c.if-at-bytes.true in omega (arith, len, f)))
