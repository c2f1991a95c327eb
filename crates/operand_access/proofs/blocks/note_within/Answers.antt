use Rattle.std.proofs.Common.{arith}
use Rattle.operand_access.proofs.TwoBlocks.{two_more}
use Rattle.operand_access.proofs.blocks.note_within.Goals as goal

pub note_all-requires-clause-room : goal.note_all-requires-clause-room
note_all-requires-clause-room c =
    let most = two_more c.args.r.now c.args.at c.args.offsets.now c.args.blocks.now.items (λ i. let f = c.type_inv.offsets i in omega (arith, f)) in
    omega (arith, most)

pub returns-clause-room : goal.returns-clause-room
returns-clause-room c =
    let most = two_more c.args.r.now c.args.at c.args.offsets.now c.args.blocks.now.items (λ i. let f = c.type_inv.offsets i in omega (arith, f)) in
    rw c.note_all.ensures most
