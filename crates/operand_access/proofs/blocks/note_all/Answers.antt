use Rattle.std.proofs.Common.{◌≤◌, List, ℕ, subst, length}
use Rattle.operand_access.proofs.TwoBlocks.{room_for_next}
use Rattle.operand_access.proofs.blocks.note_all.Goals as goal

pub note-requires : goal.note-requires
note-requires c =
    let next = room_for_next c.args.r.now c.args.at c.args.offsets.now c.loop-k.blocks.items c.loop-k.k-index c.loop-k-test.true
    (subst (λ (bs : List ℕ). length bs ≤ 8) c.loop-k.invariant c.requires.room) in
    rw c.place_of.ensures next
