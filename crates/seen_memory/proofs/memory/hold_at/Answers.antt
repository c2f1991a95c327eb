use Rattle.std.proofs.Common.{[], ◌∷◌, arith}
use Rattle.seen_memory.proofs.Holding.{hold_room, hold_seen, hold_held}
use Rattle.seen_memory.proofs.Groups.{now_of, held_of}
use Rattle.seen_memory.proofs.Unused.{hold_unused}
use Rattle.seen_memory.proofs.memory.hold_at.Goals as goal

pub hold-requires-clause-free : goal.hold-requires-clause-free
hold-requires-clause-free c =
    rw (← now_of c.args.buffers.now c.args.i c.index-buffers-i.result c.requires.i, ← held_of c.args.buffers.now c.args.i c.index-buffers-i.result c.requires.i)
    (let r = c.requires.room c.args.i in let f = c.requires.few in omega (arith, r, f))

pub returns-clause-room : goal.returns-clause-room
returns-clause-room c = hold_room c.args.buffers.now c.args.i c.index-buffers-i.result c.hold.new.self c.requires.i c.hold.ensures.committed c.requires.room

pub returns-clause-seen : goal.returns-clause-seen
returns-clause-seen c = hold_seen c.args.buffers.now c.args.storage.now c.args.i c.index-buffers-i.result c.hold.new.self c.requires.i c.hold.ensures.committed

pub returns-clause-held : goal.returns-clause-held
returns-clause-held c =
    hold_held c.args.buffers.now c.args.i c.index-buffers-i.result c.hold.new.self (record { at = c.args.at; bytes = c.args.bytes.now } ∷ []) c.requires.i c.hold.ensures.held

pub returns-clause-unused : goal.returns-clause-unused
returns-clause-unused c =
    hold_unused c.args.buffers.now c.args.i c.index-buffers-i.result c.hold.new.self c.requires.i c.hold.ensures.committed
