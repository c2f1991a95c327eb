use Rattle.std.proofs.Common.{◌∙◌, length, arith}
use Rattle.seen_memory.proofs.Groups.{release_kept, release_none, release_seen, release_room}
use Rattle.seen_memory.proofs.Unused.{release_unused}
use Rattle.seen_memory.proofs.buffers.commit_held.Goals as goal

pub make_room-requires-clause-kept : goal.make_room-requires-clause-kept
make_room-requires-clause-kept c =
    release_kept c.args.i (length c.args.buffers.now) c.args.buffers.now c.settle.new.buffers c.release_at.new.buffers c.args.storage.now c.settle.new.storage
    c.settle.ensures (omega arith) c.requires.i c.release_at.ensures

pub make_room-requires-clause-none : goal.make_room-requires-clause-none
make_room-requires-clause-none c =
    release_none c.args.i (length c.args.buffers.now) c.args.buffers.now c.settle.new.buffers c.release_at.new.buffers c.args.storage.now c.settle.new.storage
    c.settle.ensures (omega arith) c.requires.i c.release_at.ensures

pub returns-clause-room : goal.returns-clause-room
returns-clause-room c =
    release_room c.args.i (length c.args.buffers.now) c.args.buffers.now c.settle.new.buffers c.release_at.new.buffers c.make_room.new.buffers c.args.storage.now c.settle.new.storage c.make_room.new.storage
    c.settle.ensures (omega arith) c.requires.i c.release_at.ensures c.make_room.ensures.drained c.make_room.ensures.room c.requires.room

pub returns-clause-seen : goal.returns-clause-seen
returns-clause-seen c =
    release_seen c.args.i (length c.args.buffers.now) c.args.buffers.now c.settle.new.buffers c.release_at.new.buffers c.make_room.new.buffers c.args.storage.now c.settle.new.storage c.make_room.new.storage
    c.settle.ensures (omega arith) c.requires.i c.release_at.ensures c.make_room.ensures.drained

pub returns-clause-none : goal.returns-clause-none
returns-clause-none c =
    c.make_room.ensures.drained.held c.args.i
    ∙ release_none c.args.i (length c.args.buffers.now) c.args.buffers.now c.settle.new.buffers c.release_at.new.buffers c.args.storage.now c.settle.new.storage
    c.settle.ensures (omega arith) c.requires.i c.release_at.ensures

pub returns-clause-unused : goal.returns-clause-unused
returns-clause-unused c =
    release_unused c.args.i (length c.args.buffers.now) c.args.buffers.now c.settle.new.buffers c.release_at.new.buffers c.make_room.new.buffers c.args.storage.now c.settle.new.storage c.make_room.new.storage
    c.settle.ensures (omega arith) c.requires.i c.release_at.ensures c.make_room.ensures.drained
