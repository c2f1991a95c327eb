use Rattle.seen_memory.proofs.Holding.{drop_kept, hold_room, hold_seen, drop_held}
use Rattle.seen_memory.proofs.Unused.{hold_unused}
use Rattle.seen_memory.proofs.memory.drop_at.Goals as goal

pub returns-clause-kept : goal.returns-clause-kept
returns-clause-kept c =
    drop_kept c.args.buffers.now c.args.storage.now c.args.i c.index-buffers-i.result c.drop_uncommitted.new.self c.requires.kept c.requires.i c.drop_uncommitted.ensures.committed c.drop_uncommitted.ensures.held

pub returns-clause-room : goal.returns-clause-room
returns-clause-room c = hold_room c.args.buffers.now c.args.i c.index-buffers-i.result c.drop_uncommitted.new.self c.requires.i c.drop_uncommitted.ensures.committed c.requires.room

pub returns-clause-seen : goal.returns-clause-seen
returns-clause-seen c = hold_seen c.args.buffers.now c.args.storage.now c.args.i c.index-buffers-i.result c.drop_uncommitted.new.self c.requires.i c.drop_uncommitted.ensures.committed

pub returns-clause-held : goal.returns-clause-held
returns-clause-held c = drop_held c.args.buffers.now c.args.i c.index-buffers-i.result c.drop_uncommitted.new.self c.requires.i c.drop_uncommitted.ensures.held

pub returns-clause-unused : goal.returns-clause-unused
returns-clause-unused c =
    hold_unused c.args.buffers.now c.args.i c.index-buffers-i.result c.drop_uncommitted.new.self c.requires.i c.drop_uncommitted.ensures.committed
