use Rattle.std.proofs.Common.{sym, ◌∙◌}
use Rattle.cached_storage.proofs.Spans.{oldest_stored}
use Rattle.cached_storage.proofs.caches.invalidate_oldest.Goals as goal

pub returns-in-Some : goal.returns-in-Some
returns-in-Some c = λ s was.
    oldest_stored c.args.caches.now c.invalidate_line.new.caches c.invalidate_line-in-Some.new.caches c.args.buffer.now.committed c.in-Some.span s
    (sym c.oldest.ensures.span ∙ c.in-Some.is) c.in-Some.ensures.some c.in-Some.ensures.most
    c.invalidate_line.ensures c.invalidate_line-in-Some.ensures was
