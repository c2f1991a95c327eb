use Rattle.std.proofs.Common.{◌+◌, ◌∙◌, sym}
use Rattle.run_model.specs.Migrate.{lines_from}
use Rattle.run_model.specs.Script.{lines}
use Rattle.service_log.specs.Migrating.{made}
use Rattle.service_log.proofs.Feeds.{ended_here}
use Rattle.service_log.proofs.migrating.with_lines.Goals as goal

pub returns-in_default-old_entry_of : goal.returns-in_default-old_entry_of
returns-in_default-old_entry_of c =
    ended_here c.args.fed (c.loop-line.number + 1) c.loop-line.text.items c.in-Some.line.now
    (lines c.in-Some.after.now) (lines c.loop-line.rest.now) c.last_tail.result
    (lines_from c.args.fed 2 c.args.text.items (lines c.args.from.now))
    (made (λ v. v.items) c.ended.result) c.loop-line.invariant.so c.in-Some.ensures.some
    (sym c.old_entry_of.ensures ∙ c.in_default-old_entry_of.is) c.last_tail.ensures
    c.ended.ensures
