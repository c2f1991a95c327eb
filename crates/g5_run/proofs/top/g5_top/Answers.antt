use Rattle.g5_run.specs.Leaving.{beside, silicon_after}
use Rattle.std.specs.Prelude.{map, string_bytes}
use Rattle.g5_run.specs.Asked.{asked}
use Rattle.g5_run.proofs.Completing.{ends_complete}
use Rattle.g5_run.proofs.Consequences.{ends_untouched}
use Rattle.g5_run.proofs.Headed.{ends_headline, ends_lawful, ends_same}
use Rattle.g5_run.proofs.Searching.{ends_found, ends_missing}
use Rattle.g5_run.proofs.top.g5_top.Goals as goal

pub returns-clause-untouched : goal.returns-clause-untouched
returns-clause-untouched g c = λ early.
    ends_untouched (asked (map string_bytes c.args.words.now)) (g.F.Shelf.seen c.args.shelf.now)
    (g.F.Shelf.seen c.obey.new.shelf) (g.O.Sink.seen c.args.out.now)
    (g.O.Sink.seen c.obey.new.out) (g.E.Sink.seen c.args.err.now)
    (g.E.Sink.seen c.obey.new.err) (beside (silicon_after (g.Z.Silicon.seen c.obey.new.silicon)
    (g.Z.Silicon.tape c.args.silicon.now) (g.Z.Silicon.tape c.obey.new.silicon))
    (g.I.Source.seen c.args.keys.now) (g.I.Source.seen c.obey.new.keys)) c.obey.result
    c.obey.ensures.ends early

pub returns-clause-missing : goal.returns-clause-missing
returns-clause-missing g c = λ none.
    ends_missing (asked (map string_bytes c.args.words.now)) (g.F.Shelf.seen c.args.shelf.now)
    (g.F.Shelf.seen c.obey.new.shelf) (g.O.Sink.seen c.args.out.now)
    (g.O.Sink.seen c.obey.new.out) (g.E.Sink.seen c.args.err.now)
    (g.E.Sink.seen c.obey.new.err) (beside (silicon_after (g.Z.Silicon.seen c.obey.new.silicon)
    (g.Z.Silicon.tape c.args.silicon.now) (g.Z.Silicon.tape c.obey.new.silicon))
    (g.I.Source.seen c.args.keys.now) (g.I.Source.seen c.obey.new.keys)) c.obey.result
    c.obey.ensures.ends none

pub returns-clause-found : goal.returns-clause-found
returns-clause-found g c = λ d is reads early.
    ends_found (asked (map string_bytes c.args.words.now)) d
    (g.F.Shelf.seen c.args.shelf.now) (g.F.Shelf.seen c.obey.new.shelf)
    (g.O.Sink.seen c.args.out.now) (g.O.Sink.seen c.obey.new.out)
    (g.E.Sink.seen c.args.err.now) (g.E.Sink.seen c.obey.new.err)
    (beside (silicon_after (g.Z.Silicon.seen c.obey.new.silicon)
    (g.Z.Silicon.tape c.args.silicon.now) (g.Z.Silicon.tape c.obey.new.silicon))
    (g.I.Source.seen c.args.keys.now) (g.I.Source.seen c.obey.new.keys)) c.obey.result c.obey.ensures.ends is
    reads early

pub returns-clause-complete : goal.returns-clause-complete
returns-clause-complete g c = λ d is ok nf lines.
    ends_complete (asked (map string_bytes c.args.words.now)) d
    (g.F.Shelf.seen c.args.shelf.now) (g.F.Shelf.seen c.obey.new.shelf)
    (g.O.Sink.seen c.args.out.now) (g.O.Sink.seen c.obey.new.out)
    (g.E.Sink.seen c.args.err.now) (g.E.Sink.seen c.obey.new.err)
    (beside (silicon_after (g.Z.Silicon.seen c.obey.new.silicon)
    (g.Z.Silicon.tape c.args.silicon.now) (g.Z.Silicon.tape c.obey.new.silicon))
    (g.I.Source.seen c.args.keys.now) (g.I.Source.seen c.obey.new.keys)) c.obey.result c.obey.ensures.ends is ok nf
    lines

pub returns-clause-headline : goal.returns-clause-headline
returns-clause-headline g c = λ names config j is ok premise made.
    ends_headline (asked (map string_bytes c.args.words.now)) names config j
    (g.F.Shelf.seen c.args.shelf.now) (g.F.Shelf.seen c.obey.new.shelf)
    (g.O.Sink.seen c.args.out.now) (g.O.Sink.seen c.obey.new.out)
    (g.E.Sink.seen c.args.err.now) (g.E.Sink.seen c.obey.new.err)
    (beside (silicon_after (g.Z.Silicon.seen c.obey.new.silicon)
    (g.Z.Silicon.tape c.args.silicon.now) (g.Z.Silicon.tape c.obey.new.silicon))
    (g.I.Source.seen c.args.keys.now) (g.I.Source.seen c.obey.new.keys)) c.obey.result c.obey.ensures.ends is ok premise made

pub returns-clause-same : goal.returns-clause-same
returns-clause-same g c = λ names config j is ok premise done.
    ends_same (asked (map string_bytes c.args.words.now)) names config j
    (g.F.Shelf.seen c.args.shelf.now) (g.F.Shelf.seen c.obey.new.shelf)
    (g.O.Sink.seen c.args.out.now) (g.O.Sink.seen c.obey.new.out)
    (g.E.Sink.seen c.args.err.now) (g.E.Sink.seen c.obey.new.err)
    (beside (silicon_after (g.Z.Silicon.seen c.obey.new.silicon)
    (g.Z.Silicon.tape c.args.silicon.now) (g.Z.Silicon.tape c.obey.new.silicon))
    (g.I.Source.seen c.args.keys.now) (g.I.Source.seen c.obey.new.keys)) c.obey.result c.obey.ensures.ends is ok premise done

pub returns-clause-lawful : goal.returns-clause-lawful
returns-clause-lawful g c = λ names config is made.
    ends_lawful (asked (map string_bytes c.args.words.now)) names config
    (g.F.Shelf.seen c.args.shelf.now) (g.F.Shelf.seen c.obey.new.shelf)
    (g.O.Sink.seen c.args.out.now) (g.O.Sink.seen c.obey.new.out)
    (g.E.Sink.seen c.args.err.now) (g.E.Sink.seen c.obey.new.err)
    (beside (silicon_after (g.Z.Silicon.seen c.obey.new.silicon)
    (g.Z.Silicon.tape c.args.silicon.now) (g.Z.Silicon.tape c.obey.new.silicon))
    (g.I.Source.seen c.args.keys.now) (g.I.Source.seen c.obey.new.keys)) c.obey.result c.obey.ensures.ends is made
