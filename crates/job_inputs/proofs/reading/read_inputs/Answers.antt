use Rattle.std.proofs.Common.{refl}
use Rattle.std.proofs.lemmas.Result.{err_from_is_err_and}
use Rattle.g5_reading.proofs.ReadLoop.{only_same, only_more}
use Rattle.g5_words.specs.Asked.{session_names}
use Rattle.program_model.specs.declared.inputs.Input.TheVariants.{Deck, Console, Schedule, Script}
use Rattle.job_inputs.proofs.InputReads.{in_before, unread}
use Rattle.job_inputs.proofs.reading.read_inputs.Goals as goal

pub returns-in_err-deck-clause-refusal : goal.returns-in_err-deck-clause-refusal
returns-in_err-deck-clause-refusal g c =
    let p = err_from_is_err_and c.from_residual.result c.from_residual.ensures.1 in
    let names = session_names c.args.names.now in
    let a = g.F.Shelf.seen c.args.shelf.now in
    rw (p.1, p.2) (unread Deck names a a _ _ (only_same a) tt c.in_err-deck.ensures.refusal)

pub returns-in_err-console-clause-refusal : goal.returns-in_err-console-clause-refusal
returns-in_err-console-clause-refusal g c =
    let residual = c.from_residual-in_err-console in
    let p = err_from_is_err_and residual.result residual.ensures.1 in
    let names = session_names c.args.names.now in
    let a = g.F.Shelf.seen c.args.shelf.now in
    let deck = c.in_ok-deck in
    rw (p.1, p.2) (unread Console names a _ _ _ deck.ensures.only
    (deck.deck.items, deck.ensures.bytes) c.in_err-console.ensures.refusal)

pub returns-in_err-schedule-clause-refusal : goal.returns-in_err-schedule-clause-refusal
returns-in_err-schedule-clause-refusal g c =
    let residual = c.from_residual-in_err-schedule in
    let p = err_from_is_err_and residual.result residual.ensures.1 in
    let names = session_names c.args.names.now in
    let a = g.F.Shelf.seen c.args.shelf.now in
    let b = g.F.Shelf.seen c.read_input.new.shelf in
    let d = g.F.Shelf.seen c.read_input-2.new.shelf in
    let deck = c.in_ok-deck in
    let console = c.in_ok-console in
    let o1 = deck.ensures.only in
    let o2 = only_more a b d o1 console.ensures.only in
    rw (p.1, p.2) (unread Schedule names a d _ _ o2 (
      (deck.deck.items, deck.ensures.bytes),
      (console.console.items, in_before _ _ a b _ o1 console.ensures.bytes),
    ) c.in_err-schedule.ensures.refusal)

pub returns-in_err-script-clause-refusal : goal.returns-in_err-script-clause-refusal
returns-in_err-script-clause-refusal g c =
    let residual = c.from_residual-in_err-script in
    let p = err_from_is_err_and residual.result residual.ensures.1 in
    let names = session_names c.args.names.now in
    let a = g.F.Shelf.seen c.args.shelf.now in
    let b = g.F.Shelf.seen c.read_input.new.shelf in
    let d = g.F.Shelf.seen c.read_input-2.new.shelf in
    let e = g.F.Shelf.seen c.read_input-3.new.shelf in
    let deck = c.in_ok-deck in
    let console = c.in_ok-console in
    let schedule = c.in_ok-schedule in
    let o1 = deck.ensures.only in
    let o2 = only_more a b d o1 console.ensures.only in
    let o3 = only_more a d e o2 schedule.ensures.only in
    rw (p.1, p.2) (unread Script names a e _ _ o3 (
      (deck.deck.items, deck.ensures.bytes),
      (console.console.items, in_before _ _ a b _ o1 console.ensures.bytes),
      (schedule.schedule.items, in_before _ _ a d _ o2 schedule.ensures.bytes),
    ) c.in_err-script.ensures.refusal)

pub returns-clause-read : goal.returns-clause-read
returns-clause-read g c =
    let a = g.F.Shelf.seen c.args.shelf.now in
    let b = g.F.Shelf.seen c.read_input.new.shelf in
    let d = g.F.Shelf.seen c.read_input-2.new.shelf in
    let e = g.F.Shelf.seen c.read_input-3.new.shelf in
    let o1 = c.in_ok-deck.ensures.only in
    let o2 = only_more a b d o1 c.in_ok-console.ensures.only in
    let o3 = only_more a d e o2 c.in_ok-schedule.ensures.only in
    record {
      deck_is = c.in_ok-deck.ensures.bytes;
      console_is = in_before _ _ a b _ o1 c.in_ok-console.ensures.bytes;
      schedule_is = in_before _ _ a d _ o2 c.in_ok-schedule.ensures.bytes;
      script_is = in_before _ _ a e _ o3 c.in_ok-script.ensures.bytes;
    }
