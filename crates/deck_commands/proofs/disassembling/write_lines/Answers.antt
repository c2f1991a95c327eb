use Rattle.std.proofs.Common.{◌+◌, ◌-◌, List, ℕ, [], ◌++◌, refl, ◌∙◌, ap, arith}
use Rattle.asm_text.specs.Lines.{listing, on_next}
use Rattle.g5_outside.specs.declared.outside.Failed.{Failed}
use Rattle.g5_writing.proofs.Parts.{all_added, part_added, part_cut}
use Rattle.deck_commands.proofs.Lines.{none_left, one_less}
use Rattle.deck_commands.proofs.disassembling.write_lines.Goals as goal

pub returns-in-Err : goal.returns-in-Err
returns-in-Err g c =
    let s = c.args.storage.now in
    let n : ℕ = c.args.count in
    part_cut {T = Unit {0}} {U = Unit {0}} (listing s n c.args.from) (listing s (n - c.lines.made) c.lines.at)
    c.as_slice.result.now
    (on_next c.dis_line-line.result.1 (λ a. listing s (n - (c.lines.made + 1)) a))
    (g.O.Sink.seen c.args.out.now) (g.O.Sink.seen c.lines.out) (g.O.Sink.seen c.add_to_sink.new.out)
    c.in-Err.failed
    (one_less s c.dis_line-line.result.0.items c.as_slice.result.now n c.lines.made c.lines.at
    c.dis_line-line.result.1 c.as_slice.ensures.value c.lines-test.true c.dis_line-line.ensures.listing)
    c.lines.invariant c.in-Err.ensures

pub returns-in-None : goal.returns-in-None
returns-in-None g c =
    let s = c.args.storage.now in
    let n : ℕ = c.args.count in
    let text : List ℕ = c.as_slice.result.now in
    let e = one_less s c.dis_line-line.result.0.items text n c.lines.made c.lines.at
    c.dis_line-line.result.1 c.as_slice.ensures.value c.lines-test.true c.dis_line-line.ensures.listing
    ∙ ap (λ q. text ++ on_next q (λ a. listing s (n - (c.lines.made + 1)) a)) c.in-None.is in
    all_added {E = Failed} (listing s n c.args.from) [] (g.O.Sink.seen c.args.out.now)
    (g.O.Sink.seen c.add_to_sink.new.out) tt refl
    (part_added {E = Failed} (listing s n c.args.from) (listing s (n - c.lines.made) c.lines.at) text []
    (g.O.Sink.seen c.args.out.now) (g.O.Sink.seen c.lines.out) (g.O.Sink.seen c.add_to_sink.new.out)
    c.in-Ok.field-0 e c.lines.invariant c.in-Ok.ensures)

pub lines-preserved : goal.lines-preserved
lines-preserved g c =
    let s = c.args.storage.now in
    let n : ℕ = c.args.count in
    let text : List ℕ = c.as_slice.result.now in
    let e = one_less s c.dis_line-line.result.0.items text n c.lines.made c.lines.at
    c.dis_line-line.result.1 c.as_slice.ensures.value c.lines-test.true c.dis_line-line.ensures.listing
    ∙ ap (λ q. text ++ on_next q (λ a. listing s (n - (c.lines.made + 1)) a)) c.in-Some.is in
    part_added {E = Failed} (listing s n c.args.from) (listing s (n - c.lines.made) c.lines.at) text
    (listing s (n - (c.lines.made + 1)) c.in-Some.after) (g.O.Sink.seen c.args.out.now)
    (g.O.Sink.seen c.lines.out) (g.O.Sink.seen c.add_to_sink.new.out) c.in-Ok.field-0 e
    c.lines.invariant c.in-Ok.ensures

pub returns : goal.returns
returns g c =
    let s = c.args.storage.now in
    let n : ℕ = c.args.count in
    all_added {E = Failed} (listing s n c.args.from) (listing s (n - c.lines.made) c.lines.at)
    (g.O.Sink.seen c.args.out.now) (g.O.Sink.seen c.lines.out) tt
    (none_left s n c.lines.made c.lines.at (omega (arith, c.lines-test.false))) c.lines.invariant
