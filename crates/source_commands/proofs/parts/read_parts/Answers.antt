use Rattle.std.proofs.Common.{◌<◌, ◌≤◌, [], length, map, get_or, subst, arith}
use Rattle.std.proofs.lemmas.List.{get_or-map, length-map, take_all}
use Rattle.g5_reading.proofs.ReadLoop.{only_more}
use Rattle.source_commands.specs.Parts.{AreParts}
use Rattle.source_commands.proofs.Reaching.{more_parts, none_read, part_unread}
use Rattle.source_commands.proofs.parts.read_parts.Goals as goal

pub parts-init : goal.parts-init
parts-init g c =
    none_read (map (λ n. n.now) c.args.names.now) (g.F.Shelf.seen c.args.shelf.now)
    c.new-bytes.result.items c.new-bytes.ensures.items

pub add_part-requires : goal.add_part-requires
add_part-requires g c = c.parts.invariant.read.bound

pub returns-in-Err-clause-only : goal.returns-in-Err-clause-only
returns-in-Err-clause-only g c =
    only_more (g.F.Shelf.seen c.args.shelf.now) (g.F.Shelf.seen c.parts.shelf)
    (g.F.Shelf.seen c.add_part.new.shelf) c.parts.invariant.only c.in-Err.ensures.only

pub returns-in-Err-clause-refusal : goal.returns-in-Err-clause-refusal
returns-in-Err-clause-refusal g c =
    let ns = c.args.names.now in
    let names = map (λ n. n.now) ns in
    let inside : c.parts.part < length names = rw (length-map ns (λ n. n.now)) c.parts-test.true in
    part_unread names c.parts.part
    (get_or ns c.parts.part record { ref_ptr = (0, 0); now = [] }).now
    (g.F.Shelf.seen c.args.shelf.now) (g.F.Shelf.seen c.parts.shelf)
    (g.F.Shelf.seen c.add_part.new.shelf) c.parts.bytes.items c.in-Err.status inside
    (get_or-map (λ n. n.now) ns c.parts.part (record { ref_ptr = (0, 0); now = [] }) []
    c.parts-test.true) c.parts.invariant c.in-Err.ensures.refusal

pub parts-preserved : goal.parts-preserved
parts-preserved g c =
    let ns = c.args.names.now in
    let names = map (λ n. n.now) ns in
    let inside : c.parts.part < length names = rw (length-map ns (λ n. n.now)) c.parts-test.true in
    more_parts names c.parts.part
    (get_or ns c.parts.part record { ref_ptr = (0, 0); now = [] }).now
    (g.F.Shelf.seen c.args.shelf.now) (g.F.Shelf.seen c.parts.shelf)
    (g.F.Shelf.seen c.add_part.new.shelf) c.parts.bytes.items c.add_part.new.bytes.items inside
    (get_or-map (λ n. n.now) ns c.parts.part (record { ref_ptr = (0, 0); now = [] }) []
    c.parts-test.true) c.parts.invariant c.in-Ok.ensures.only c.in-Ok.ensures.added
    c.in-Ok.ensures.found

pub returns-clause-read : goal.returns-clause-read
returns-clause-read g c =
    let names = map (λ n. n.now) c.args.names.now in
    let all : length names ≤ c.parts.part =
    rw (length-map c.args.names.now (λ n. n.now)) c.parts-test.false in
    subst (λ ns. AreParts ns (g.F.Shelf.seen c.args.shelf.now) c.parts.bytes.items)
    (take_all c.parts.part names all) c.parts.invariant.read

pub returns-clause-found : goal.returns-clause-found
returns-clause-found g c =
    c.parts.invariant.found (omega (arith, c.parts-test.false, c.requires.some))
