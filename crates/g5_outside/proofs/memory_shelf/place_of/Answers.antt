use Rattle.std.proofs.Common.{◌≡◌, true, arith, subst, string_bytes}
use Rattle.std.specs.Str.{bytes_eq}
use Rattle.g5_outside.proofs.Places.{named_here}
use Rattle.g5_outside.proofs.memory_shelf.place_of.Goals as goal
use Rattle.g5_outside.specs.declared.memory_shelf.NamedFile.{NamedFile}

pub returns-then-eq : goal.returns-then-eq
returns-then-eq c =
    let same : bytes_eq (string_bytes c.index-files-i.result.name) c.args.name.now ≡ true = cc in
    let P : NamedFile → Type 0 = λ f. bytes_eq (string_bytes f.name) c.args.name.now ≡ true in
    let here = named_here c.args.name.now c.args.files.now c.loop-i.i c.index-files-i.result c.loop-i-test.true (subst P c.index-files-i.is same) in
    grind (arith, here)
