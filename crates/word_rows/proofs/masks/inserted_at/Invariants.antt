use Rattle.std.proofs.Common.{◌≡◌, drop}
use Rattle.esa_model.specs.MaskRows.{inserted}
use Rattle.word_rows.proofs.masks.inserted_at.Given as goal

abbrev pub invariant-loop-n : goal.invariant-loop-n
invariant-loop-n l =
    inserted l.word l.places l.bytes ≡ inserted l.out (drop l.n l.places) (drop l.n l.bytes)
