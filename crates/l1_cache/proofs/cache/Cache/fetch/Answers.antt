use Rattle.std.proofs.Common.{◌/◌, ◌%◌, ℕ, List, sym, subst, ap, ◌∙◌, arith}
use Rattle.std.specs.Prelude.{slice_get}
use Rattle.l1_cache.specs.Lines.{Lines, HasLine, Coherent}
use Rattle.l1_cache.proofs.Cohering.{coherent_byte}
use Rattle.l1_cache.proofs.cache.Cache.fetch.Goals as goal

pub returns-clause-byte : goal.returns-clause-byte
returns-clause-byte c = λ was.
    let s = c.args.storage.now in
    let a = c.args.at in
    let now : Coherent (record { numbers = c.self.inside.numbers; bytes = c.self.inside.bytes.items; fills = c.self.inside.fills }) s =
    subst (λ (x : Lines). Coherent x s) (sym c.self.view_is) (c.load.ensures.coherent was) in
    let is : HasLine c.self.inside.numbers (a / 256) =
    subst (λ (x : Lines). HasLine x.numbers (a / 256)) (sym c.self.view_is) c.load.ensures.present in
    c.byte_at.ensures
    ∙ (ap (λ (bs : List ℕ). slice_get bs (a % 16384)) c.deref.ensures.value
    ∙ coherent_byte c.self.inside.numbers c.self.inside.bytes.items s c.self.inside.fills a now (omega arith) is)
