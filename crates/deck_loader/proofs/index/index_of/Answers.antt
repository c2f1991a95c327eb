use Rattle.std.proofs.Common.{ℕ, ◌<◌, Option, length, sym, ◌∙◌, ap, subst}
use Rattle.std.specs.Option.{IfSome}
use Rattle.std.specs.BTreeMap.{get}
use Rattle.std.specs.Ordering.{nat_cmp}
use Rattle.deck_loader.proofs.KeyLists.{none_again, none_at, key_at, key_again, or_inside}
use Rattle.deck_loader.specs.Keys.{or_then}
use Rattle.deck_loader.proofs.index.index_of.Goals as goal

pub loop-i-preserved-in-None : goal.loop-i-preserved-in-None
loop-i-preserved-in-None c =
    let ks = c.args.keys.now in
    let i = c.loop-i.i in
    record {
      at = λ q. c.loop-i.invariant.at q ∙ sym (none_at q i ks c.loop-i-test.true c.in-None.is);
      again = ap (or_then c.loop-i.doubled) (none_again i i ks c.loop-i-test.true c.in-None.is) ∙ c.loop-i.invariant.again;
      inside = c.loop-i.invariant.inside;
    }

pub loop-i-preserved : goal.loop-i-preserved
loop-i-preserved c =
    let ks = c.args.keys.now in
    let l = c.loop-i in
    let i = l.i in
    let k = c.in-Some.key in
    let had = c.in_ok-had.had in
    let e = c.in_ok-had.ensures in
    let d = c.first_doubled-doubled in
    record {
      at = λ q. key_at k q i ks (get nat_cmp l.places q) (get nat_cmp c.add_key.new.places q) c.loop-i-test.true c.in-Some.is (l.invariant.at q) (e.adds q);
      again = key_again k i ks had (get nat_cmp l.places k) l.doubled d.result c.loop-i-test.true c.in-Some.is (l.invariant.at k) e.had d.ensures ∙ l.invariant.again;
      inside =
          let P : Option ℕ → Type 0 = λ o. IfSome o (λ j. j < length ks) in
          subst P (sym d.ensures) (or_inside l.doubled had i (length ks) l.invariant.inside c.loop-i-test.true);
    }
