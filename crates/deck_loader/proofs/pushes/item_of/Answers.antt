use Rattle.std.proofs.Common.{◌≡◌, ℕ, ◌<◌, ◌≤◌, IsTrue, arith}
use Rattle.std.proofs.lemmas.Bool.Decides.{nat_tests}
use Rattle.deck_model.specs.CardWriting.{extents_fit}
use Rattle.deck_model.specs.declared.cards.Sort.{Sort}
use Rattle.deck_model.specs.declared.cards.Sort.TheVariants.{Section, Private, Label, External, Weak}
use Rattle.deck_loader.proofs.pushes.item_of.Goals as goal

low : (s : Sort) (address extent : ℕ) → IsTrue (extents_fit s address extent) → address ≤ 4294967296
low Section address extent h = let k : address < 16777216 = grind (arith, nat_tests) in omega arith
low Private address extent h = let k : address < 16777216 = grind (arith, nat_tests) in omega arith
low Label address extent h = let k : address < 16777216 = grind (arith, nat_tests) in omega arith
low External address extent h = let k : address ≡ 0 = grind (arith, nat_tests) in omega arith
low Weak address extent h = let k : address ≡ 0 = grind (arith, nat_tests) in omega arith

pub returns-clause-low : goal.returns-clause-low
returns-clause-low c = let i = c.args.item.now in low i.sort i.address i.extent c.requires
