-- From a source without refusals to its deck and its image.
use Rattle.std.proofs.Common.{◌≡◌, ℕ, zero, suc, ◌+◌, ◌-◌, ◌*◌, ◌<◌, ◌≤◌, Bool, true, false, cond, eqb, not, List, [], ◌∷◌, ◌++◌, length, get_or, Option, Some, None, refl, sym, ◌∙◌, ap, subst, arith, inl, inr, ◌⊎◌}
use Rattle.std.proofs.lemmas.Bool.Decides.{nat_tests}
use Rattle.std.specs.List.{list_all}
use Rattle.asm_model.specs.declared.statements.Operation.{Operation}
use Rattle.asm_model.specs.declared.statements.Operation.TheVariants.{Section, Bytes, Word, Address, External, Space, AlignWord, AlignDouble, Using, End, Instruction}
use Rattle.asm_model.specs.declared.statements.Line.{Line}
use Rattle.asm_model.specs.declared.statements.Line.TheVariants.{Broken, Unknown, Said}
use Rattle.asm_model.specs.declared.statements.Source.{Source}
use Rattle.asm_model.specs.declared.program.Defined.{Defined}
use Rattle.asm_model.specs.declared.program.Constant.{Constant}
use Rattle.asm_model.specs.Section.{SectionBytes}
use Rattle.asm_model.specs.Line.{sources}
use Rattle.asm_model.specs.Places.{State, Standing, standings, start, last}
use Rattle.asm_model.specs.Refused.{refusal_of, place_of}
use Rattle.asm_model.specs.Program.{Program, program_of, entry_in, Assembly, assembly}
use Rattle.asm_deck.specs.LoadedSections.{is_named, is_full}
use Rattle.asm_deck.specs.Accepted.{NameFits, ExternalsNamed, EntryFits, IsAccepted, LengthsFit}
use Rattle.asm_deck.specs.Writable.{EntryColumnsFit, HasDeck}
use Rattle.asm_deck.specs.AssembledImage.{IsImage}
use Rattle.asm_deck.proofs.Image.{assembled_image}
use Rattle.asm_laws.specs.AcceptedSource.{program, CanBeLoaded}
use Rattle.asm_laws.specs.LoadedProgram.{StatementsLoaded}
use Rattle.asm_laws.proofs.Clean.{AllClean, clean}
use Rattle.asm_laws.proofs.ReadNames.{both}
use Rattle.asm_laws.proofs.ReadLines.{AllRead, sources_read}
use Rattle.asm_laws.proofs.Sizes.{IsSmall, last_small, Sizes, sizes}
use Rattle.asm_laws.proofs.Names.{NamesLie, names_fit, names_differ, names_lie, ExternalsRead, externals_read}
use Rattle.asm_laws.proofs.Lies.{lies_first}
use Rattle.asm_laws.proofs.AddressWords.{WordsFit, Whole, words_fit, constants_fit, columns_fit, in_order}
use Rattle.asm_laws.proofs.Entries.{entry_columns}
use Rattle.asm_laws.proofs.Walk.{Walk, Reached, statements_loaded}

-- ---- what is known of a source without refusals

pub record Facts (xs : List Source) (end : State) (p : Program) : Type 0 where
  pub lines : AllClean end.names (standings start xs)
  pub read : AllRead xs
  pub sizes : Sizes start end p
  pub small : IsSmall end
  pub whole : Whole end p.sections
  pub words : WordsFit p.sections end.externals p.constants
  pub externals : ExternalsRead end.externals

start_small : IsSmall start
start_small = record { offset = omega arith; total = omega arith; count = omega arith }

pub facts : (xs : List Source) → AllRead xs → refusal_of xs ≡ None → Facts xs (last start xs) (program_of (last start xs) (standings start xs))
facts xs r h =
    let end = last start xs in
    let p = program_of end (standings start xs) in
    let c = clean xs h in
    let z = sizes end.names end start xs c r (omega arith) in
    let n = z.count in
    let w : Whole end p.sections = record { count = omega (arith, n); lie = names_lie end.names xs c r } in
    record {
      lines = c;
      read = r;
      sizes = z;
      small = last_small end.names start xs c r start_small;
      whole = w;
      words = words_fit p.sections end.externals end refl w start xs c r refl (lies_first p);
      externals = externals_read end.names xs c r;
    }

-- ---- it has a deck

pub has_deck : (xs : List Source) → AllRead xs → refusal_of xs ≡ None → HasDeck (assembly xs).sections (assembly xs).externals (assembly xs).constants (assembly xs).entry
unfolding assembly
has_deck xs r h =
    let end = last start xs in
    let p = program_of end (standings start xs) in
    let f = facts xs r h in
    let n = f.whole.count in
    let m = f.small.count in
    let t = f.sizes.total in
    let u = f.small.total in
    let v = f.sizes.words in
    let count : length p.sections + length end.externals < 65536 = omega (arith, n, m) in
    record {
      count = count;
      lengths = f.sizes.lengths;
      total = omega (arith, t, u);
      words = omega (arith, t, u, v);
      constants = columns_fit p.sections end.externals p.constants count f.sizes.lengths f.words;
      entry = entry_columns xs end f.lines r refl f.small;
    }

-- ---- it is loaded

externals_named : (ss : List SectionBytes) (ms : List ℕ) → list_all (λ m. is_named m ss) ms ≡ true → ExternalsRead ms → ExternalsNamed ss ms
externals_named ss [] h k = tt
externals_named ss (m ∷ ms) h k =
    let b = both (is_named m ss) (list_all (λ x. is_named x ss) ms) h in
    (k.0, b.0, externals_named ss ms b.1 k.1)

pub accepted : (xs : List Source) → AllRead xs → refusal_of xs ≡ None → CanBeLoaded (assembly xs) → IsAccepted (assembly xs).sections (assembly xs).externals (assembly xs).constants (assembly xs).entry
unfolding assembly
accepted xs r h k =
    let end = last start xs in
    let p = program_of end (standings start xs) in
    let f = facts xs r h in
    let n = f.whole.count in
    let m = f.small.count in
    record {
      count = omega (arith, n, m);
      lengths = f.sizes.lengths;
      some = k.some;
      names = names_fit end.names end start xs f.lines r;
      differ = names_differ end.names end xs f.lines r;
      externals = externals_named p.sections end.externals k.named f.externals;
      constants = constants_fit p.sections end.externals p.constants k.named f.externals f.words;
      ordered = (in_order end.names end start xs f.lines r).0;
      entry = k.entry;
    }

pub all_loaded : (origin n : ℕ) (xs : List Source) (placed byte : ℕ → ℕ) → AllRead xs → refusal_of xs ≡ None → IsImage origin n (assembly xs).sections (assembly xs).externals (assembly xs).constants (assembly xs).entry placed byte → StatementsLoaded byte origin (assembly xs).sections (last start xs).names (standings start xs)
unfolding assembly
all_loaded origin n xs placed byte r h i =
    let end = last start xs in
    let p = program_of end (standings start xs) in
    let f = facts xs r h in
    statements_loaded origin p.sections end.externals p.constants placed byte end (record { sections = i.sections; words = f.words; others = i.others }) refl f.whole.count start xs f.lines r refl
    (record { lies = lies_first p; earlier = []; split = refl; before = tt; moved = i.constants })
