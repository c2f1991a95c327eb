-- What the statements of a text give, and what the deck of their program holds.
use Rattle.std.proofs.Common.{◌≡◌, ◌⊎◌, inl, inr, ℕ, List, Option, Some, None, Ok, Err, sym, ◌∙◌, ap, subst}
use Rattle.program_model.specs.declared.refusals.AsmRefusal.TheVariants as source
use Rattle.asm_model.specs.declared.refusal.AsmRefusal.{AsmRefusal as StatementRefusal}
use Rattle.asm_model.specs.declared.statements.Source.{Source}
use Rattle.asm_model.specs.Section.{SectionBytes}
use Rattle.asm_model.specs.declared.program.Constant.{Constant}
use Rattle.asm_model.specs.declared.program.Defined.{Defined}
use Rattle.asm_model.specs.Line.{sources}
use Rattle.asm_model.specs.Refused.{refusal_of}
use Rattle.asm_model.specs.Program.{Assembly, assembly}
use Rattle.asm_deck.specs.Writable.{HasDeck}
use Rattle.asm_deck.proofs.Image.{assembled_image}
use Rattle.asm_laws.specs.AcceptedSource.{CanBeLoaded}
use Rattle.asm_laws.proofs.ReadLines.{sources_read}
use Rattle.asm_laws.proofs.WholeSource.{has_deck, accepted, all_loaded}
use Rattle.asm_places.specs.Fitting.{AreOfText}
use Rattle.asm_places.specs.Found.{MayBe}
use Rattle.esa_asm.specs.AssembledSource.{source_refusal, deck_of_program, deck_unless, assembled}
use Rattle.esa_asm.specs.LoadedDeck.{IsLoaded}

pub of_text : (text : List ℕ) (xs : List Source) → xs ≡ sources text → AreOfText xs
of_text text xs e = record { text = text; same = e }

-- a program of a source that is not refused
has_deck_of : (text : List ℕ) (xs : List Source) (a : Assembly) → xs ≡ sources text → refusal_of xs ≡ None → a ≡ assembly xs → HasDeck a.sections a.externals a.constants a.entry
has_deck_of text xs a e h f =
    let g : refusal_of (sources text) ≡ None = ap refusal_of (sym e) ∙ h in
    let k : assembly (sources text) ≡ a = ap assembly (sym e) ∙ sym f in
    subst (λ (b : Assembly). HasDeck b.sections b.externals b.constants b.entry) k (has_deck (sources text) (sources_read text) g)

-- the same of its parts
pub parts_have_deck : (text : List ℕ) (xs : List Source) (a : Assembly) (ss : List SectionBytes) (ms : List ℕ) (cs : List Constant) (e : Option Defined) → xs ≡ sources text → refusal_of xs ≡ None → a ≡ assembly xs → a ≡ record { sections = ss; externals = ms; constants = cs; entry = e } → HasDeck ss ms cs e
parts_have_deck text xs a ss ms cs e t h f v = subst (λ (b : Assembly). HasDeck b.sections b.externals b.constants b.entry) v (has_deck_of text xs a t h f)

pub deck_is : (text : List ℕ) (xs : List Source) (a : Assembly) (deck : List ℕ) → xs ≡ sources text → refusal_of xs ≡ None → a ≡ assembly xs → deck ≡ deck_of_program a → assembled text ≡ Ok deck
unfolding assembled
deck_is text xs a deck e h f d =
    let g : refusal_of (sources text) ≡ None = ap refusal_of (sym e) ∙ h in
    let k : assembly (sources text) ≡ a = ap assembly (sym e) ∙ sym f in
    ap (λ (r : Option StatementRefusal). deck_unless r (sources text)) g ∙ (ap (λ (b : Assembly). Ok (deck_of_program b)) k ∙ ap (λ (x : List ℕ). Ok x) (sym d))

refusal_is : (text : List ℕ) (xs : List Source) (r : StatementRefusal) → xs ≡ sources text → refusal_of xs ≡ Some r → assembled text ≡ Err (source_refusal r)
unfolding assembled
refusal_is text xs r e h = ap (λ (o : Option StatementRefusal). deck_unless o (sources text)) (ap refusal_of (sym e) ∙ h)

pub may_refuse : (text : List ℕ) (xs : List Source) (r : StatementRefusal) → xs ≡ sources text → MayBe (refusal_of xs) r → (source_refusal r ≡ source.NoMemory) ⊎ (assembled text ≡ Err (source_refusal r))
may_refuse text xs r e (inl h) = inl (ap source_refusal h)
may_refuse text xs r e (inr h) = inr (refusal_is text xs r e h)

pub is_loaded : (text : List ℕ) (xs : List Source) (a : Assembly) (deck : List ℕ) → xs ≡ sources text → refusal_of xs ≡ None → a ≡ assembly xs → deck ≡ deck_of_program a → (origin n : ℕ) → CanBeLoaded (assembly (sources text)) → IsLoaded origin n deck text (assembly (sources text))
is_loaded text xs a deck e h f d origin n c =
    let ys = sources text in
    let b = assembly ys in
    let g : refusal_of ys ≡ None = ap refusal_of (sym e) ∙ h in
    let k : b ≡ a = ap assembly (sym e) ∙ sym f in
    let i = assembled_image origin n b.sections b.externals b.constants b.entry (accepted ys (sources_read text) g c) in
    let same : deck_of_program b ≡ deck = ap deck_of_program k ∙ sym d in
    subst (λ (x : List ℕ). IsLoaded origin n x text b) same (record {
      placed = i.0;
      byte = i.1.0;
      image = i.1.1.image;
      sections = i.1.1.sections;
      constants = i.1.1.constants;
      others = i.1.1.others;
      statements = all_loaded origin n ys i.0 i.1.0 (sources_read text) g i.1.1;
    })
