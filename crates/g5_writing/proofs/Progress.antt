-- A loop that writes pieces: those done, and those left.
use Rattle.std.proofs.Common.{◌≡◌, List, [], ◌++◌, refl, sym, ◌∙◌, ap, subst, append_assoc, append-nil, Ok, Err}
use Rattle.g5_outside.specs.Views.{ShelfView, SinkView}
use Rattle.run_model.specs.Pieces.{Piece}
use Rattle.g5_writing.specs.Outputs.{Grew, Puts}
use Rattle.g5_writing.specs.declared.outputs.OutputFiles.{OutputFiles}
use Rattle.g5_writing.proofs.Putting.{grew_none, grew_more, puts_then, puts_stop, puts_grew}

-- of all the pieces these are left, and those before them are written
pub record Left (files : OutputFiles) (all left : List Piece) (a b : ShelfView) (o p : SinkView) : Type 0 where
  pub done : List Piece
  pub grew : Grew files done a b o p
  pub is : done ++ left ≡ all

pub left_all : (files : OutputFiles) (all : List Piece) (a : ShelfView) (o : SinkView) → Left files all all a a o o
left_all files all a o = record { done = []; grew = grew_none files a o; is = refl }

-- the next of them are written
pub left_less : {T E : Type 0} (files : OutputFiles) (all left xs rest : List Piece) (a b c : ShelfView) (o p q : SinkView) (x : T) → left ≡ xs ++ rest → Left files all left a b o p → Puts {E = E} files xs b c p q (Ok x) → Left files all rest a c o q
left_less files all left xs rest a b c o p q x e so h = record {
  done = so.done ++ xs;
  grew = grew_more files so.done xs a b c o p q so.grew (subst (λ z. Grew files z b c p q) h.all h.grew);
  is = append_assoc so.done xs rest ∙ ap (λ z. so.done ++ z) (sym e) ∙ so.is;
}

-- the next of them were cut short
pub left_cut : {T U E : Type 0} (files : OutputFiles) (all left xs rest : List Piece) (a b c : ShelfView) (o p q : SinkView) (f : E) → left ≡ xs ++ rest → Left files all left a b o p → Puts {T = T} files xs b c p q (Err f) → Puts {T = U} files all a c o q (Err f)
left_cut {T} {U} {E} files all left xs rest a b c o p q f e so h =
    let front : Puts {T = T} {E = E} files (so.done ++ xs) a c o q (Err f) = puts_then {T = Unit {0}} files so.done xs a b c o p q tt (Err f) (puts_grew {T = Unit {0}} files so.done a b o p tt so.grew) h in
    let same : (so.done ++ xs) ++ rest ≡ all = append_assoc so.done xs rest ∙ ap (λ z. so.done ++ z) (sym e) ∙ so.is in
    subst (λ w. Puts {T = U} files w a c o q (Err f)) same (puts_stop files (so.done ++ xs) rest a c o q f f front)

-- none is left
pub left_none : {T E : Type 0} (files : OutputFiles) (all left : List Piece) (a b : ShelfView) (o p : SinkView) (x : T) → left ≡ [] → Left files all left a b o p → Puts {E = E} files all a b o p (Ok x)
left_none {T} {E} files all left a b o p x e so = subst (λ w. Puts {E = E} files w a b o p (Ok x)) (sym (append-nil so.done) ∙ ap (λ z. so.done ++ z) (sym e) ∙ so.is) (puts_grew {T = T} {E = E} files so.done a b o p x so.grew)
