-- Pieces that are written one after another.
use Rattle.std.proofs.Common.{◌≡◌, ◌⊎◌, ℕ, List, [], ◌∷◌, ◌++◌, take, refl, sym, ◌∙◌, ap, subst, arith, append_assoc, append-nil, Result, Ok, Err, OnOk, OnErr, inl, inr, if◌then◌else◌}
use Rattle.g5_outside.specs.Views.{ShelfView, SinkView}
use Rattle.g5_outside.specs.Causes.{Rose}
use Rattle.run_model.specs.Pieces.{Piece, text, same_place}
use Rattle.g5_writing.specs.Outputs.{HasFiles, FileGrew, SinkGrew, Grew, Puts}
use Rattle.run_model.specs.declared.outputs.Place.{Place}
use Rattle.g5_writing.specs.declared.outputs.OutputFiles.{OutputFiles}
use Rattle.run_model.specs.declared.outputs.Place.TheVariants.{Log, Trace, Out}
use Rattle.g5_writing.proofs.Faults.{rose_before}

pub text-append : (p : Place) (xs ys : List Piece) → text p (xs ++ ys) ≡ text p xs ++ text p ys
text-append p [] ys = refl
text-append p (x ∷ xs) ys = ap (λ z. (if same_place p x.place then x.bytes else []) ++ z) (text-append p xs ys) ∙ sym (append_assoc (if same_place p x.place then x.bytes else []) (text p xs) (text p ys))

-- nothing was written
pub grew_none : (files : OutputFiles) (a : ShelfView) (o : SinkView) → Grew files [] a a o o
grew_none files a o = record {
  numbers = refl;
  found = refl;
  told = refl;
  reads = omega arith;
  writes = omega arith;
  out_told = refl;
  out_faults = omega arith;
  names = λ t n. refl;
  others = λ t n l r. refl;
  log = λ t. sym (append-nil _);
  trace = λ t. sym (append-nil _);
  out = λ t. sym (append-nil _);
}

pub grew_more : (files : OutputFiles) (xs ys : List Piece) (a b c : ShelfView) (o p q : SinkView) → Grew files xs a b o p → Grew files ys b c p q → Grew files (xs ++ ys) a c o q
grew_more files xs ys a b c o p q g h = record {
  numbers = h.numbers ∙ g.numbers;
  found = h.found ∙ g.found;
  told = h.told ∙ g.told;
  reads = omega (arith, g.reads, h.reads);
  writes = omega (arith, g.writes, h.writes);
  out_told = h.out_told ∙ g.out_told;
  out_faults = omega (arith, g.out_faults, h.out_faults);
  names = λ t n. h.names (g.told ∙ t) n ∙ g.names t n;
  others = λ t n l r. h.others (g.told ∙ t) n l r ∙ g.others t n l r;
  log = λ t. h.log (g.told ∙ t) ∙ ap (λ z. z ++ text Log ys) (g.log t) ∙ append_assoc (a.text_of files.log.0) (text Log xs) (text Log ys) ∙ ap (λ z. a.text_of files.log.0 ++ z) (sym (text-append Log xs ys));
  trace = λ t. h.trace (g.told ∙ t) ∙ ap (λ z. z ++ text Trace ys) (g.trace t) ∙ append_assoc (a.text_of files.trace.0) (text Trace xs) (text Trace ys) ∙ ap (λ z. a.text_of files.trace.0 ++ z) (sym (text-append Trace xs ys));
  out = λ t. h.out (g.out_told ∙ t) ∙ ap (λ z. z ++ text Out ys) (g.out t) ∙ append_assoc o.taken (text Out xs) (text Out ys) ∙ ap (λ z. o.taken ++ z) (sym (text-append Out xs ys));
}

-- a front of one piece
abbrev pub front : ℕ → Place → List ℕ → List Piece
front k place bytes = record { place = place; bytes = take k bytes } ∷ []

pub grew_log : (files : OutputFiles) (more : List ℕ) (a b : ShelfView) (o : SinkView) → HasFiles a files → FileGrew files.log.0 more a b → Grew files (record { place = Log; bytes = more } ∷ []) a b o o
grew_log files more a b o has g = record {
  numbers = g.numbers;
  found = g.found;
  told = g.told;
  reads = g.reads;
  writes = g.writes;
  out_told = refl;
  out_faults = omega arith;
  names = g.names;
  others = λ t n l r. g.others t n l;
  log = λ t. g.text t ∙ ap (λ z. a.text_of files.log.0 ++ z) (sym (append-nil more));
  trace = λ t. g.others t files.trace.0 (λ e. has.two (sym e)) ∙ sym (append-nil _);
  out = λ t. sym (append-nil _);
}

pub grew_trace : (files : OutputFiles) (more : List ℕ) (a b : ShelfView) (o : SinkView) → HasFiles a files → FileGrew files.trace.0 more a b → Grew files (record { place = Trace; bytes = more } ∷ []) a b o o
grew_trace files more a b o has g = record {
  numbers = g.numbers;
  found = g.found;
  told = g.told;
  reads = g.reads;
  writes = g.writes;
  out_told = refl;
  out_faults = omega arith;
  names = g.names;
  others = λ t n l r. g.others t n r;
  log = λ t. g.others t files.log.0 has.two ∙ sym (append-nil _);
  trace = λ t. g.text t ∙ ap (λ z. a.text_of files.trace.0 ++ z) (sym (append-nil more));
  out = λ t. sym (append-nil _);
}

pub grew_out : (files : OutputFiles) (more : List ℕ) (a : ShelfView) (o p : SinkView) → SinkGrew more o p → Grew files (record { place = Out; bytes = more } ∷ []) a a o p
grew_out files more a o p g = record {
  numbers = refl;
  found = refl;
  told = refl;
  reads = omega arith;
  writes = omega arith;
  out_told = g.told;
  out_faults = g.faults;
  names = λ t n. refl;
  others = λ t n l r. refl;
  log = λ t. sym (append-nil _);
  trace = λ t. sym (append-nil _);
  out = λ t. g.text t ∙ ap (λ z. o.taken ++ z) (sym (append-nil more));
}

-- one piece: its front was written, all of it at Ok
pub put_one : {T E : Type 0} (files : OutputFiles) (place : Place) (bytes : List ℕ) (k : ℕ) (a b : ShelfView) (o p : SinkView) (r : Result T E) → Grew files (front k place bytes) a b o p → OnOk r (take k bytes ≡ bytes) → OnErr r (Rose a.write_faults b.write_faults ⊎ Rose o.faults p.faults) → Puts files (record { place = place; bytes = bytes } ∷ []) a b o p r
put_one files place bytes k a b o p (Ok x) g all cause = record { held = front k place bytes; grew = g; all = ap (λ z. record { place = place; bytes = z } ∷ []) all; cut = tt; cause = tt }
put_one files place bytes k a b o p (Err e) g all cause = record { held = front k place bytes; grew = g; all = tt; cut = record { before = []; piece = record { place = place; bytes = bytes }; behind = []; count = k; whole_is = refl; held_is = refl }; cause = cause }

-- the whole of the first, and then the second
pub puts_then : {T U E : Type 0} (files : OutputFiles) (xs ys : List Piece) (a b c : ShelfView) (o p q : SinkView) (x : T) (r : Result U E) → Puts {E = E} files xs a b o p (Ok x) → Puts files ys b c p q r → Puts files (xs ++ ys) a c o q r
puts_then files xs ys a b c o p q x (Ok y) g h = record {
  held = g.held ++ h.held;
  grew = grew_more files g.held h.held a b c o p q g.grew h.grew;
  all = cc (g.all, h.all);
  cut = tt;
  cause = tt;
}
puts_then files xs ys a b c o p q x (Err e) g h = record {
  held = g.held ++ h.held;
  grew = grew_more files g.held h.held a b c o p q g.grew h.grew;
  all = tt;
  cut = record {
    before = xs ++ h.cut.before;
    piece = h.cut.piece;
    behind = h.cut.behind;
    count = h.cut.count;
    whole_is = ap (λ z. xs ++ z) h.cut.whole_is ∙ sym (append_assoc xs h.cut.before (h.cut.piece ∷ h.cut.behind));
    held_is = ap (λ z. z ++ h.held) g.all ∙ ap (λ z. xs ++ z) h.cut.held_is ∙ sym (append_assoc xs h.cut.before (front h.cut.count h.cut.piece.place h.cut.piece.bytes));
  };
  cause = elim h.cause [ inl shelf ↦ inl (rose_before a.write_faults b.write_faults c.write_faults g.grew.writes shelf) | inr sink ↦ inr (rose_before o.faults p.faults q.faults g.grew.out_faults sink) ];
}

-- the first was cut, and the second not begun
pub puts_stop : {T U E : Type 0} (files : OutputFiles) (xs ys : List Piece) (a b : ShelfView) (o p : SinkView) (e d : E) → Puts {T = T} files xs a b o p (Err e) → Puts {T = U} files (xs ++ ys) a b o p (Err d)
puts_stop files xs ys a b o p e d g = record {
  held = g.held;
  grew = g.grew;
  all = tt;
  cut = record {
    before = g.cut.before;
    piece = g.cut.piece;
    behind = g.cut.behind ++ ys;
    count = g.cut.count;
    whole_is = ap (λ z. z ++ ys) g.cut.whole_is ∙ append_assoc g.cut.before (g.cut.piece ∷ g.cut.behind) ys;
    held_is = g.cut.held_is;
  };
  cause = g.cause;
}

-- nothing to write
pub puts_none : {T E : Type 0} (files : OutputFiles) (a : ShelfView) (o : SinkView) (x : T) → Puts {E = E} files [] a a o o (Ok x)
puts_none files a o x = record { held = []; grew = grew_none files a o; all = refl; cut = tt; cause = tt }

pub on_shelf : {T E : Type 0} (r : Result T E) (P Q : Type 0) → OnErr r P → OnErr r (P ⊎ Q)
on_shelf (Ok x) P Q h = tt
on_shelf (Err e) P Q h = inl h

pub on_sink : {T E : Type 0} (r : Result T E) (P Q : Type 0) → OnErr r Q → OnErr r (P ⊎ Q)
on_sink (Ok x) P Q h = tt
on_sink (Err e) P Q h = inr h

-- both again, where the whole is given by an equation
pub puts_then_as : {T U E : Type 0} (files : OutputFiles) (xs ys whole : List Piece) (a b c : ShelfView) (o p q : SinkView) (x : T) (r : Result U E) → Puts {E = E} files xs a b o p (Ok x) → Puts files ys b c p q r → xs ++ ys ≡ whole → Puts files whole a c o q r
puts_then_as files xs ys whole a b c o p q x r g h e = subst (λ w. Puts files w a c o q r) e (puts_then files xs ys a b c o p q x r g h)

pub puts_stop_as : {T U E : Type 0} (files : OutputFiles) (xs ys whole : List Piece) (a b : ShelfView) (o p : SinkView) (e : E) (r : Result U E) (d : E) → Puts {T = T} files xs a b o p (Err e) → r ≡ Err d → xs ++ ys ≡ whole → Puts files whole a b o p r
puts_stop_as files xs ys whole a b o p e r d g is same = subst (λ w. Puts files w a b o p r) same (rw is (puts_stop files xs ys a b o p e d g))

-- what was written whole
pub puts_grew : {T E : Type 0} (files : OutputFiles) (xs : List Piece) (a b : ShelfView) (o p : SinkView) (x : T) → Grew files xs a b o p → Puts {E = E} files xs a b o p (Ok x)
puts_grew files xs a b o p x g = record { held = xs; grew = g; all = refl; cut = tt; cause = tt }

-- the answer's value or error is of no matter
pub puts_ok_as : {T U E : Type 0} (files : OutputFiles) (whole : List Piece) (a b : ShelfView) (o p : SinkView) (x : T) (y : U) → Puts {E = E} files whole a b o p (Ok x) → Puts {E = E} files whole a b o p (Ok y)
puts_ok_as files whole a b o p x y g = record { held = g.held; grew = g.grew; all = g.all; cut = tt; cause = tt }

pub puts_err_as : {T U D E : Type 0} (files : OutputFiles) (whole : List Piece) (a b : ShelfView) (o p : SinkView) (d : D) (e : E) → Puts {T = T} files whole a b o p (Err d) → Puts {T = U} files whole a b o p (Err e)
puts_err_as files whole a b o p d e g = record { held = g.held; grew = g.grew; all = tt; cut = g.cut; cause = g.cause }
