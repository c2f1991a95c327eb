-- A text that is added to an output by two calls, and pieces that are added one after another.
use Rattle.std.proofs.Common.{◌≡◌, ℕ, ◌+◌, ◌≤◌, List, [], ◌∷◌, ◌++◌, length, take, refl, sym, ap, ◌∙◌, subst, arith, append-nil, append_assoc, Result, Ok, Err}
use Rattle.std.specs.Prelude.{min}
use Rattle.std.proofs.Math.Seq.{take-append-add}
use Rattle.std.proofs.lemmas.List.{take-append-le, take_min}
use Rattle.g5_outside.specs.Causes.{Rose}
use Rattle.g5_outside.specs.Views.{SinkView}
use Rattle.g5_writing.specs.Outputs.{AddsToSink, SinkGrew}
use Rattle.g5_writing.proofs.Adding.{sink_grew_more}
use Rattle.g5_writing.proofs.Faults.{rose_before}
use Rattle.g5_writing.proofs.Putting.{text-append}
use Rattle.run_model.specs.Pieces.{IsCut, Piece, piece, text}
use Rattle.run_model.specs.declared.outputs.Place.TheVariants.{Out}
use Rattle.debug_runs.specs.Conversing.{IsLastCut, Writes}

-- ---- one text by two calls

pub grew_none : (o : SinkView) → SinkGrew [] o o
grew_none o = record {
  told = refl;
  faults = omega arith;
  text = λ t. sym (append-nil o.taken);
}

-- the whole of the first was added
pub grew_whole : {T E : Type 0} (x : List ℕ) (o p : SinkView) (u : T)
    → AddsToSink {E = E} x o p (Ok u) → SinkGrew x o p
grew_whole x o p u a = subst (λ z. SinkGrew z o p) a.all a.grew

pub adds_then : {T U E : Type 0} (x y : List ℕ) (o p q : SinkView) (u : T) (r : Result U E)
    → AddsToSink {E = E} x o p (Ok u) → AddsToSink y p q r → AddsToSink (x ++ y) o q r
adds_then x y o p q u (Ok v) a b = record {
  count = length x + b.count;
  grew = subst (λ z. SinkGrew z o q) (sym (take-append-add x y b.count))
      (sink_grew_more x (take b.count y) o p q (grew_whole x o p u a) b.grew);
  all = take-append-add x y b.count ∙ ap (λ z. x ++ z) b.all;
  cause = tt;
}
adds_then x y o p q u (Err e) a b = record {
  count = length x + b.count;
  grew = subst (λ z. SinkGrew z o q) (sym (take-append-add x y b.count))
      (sink_grew_more x (take b.count y) o p q (grew_whole x o p u a) b.grew);
  all = tt;
  cause = rose_before o.faults p.faults q.faults a.grew.faults b.cause;
}

-- the first was cut, and the second not begun
pub adds_cut : {T U E : Type 0} (x y : List ℕ) (o p : SinkView) (e d : E)
    → AddsToSink {T = T} x o p (Err e) → AddsToSink {T = U} (x ++ y) o p (Err d)
adds_cut x y o p e d a =
    let n : ℕ = min a.count (length x) in
    let front : take n (x ++ y) ≡ take a.count x =
    take-append-le n x y (omega arith) ∙ take_min a.count x in
    record {
      count = n;
      grew = subst (λ z. SinkGrew z o p) (sym front) a.grew;
      all = tt;
      cause = a.cause;
    }

-- ---- pieces

text_one : (bytes : List ℕ) → text Out (piece Out bytes ∷ []) ≡ bytes
text_one bytes = append-nil bytes

-- one piece behind others
pub text_more : (xs : List Piece) (bytes : List ℕ)
    → text Out (xs ++ piece Out bytes ∷ []) ≡ text Out xs ++ bytes
text_more xs bytes =
    text-append Out xs (piece Out bytes ∷ []) ∙ ap (λ z. text Out xs ++ z) (text_one bytes)

pub grew_more : (xs : List Piece) (bytes : List ℕ) (o p q : SinkView)
    → SinkGrew (text Out xs) o p → SinkGrew bytes p q
    → SinkGrew (text Out (xs ++ piece Out bytes ∷ [])) o q
grew_more xs bytes o p q g h =
    subst (λ z. SinkGrew z o q) (sym (text_more xs bytes))
    (sink_grew_more (text Out xs) bytes o p q g h)

pub writes_all : {T E : Type 0} (xs : List Piece) (o p : SinkView) (u : T)
    → SinkGrew (text Out xs) o p → Writes {E = E} xs o p (Ok u)
writes_all xs o p u g = record { held = xs; grew = g; all = refl; cut = tt; cause = tt }

-- the last of them was cut
pub writes_cut : {T U E : Type 0} (xs : List Piece) (bytes : List ℕ) (o p q : SinkView) (e : E)
    → SinkGrew (text Out xs) o p → AddsToSink {T = T} bytes p q (Err e)
    → Writes {T = U} (xs ++ piece Out bytes ∷ []) o q (Err e)
writes_cut xs bytes o p q e g a = record {
  held = xs ++ piece Out (take a.count bytes) ∷ [];
  grew = grew_more xs (take a.count bytes) o p q g a.grew;
  all = tt;
  cut = record {
    before = xs;
    bytes = bytes;
    count = a.count;
    whole_is = refl;
    held_is = refl;
  };
  cause = rose_before o.faults p.faults q.faults g.faults a.cause;
}

-- it is a cut of more pieces too
pub cut_of_more : (held xs ys : List Piece) → IsLastCut held xs → IsCut held (xs ++ ys)
cut_of_more held xs ys c = record {
  before = c.before;
  piece = piece Out c.bytes;
  behind = ys;
  count = c.count;
  whole_is = ap (λ z. z ++ ys) c.whole_is
      ∙ append_assoc c.before (piece Out c.bytes ∷ []) ys;
  held_is = c.held_is;
}
