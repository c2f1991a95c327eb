-- A text that is written by several calls.
use Rattle.std.proofs.Common.{◌≡◌, ℕ, ◌+◌, List, ◌++◌, take, length, min, ◌∙◌, ap, arith, Result, Ok, Err, inl, inr, subst}
use Rattle.std.proofs.Math.Seq.{take-append-add}
use Rattle.g5_outside.specs.Views.{SinkView}
use Rattle.g5_writing.specs.Outputs.{SinkGrew, AddsToSink}
use Rattle.g5_writing.proofs.Faults.{rose_before}
use Rattle.g5_writing.proofs.Adding.{sink_grew_more}
use Rattle.g5_writing.proofs.Parts.{take_front}
use Rattle.status_lines.specs.Says.{Says}

-- whatever the answer, the text was said
pub says_of : {T E : Type 0} (text : List ℕ) (a b : SinkView) (r : Result T E) →
    AddsToSink text a b r → Says text a b
says_of text a b (Ok x) h = record { count = h.count; front = h.grew.text; whole = inl h.all }
says_of text a b (Err e) h = record { count = h.count; front = h.grew.text; whole = inr h.cause }

-- the whole of the first, and then the second
pub sink_then : {T U E : Type 0} (xs ys : List ℕ) (a b c : SinkView) (x : T) (r : Result U E) →
    AddsToSink {E = E} xs a b (Ok x) → AddsToSink ys b c r → AddsToSink (xs ++ ys) a c r
sink_then xs ys a b c x (Ok y) g h = record {
  count = length xs + h.count;
  grew = rw (take-append-add xs ys h.count)
      (sink_grew_more xs (take h.count ys) a b c (subst (λ z. SinkGrew z a b) g.all g.grew) h.grew);
  all = take-append-add xs ys h.count ∙ ap (λ z. xs ++ z) h.all;
  cause = tt;
}
sink_then xs ys a b c x (Err e) g h = record {
  count = length xs + h.count;
  grew = rw (take-append-add xs ys h.count)
      (sink_grew_more xs (take h.count ys) a b c (subst (λ z. SinkGrew z a b) g.all g.grew) h.grew);
  all = tt;
  cause = rose_before a.faults b.faults c.faults g.grew.faults h.cause;
}

-- the first was cut, and the second not begun
pub sink_stop : {T U E : Type 0} (xs ys : List ℕ) (a b : SinkView) (e d : E) →
    AddsToSink {T = T} xs a b (Err e) → AddsToSink {T = U} (xs ++ ys) a b (Err d)
sink_stop xs ys a b e d g = record {
  count = min g.count (length xs);
  grew = rw (take_front xs ys g.count) g.grew;
  all = tt;
  cause = g.cause;
}
