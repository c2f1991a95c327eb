-- Bytes that are written up to a fixed room.
use Rattle.std.specs.Prelude.{ℕ, List, take, vec_len}
use Rattle.g5_outside.specs.declared.bounded_text.BoundedText.{BoundedText}

abbrev pub text_in : BoundedText → List ℕ
text_in t = take t.filled t.bytes.items

abbrev pub room_in : BoundedText → ℕ
room_in t = vec_len t.bytes
