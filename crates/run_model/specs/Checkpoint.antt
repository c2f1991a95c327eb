-- The checkpoint of a core: its registers as 40 words, each stored under one of two codes.
-- Source: choice of this project.
use Rattle.std.specs.Prelude.{ℕ, ◌-◌, ◌%◌, ◌^◌, ◌≡◌, Bool, ◌==◌, nat_lt, if◌then◌else◌, List, [], ◌∷◌, ◌++◌, map, take, drop, slice_index, replicate, refl}
use Rattle.std.specs.List.{range_with_len}
use Rattle.esa_model.specs.declared.machine.Registers.{Registers}

-- ---- the words

-- 0 to 15 are the general registers, 16 to 31 the control registers, 32 and 33 the PSW, 34 the
-- prefix, 35 is zero, 36 is the clock comparator, 37 the CPU timer's end, 38 and 39 are zero; the
-- last four are the clock words in order
unfoldable pub word_of : Registers → ℕ → ℕ
word_of r w =
    if nat_lt w 16 then slice_index r.general w
    else (if nat_lt w 32 then slice_index r.control (w - 16)
    else (if w == 32 then r.psw.w0
    else (if w == 33 then r.psw.w1
    else (if w == 34 then r.prefix
    else (if w == 35 then 0
    else slice_index r.clocks (w - 36))))))

-- the 40 words in their order
unfoldable pub words_of : Registers → List ℕ
words_of r = map (word_of r) (range_with_len 0 40)

-- of a word that is kept in 32 bits
abbrev pub low_half : ℕ → ℕ
low_half v = v % 2 ^ 32

-- the registers that a list of 40 words says
unfoldable pub registers_of : List ℕ → Registers
registers_of words = record {
  general = map low_half (take 16 words);
  control = map low_half (take 16 (drop 16 words));
  psw = record { w0 = low_half (slice_index words 32); w1 = low_half (slice_index words 33) };
  prefix = low_half (slice_index words 34);
  clocks = take 4 (drop 36 words);
}

-- ---- how each is stored

-- words 0 to 35 have 32 bits, and 7 check bits; words 36 to 39 have 64 bits, and 8 check bits
abbrev pub is_narrow : ℕ → Bool
is_narrow w = nat_lt w 36

-- the bits in which word w is stored
unfoldable pub width : ℕ → ℕ
width w = if is_narrow w then 39 else 72

-- how many of them are check bits, and how many hold the value
unfoldable pub checks : ℕ → ℕ
checks w = if is_narrow w then 7 else 8

unfoldable pub values_below : ℕ → ℕ
values_below w = if is_narrow w then 32 else 64

-- ---- worked values
abbrev worked : Registers
worked = record {
  general = 5 ∷ replicate 14 0 ++ (6 ∷ []);
  control = 0x000000E0 ∷ replicate 15 0;
  psw = record { w0 = 0x00080000; w1 = 0x80010000 };
  prefix = 0x4000;
  clocks = 0x2000 ∷ 2 ^ 63 ∷ 0 ∷ 0 ∷ [];
}

pub fifteenth : word_of worked 15 ≡ 6
unfolding word_of
fifteenth = refl

pub comparator : word_of worked 36 ≡ 0x2000
unfolding word_of
comparator = refl

pub timer_end : word_of worked 37 ≡ 2 ^ 63
unfolding word_of
timer_end = refl

pub read_back : registers_of (words_of worked) ≡ worked
unfolding registers_of words_of word_of
read_back = refl
