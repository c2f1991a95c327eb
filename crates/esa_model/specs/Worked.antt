-- Worked values of the machine's definitions, computed from them.
use Rattle.std.specs.Prelude.{ℕ, ◌≡◌, ◌++◌, List, [], ◌∷◌, true, Some, None, replicate, refl}
use Rattle.esa_model.specs.declared.machine.Registers.{Registers}
use Rattle.esa_model.specs.declared.machine.CpuState.TheVariants.{Operating}
use Rattle.esa_model.specs.declared.events.Interruption.TheVariants.{Program}
use Rattle.esa_model.specs.Access.{Memory, absolute, place, permit, byte, bytes, codes, noted_of, noted, refused, referenced}
use Rattle.esa_model.specs.Bus.{quiet, signals_of}
use Rattle.esa_model.specs.Event.{due}
use Rattle.esa_model.specs.Table.{decoded, number_of, row_numbered, kind_numbered}
use Rattle.esa_model.specs.Line.{Side, advanced, valued, with_value, word_at}
use Rattle.esa_model.specs.WordRows.{rr_row, add_row}
use Rattle.esa_model.specs.Rows.Words.{words_line}
use Rattle.esa_model.specs.Rows.All.{line}
use Rattle.esa_model.specs.Unit.{Done, interrupted, unit, instructed, performed, exception, start_code, fetch_len, fetch_code, fetched, fetched_blocks}
use Rattle.esa_model.specs.Machine.{done, storage_after, psw_after}

-- ---- prefixing

pub prefixed_page : absolute 0x4000 0x200 ≡ 0x4200
prefixed_page = refl

pub page_of_prefix : absolute 0x4000 0x4200 ≡ 0x200
page_of_prefix = refl

-- ---- low-address protection: 511 is refused to a store before prefixing, 512 is not, and lies in the prefix's page

abbrev protected : Registers
protected = record {
  general = replicate 16 0;
  control = 0x10000000 ∷ replicate 15 0;
  psw = record { w0 = 0x00080000; w1 = 0x80000000 };
  prefix = 0x4000;
  clocks = replicate 4 0;
}

abbrev five_pages : Memory
five_pages = record { storage = replicate 20480 0; keys = replicate 5 0 }

pub low_address : permit protected five_pages true 511 ≡ 4
unfolding permit place
low_address = refl

pub next_address : permit protected five_pages true 512 ≡ 0
unfolding permit place
next_address = refl

pub next_place : place protected 512 ≡ 0x4200
unfolding place
next_place = refl

-- ---- an early specification exception: a PSW of zeros

abbrev zeros : Registers
zeros = record {
  general = replicate 16 0;
  control = replicate 16 0;
  psw = record { w0 = 0; w1 = 0 };
  prefix = 0;
  clocks = replicate 4 0;
}

-- the new PSW at 104
abbrev low_storage : List ℕ
low_storage = replicate 104 0 ++ (0 ∷ 8 ∷ 0 ∷ 0 ∷ 0x80 ∷ 1 ∷ 0 ∷ 0x80 ∷ replicate 40 0xEE)

abbrev alone : Side
alone = record { keys = 0 ∷ []; bus = quiet Operating ∷ []; console = []; clock = 0 }

abbrev early : Done
early = done zeros 0 low_storage alone

pub early_stores : bytes zeros (storage_after zeros early low_storage) 140 4 ≡ 0 ∷ 0 ∷ 0 ∷ 6 ∷ []
unfolding done due signals_of storage_after bytes byte place
early_stores = refl

pub early_takes : psw_after zeros early low_storage ≡ record { w0 = 0x00080000; w1 = 0x80010080 }
unfolding done due signals_of storage_after psw_after word_at bytes byte place
early_takes = refl

-- ---- an overflow: AR 1,2 of X'7FFFFFFF' and 1 with its mask bit one interrupts after completion, with code 8

abbrev summing : Registers
summing = record {
  general = 0 ∷ 0x7FFFFFFF ∷ 1 ∷ replicate 13 0;
  control = replicate 16 0;
  psw = record { w0 = 0x00080800; w1 = 0x80000090 };
  prefix = 0;
  clocks = replicate 4 0;
}

abbrev with_sum : List ℕ
with_sum = replicate 144 0 ++ (0x1A ∷ 0x12 ∷ replicate 6 0)

abbrev overflow : Done
overflow = unit summing 0 with_sum alone

-- the sum, and the PSW to be stored with condition code 3 and the next address
abbrev overflown : Registers
overflown = record summing {
  general = 0 ∷ 0x80000000 ∷ 1 ∷ replicate 13 0;
  psw = record { w0 = 0x00083800; w1 = 0x80000092 };
}

pub overflow_done : overflow ≡ record (interrupted overflown (Some Program) 0x00020008 (0 ∷ [])) { to = 0 }
unfolding unit instructed performed exception start_code fetch_len fetch_code fetched fetched_blocks
    decoded number_of row_numbered kind_numbered line words_line rr_row add_row valued with_value advanced
    codes permit refused referenced noted_of noted byte bytes place
overflow_done = refl

-- ---- an opcode that is in no row: an operation exception, its block referenced

pub no_row : decoded (0xB2 ∷ 0x1B ∷ 0 ∷ 0 ∷ 0 ∷ 0 ∷ []) ≡ None
unfolding decoded number_of
no_row = refl
