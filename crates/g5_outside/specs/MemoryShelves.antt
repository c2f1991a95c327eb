-- What is seen of a shelf in memory.
use Rattle.std.specs.Prelude.{ℕ, true, drop}
use Rattle.g5_outside.specs.Numbers.{numbers_below}
use Rattle.g5_outside.specs.Views.{ShelfView}
use Rattle.g5_outside.specs.Plans.{Plan, plan_of, step_of}
use Rattle.g5_outside.specs.CreatedFiles.{name_in, created_text, files_room}
use Rattle.g5_outside.specs.MemoryFiles.{files_of, bytes_at}
use Rattle.g5_outside.specs.declared.memory_shelf.MemoryShelf.{MemoryShelf}

abbrev pub shelf_view : MemoryShelf → ShelfView
shelf_view s = record {
  told = true;
  files = files_of s.files.items;
  left = drop s.at_byte (bytes_at s.files.items s.at_file);
  name_of = name_in s.created;
  text_of = created_text s.created;
  numbers = numbers_below s.given;
  found = s.found;
  read_faults = s.read_faults;
  write_faults = s.write_faults;
}

-- which of its calls fail, and how many were made
abbrev pub shelf_plan : MemoryShelf → Plan
shelf_plan s = plan_of s.calls

-- the most bytes that one read or write moves
abbrev pub shelf_step : MemoryShelf → ℕ
shelf_step s = step_of s.calls

-- the room for each created file, and for its name
abbrev pub shelf_room : MemoryShelf → ℕ
shelf_room s = files_room s.created
