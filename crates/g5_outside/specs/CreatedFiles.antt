-- Three files by the numbers 0 to 2.
use Rattle.std.specs.Prelude.{ℕ, List, [], ◌==◌, if◌then◌else◌}
use Rattle.g5_outside.specs.BoundedTexts.{text_in, room_in}
use Rattle.g5_outside.specs.declared.created_files.CreatedFiles.{CreatedFiles}

abbrev pub name_in : CreatedFiles → ℕ → List ℕ
name_in files n =
    if n == 0 then text_in files.first.name
    else if n == 1 then text_in files.second.name
    else if n == 2 then text_in files.third.name
    else []

abbrev pub created_text : CreatedFiles → ℕ → List ℕ
created_text files n =
    if n == 0 then text_in files.first.text
    else if n == 1 then text_in files.second.text
    else if n == 2 then text_in files.third.text
    else []

-- the room for each name and for each text
abbrev pub files_room : CreatedFiles → ℕ
files_room files = room_in files.first.text
