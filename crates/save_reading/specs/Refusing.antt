-- A refusal is the one that the format gives; want of memory comes at any point.
-- Source: choice of this project.
use Rattle.std.specs.Prelude.{◌≡◌, Result, Err, ⊤}
use Rattle.save_model.specs.declared.refusal.SaveRefusal.{SaveRefusal}
use Rattle.save_model.specs.declared.refusal.SaveRefusal.TheVariants.{NoMemory}
use Rattle.save_model.specs.Save.{Save}

abbrev pub IsRefused : Result Save SaveRefusal → SaveRefusal → Type 0
IsRefused given NoMemory = ⊤
IsRefused given refusal = given ≡ Err refusal
