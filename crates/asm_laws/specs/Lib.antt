pub mod AcceptedSource
pub mod LoadedProgram
