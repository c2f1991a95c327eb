pub mod FieldsRead
pub mod FieldsAgain
pub mod PartsRead
pub mod PartsAgain
pub mod SaveRead
pub mod SaveAgain
