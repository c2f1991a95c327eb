pub mod SameHeld
pub mod SamePlaces
pub mod Signalled
pub mod StandingAgain
