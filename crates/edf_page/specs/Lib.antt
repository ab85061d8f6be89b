pub mod Night
pub mod Programs
pub mod Laws
pub mod Inside
pub mod InsideHeld
pub mod InsideFolder
