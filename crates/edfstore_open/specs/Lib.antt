pub mod AtPath
pub mod Cache
pub mod Ended
pub mod OnFile
pub mod InMemory
pub mod Program
