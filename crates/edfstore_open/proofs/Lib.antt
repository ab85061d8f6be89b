mod OnFile
mod InMemory
mod Interrupted
