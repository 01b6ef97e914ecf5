mod Answering
mod ChunkSteps
mod Heads
mod Loads
mod Numbers
mod Reading
mod Using
